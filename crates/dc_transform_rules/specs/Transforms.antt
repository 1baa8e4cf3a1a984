-- The transform modulo 65537, which turns products of polynomials into products place by place. A
-- polynomial modulo x ^ (2 n) - c ^ 2 is known by what it is modulo x ^ n - c and modulo x ^ n + c:
-- each step of the transform replaces it by these two, which are half as long. At a node of this
-- tree c ^ 2 is the power of 3 with some exponent y, so c has the exponent y / 2, and -c the exponent
-- y / 2 + 32768. Many polynomials may stand side by side: a coefficient is then a row of `width`
-- numbers, one for each of them.
use Rattle.std.specs.Prelude.{ℕ, zero, suc, ◌+◌, ◌-◌, ◌*◌, ◌/◌, List, ◌++◌, take, drop, map, slice_index}
use Rattle.std.specs.List.{range_with_len}
use Rattle.dc_transform_rules.specs.Residues.{root, minus_one}
use Rattle.dc_transform_rules.specs.Polynomials.{sums, scaled}

-- how many numbers there are in 2 ^ depth rows of a width
abbrev pub size : ℕ → ℕ → ℕ
size width zero = width
size width (suc depth) = size width depth + size width depth

-- the first n numbers of a list and c times those after them
abbrev pub folded : ℕ → ℕ → List ℕ → List ℕ
folded c n a = sums (take n a) (scaled c (drop n a))

-- the transform of polynomials of length 2 ^ depth modulo x ^ (2 ^ depth) - root y
abbrev pub forward : ℕ → ℕ → ℕ → List ℕ → List ℕ
forward width zero y a = a
forward width (suc depth) y a =
    forward width depth (y / 2) (folded (root (y / 2)) (size width depth) a)
    ++ forward width depth (y / 2 + 32768) (folded (root (y / 2 + 32768)) (size width depth) a)

-- both halves of a polynomial, times 2, from what it is modulo x ^ n - root z and modulo x ^ n + root z
abbrev pub unfolded : ℕ → List ℕ → List ℕ → List ℕ
unfolded z l r = sums l r ++ scaled (root (65536 - z)) (sums l (scaled minus_one r))

-- the way back, without the division by 2 at each step: it gives 2 ^ depth times what was transformed
abbrev pub backward : ℕ → ℕ → ℕ → List ℕ → List ℕ
backward width zero y a = a
backward width (suc depth) y a =
    unfolded (y / 2) (backward width depth (y / 2) (take (size width depth) a))
    (backward width depth (y / 2 + 32768) (drop (size width depth) a))

-- a column of a list of so many rows: one number of each row
abbrev pub column : ℕ → ℕ → ℕ → List ℕ → List ℕ
column width rows s a = map (λ k. slice_index a (width * k + s)) (range_with_len 0 rows)
