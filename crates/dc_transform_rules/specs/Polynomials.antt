-- Polynomials with residues as coefficients, as lists: the constant coefficient comes first. They
-- are multiplied modulo x ^ n - e, where n is the length of both lists: the power x ^ n counts as e.
use Rattle.std.specs.Prelude.{ℕ, List, [], ◌∷◌, ◌++◌, length, map, replicate, take, drop}
use Rattle.dc_transform_rules.specs.Residues.{plus, times}

-- the sums of the numbers of two lists, place by place
abbrev pub sums : List ℕ → List ℕ → List ℕ
sums [] ys = []
sums (x ∷ xs) [] = []
sums (x ∷ xs) (y ∷ ys) = plus x y ∷ sums xs ys

-- the products of the numbers of two lists, place by place
abbrev pub products : List ℕ → List ℕ → List ℕ
products [] ys = []
products (x ∷ xs) [] = []
products (x ∷ xs) (y ∷ ys) = times x y ∷ products xs ys

-- each number of a list times a constant
abbrev pub scaled : ℕ → List ℕ → List ℕ
scaled c xs = map (times c) xs

-- the last number of a list, and before it is a number for the empty list
abbrev pub last_of : ℕ → List ℕ → ℕ
last_of x [] = x
last_of x (y ∷ ys) = last_of y ys

-- a list with a number put before it and its last number left out
abbrev pub shifted : ℕ → List ℕ → List ℕ
shifted x [] = []
shifted x (y ∷ ys) = x ∷ shifted y ys

-- a polynomial times x: the last coefficient comes round to the front, times e
abbrev pub turned : ℕ → List ℕ → List ℕ
turned e a = shifted (times e (last_of 0 a)) a

-- the product of two polynomials: the coefficients of b multiply a, a times x, a times x ^ 2, ..
abbrev pub product : ℕ → List ℕ → List ℕ → List ℕ
product e a [] = replicate (length a) 0
product e a (y ∷ b) = sums (scaled y a) (product e (turned e a) b)

-- a list of rows of a width, each row times a factor of its own
abbrev pub rows_scaled : ℕ → List ℕ → List ℕ → List ℕ
rows_scaled width a [] = []
rows_scaled width a (f ∷ fs) = scaled f (take width a) ++ rows_scaled width (drop width a) fs
