-- Lists that loops walk, by one more item.
use Rattle.std.proofs.Common.{◌≡◌, ℕ, zero, suc, ◌+◌, ◌-◌, ◌<◌, ◌≤◌, Bool, cond, List, [], ◌∷◌, ◌++◌, length, get_or, take, filter, refl, ap, ◌∙◌, arith, add-one}
use Rattle.std.specs.Prelude.{zip}
use Rattle.std.specs.List.{enumerate_from, flat_map, range_with_len}
use Rattle.std.proofs.lemmas.List.Concat.{flat_map-append}
use Rattle.std.proofs.lemmas.List.Elements.{filter-append}
use Rattle.std.proofs.lemmas.List.FromFn.{get_or-enumerate_from}

-- a range in two parts
pub range-split : (a m n : ℕ) → range_with_len a (m + n) ≡ range_with_len a m ++ range_with_len (a + m) n
range-split a zero n =
    let none : zero + n ≡ n = omega arith in
    let same : a + zero ≡ a = omega arith in
    rw (none, same) refl
range-split a (suc m) n =
    let more : suc m + n ≡ suc (m + n) = omega arith in
    let same : a + 1 + m ≡ a + suc m = omega arith in
    rw more (ap (λ (xs : List ℕ). a ∷ xs) (range-split (a + 1) m n ∙ ap (λ (b : ℕ). range_with_len (a + 1) m ++ range_with_len b n) same))

-- the numbers of a range that pass a test
pub filter-range_more : (p : ℕ → Bool) (n : ℕ) → filter p (range_with_len 0 (n + 1)) ≡ filter p (range_with_len 0 n) ++ cond (p n) (n ∷ []) []
filter-range_more p n =
    let next : 0 + n ≡ n = omega arith in
    ap (filter p) (range-split 0 n 1 ∙ ap (λ (b : ℕ). range_with_len 0 n ++ b ∷ []) next) ∙ filter-append p (range_with_len 0 n) (n ∷ [])

-- items with their numbers
pub enumerate-more : {X : Type 0} (n : ℕ) (xs : List X) (i j : ℕ) (d : X) → i < length xs → n + i ≡ j
    → enumerate_from n (take (i + 1) xs) ≡ enumerate_from n (take i xs) ++ (j, get_or xs i d) ∷ []
enumerate-more n [] i j d low e = absurd (omega arith)
enumerate-more n (x ∷ xs) zero j d low e = let same : n ≡ j = omega arith in ap (λ (m : ℕ). (m, x) ∷ []) same
enumerate-more {X = X} n (x ∷ xs) (suc i) j d low e =
    let later = enumerate-more (n + 1) xs i j d (omega arith) (omega arith) in
    rw (add-one (suc i)) (ap (λ (rest : List (ℕ × X)). (n, x) ∷ rest) (rw (add-one i) at later))

-- items of two lists
pub zip-more : {X Y : Type 0} (xs : List X) (ys : List Y) (i : ℕ) (d : X) (e : Y) → i < length xs → i < length ys
    → take (i + 1) (zip xs ys) ≡ take i (zip xs ys) ++ (get_or xs i d, get_or ys i e) ∷ []
zip-more [] ys i d e low low' = absurd (omega arith)
zip-more (x ∷ xs) [] i d e low low' = absurd (omega arith)
zip-more (x ∷ xs) (y ∷ ys) zero d e low low' = refl
zip-more {X = X} {Y = Y} (x ∷ xs) (y ∷ ys) (suc i) d e low low' =
    let later = zip-more xs ys i d e (omega arith) (omega arith) in
    rw (add-one (suc i)) (ap (λ (rest : List (X × Y)). (x, y) ∷ rest) (rw (add-one i) at later))

-- a range with its last number apart
pub range-more : (a b : ℕ) → a ≤ b → range_with_len a (b + 1 - a) ≡ range_with_len a (b - a) ++ b ∷ []
range-more a b le =
    let parts : b + 1 - a ≡ b - a + 1 = omega arith in
    let last : a + (b - a) ≡ b = omega arith in
    rw parts (range-split a (b - a) 1 ∙ ap (λ (n : ℕ). range_with_len a (b - a) ++ n ∷ []) last)

-- the texts of the first numbers of a range, then those of the others
pub flat_map-range : (f : ℕ → List ℕ) (a b c : ℕ) → a ≤ b → b ≤ c
    → flat_map f (range_with_len a (c - a)) ≡ flat_map f (range_with_len a (b - a)) ++ flat_map f (range_with_len b (c - b))
flat_map-range f a b c le le' =
    let parts : c - a ≡ b - a + (c - b) = omega arith in
    let next : a + (b - a) ≡ b = omega arith in
    rw parts (ap (flat_map f) (range-split a (b - a) (c - b) ∙ ap (λ (n : ℕ). range_with_len a (b - a) ++ range_with_len n (c - b)) next)
    ∙ flat_map-append f (range_with_len a (b - a)) (range_with_len b (c - b)))

-- a place of items with their numbers
pub get_or-enumerate : {X : Type 0} (xs : List X) (i : ℕ) (d : X) → i < length xs → get_or (enumerate_from 0 xs) i (0, d) ≡ (i, get_or xs i d)
get_or-enumerate {X = X} xs i d low =
    let same : 0 + i ≡ i = omega arith in
    get_or-enumerate_from 0 xs i (0, d) low ∙ ap (λ (n : ℕ). (n, get_or xs i d)) same
