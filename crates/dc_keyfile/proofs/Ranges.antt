-- Lists from a function of consecutive places.
use Rattle.std.proofs.Common.{◌≡◌, ℕ, zero, suc, ◌+◌, ◌*◌, ◌<◌, cond, eqb, List, ◌∷◌, ◌++◌, length, get_or, set, drop, map, refl, sym, ap, ◌∙◌, arith, inl, inr, false}
use Rattle.std.specs.List.{range_with_len, flat_map}
use Rattle.std.proofs.lemmas.List.{drop_at, get_or-set_same, get_or-set_other, length-set}
use Rattle.std.proofs.lemmas.List.FromFn.{fill_by_all, length-map-range_with_len, get_or-map-range_with_len}
use Rattle.std.proofs.lemmas.Bool.{cases_lt, ne_eqb}

-- first m places, then n more
pub range_append : {X : Type 0} (f : ℕ → X) (m n a : ℕ) → map f (range_with_len a (m + n)) ≡ map f (range_with_len a m) ++ map f (range_with_len (a + m) n)
range_append f zero n a =
    let same : a + 0 ≡ a = omega arith in
    let none : 0 + n ≡ n = omega arith in
    λ i. map f (range_with_len (sym same i) (none i))
range_append {X} f (suc m) n a =
    let next : a + 1 + m ≡ a + suc m = omega arith in
    let peel : suc m + n ≡ suc (m + n) = omega arith in
    ap (λ (k : ℕ). map f (range_with_len a k)) peel ∙ ap (λ (xs : List X). f a ∷ xs) (range_append f m n (a + 1)
    ∙ ap (λ (k : ℕ). map f (range_with_len (a + 1) m) ++ map f (range_with_len k n)) next)

-- places counted from another one
pub shifted : {X : Type 0} (f : ℕ → X) (b n a : ℕ) → map (λ k. f (b + k)) (range_with_len a n) ≡ map f (range_with_len (b + a) n)
shifted f b zero a = refl
shifted {X} f b (suc n) a =
    let next : b + (a + 1) ≡ b + a + 1 = omega arith in
    ap (λ (xs : List X). f (b + a) ∷ xs) (shifted f b n (a + 1) ∙ ap (λ (k : ℕ). map f (range_with_len k n)) next)

-- the places after the first m
pub drop-map-range : {X : Type 0} (f : ℕ → X) (m n a : ℕ) → drop m (map f (range_with_len a (m + n))) ≡ map f (range_with_len (a + m) n)
drop-map-range f m n a =
    ap (drop m) (range_append f m n a) ∙ drop_at (map f (range_with_len a m)) (map f (range_with_len (a + m) n)) m (length-map-range_with_len f a m)

-- pieces of sixteen, one after the other
pub in_sixteens : (f : ℕ → ℕ) (n a : ℕ) → flat_map (λ w. w) (map (λ j. map (λ k. f (16 * j + k)) (range_with_len 0 16)) (range_with_len a n)) ≡ map f (range_with_len (16 * a) (16 * n))
in_sixteens f zero a = let none : 16 * zero ≡ 0 = omega arith in ap (λ (k : ℕ). map f (range_with_len (16 * a) k)) (sym none)
in_sixteens f (suc n) a =
    let more : 16 * suc n ≡ 16 + 16 * n = omega arith in
    let next : 16 * (a + 1) ≡ 16 * a + 16 = omega arith in
    let here : 16 * a + 0 ≡ 16 * a = omega arith in
    let first : map (λ k. f (16 * a + k)) (range_with_len 0 16) ≡ map f (range_with_len (16 * a) 16) = shifted f (16 * a) 16 0 ∙ ap (λ (k : ℕ). map f (range_with_len k 16)) here in
    let rest = in_sixteens f n (a + 1) ∙ ap (λ (k : ℕ). map f (range_with_len k (16 * n))) next in
    (λ i. first i ++ rest i) ∙ sym (range_append f 16 (16 * n) (16 * a)) ∙ ap (λ (k : ℕ). map f (range_with_len (16 * a) k)) (sym more)

first_or_other : (f : ℕ → ℕ) (n k : ℕ) → length (map f (range_with_len 0 n)) ≡ n → k < n → get_or (set (map f (range_with_len 0 n)) 0 0) k 0 ≡ cond (eqb k 0) 0 (f k)
first_or_other f n zero long lt = get_or-set_same (map f (range_with_len 0 n)) 0 0 0 (omega arith)
first_or_other f n (suc k) long lt =
    let other : eqb (suc k) 0 ≡ false = ne_eqb (suc k) 0 (λ e. omega arith) in
    get_or-set_other (map f (range_with_len 0 n)) 0 (suc k) 0 0 (omega arith) ∙ get_or-map-range_with_len f 0 n (suc k) (suc k) 0 lt (omega arith) ∙ rw other refl

-- the first place set to 0
pub first_set : (f : ℕ → ℕ) (n : ℕ) → 0 < n → set (map f (range_with_len 0 n)) 0 0 ≡ map (λ k. cond (eqb k 0) 0 (f k)) (range_with_len 0 n)
first_set f n some =
    let long = length-map-range_with_len f 0 n in
    let each : (k : ℕ) → k < n → get_or (set (map f (range_with_len 0 n)) 0 0) k 0 ≡ cond (eqb k 0) 0 (f k) = λ k lt. first_or_other f n k long lt in
    fill_by_all (λ k. cond (eqb k 0) 0 (f k)) (set (map f (range_with_len 0 n)) 0 0) n 0 (length-set (map f (range_with_len 0 n)) 0 0 ∙ long) each

-- one place more of a list that is filled in order
pub filled_more : (f : ℕ → ℕ) (xs ys : List ℕ) (n x : ℕ) → n < length xs → ((k : ℕ) → k < n → get_or xs k 0 ≡ f k) → x ≡ f n → ys ≡ set xs n x → (k : ℕ) → k < n + 1 → get_or ys k 0 ≡ f k
filled_more f xs ys n x lt so_far here put k below =
    elim (cases_lt k n) [
      | inl less ↦ ap (λ (zs : List ℕ). get_or zs k 0) put ∙ get_or-set_other xs n k x 0 (omega arith) ∙ so_far k less
      | inr ge ↦ let same : k ≡ n = omega arith in ap (λ (zs : List ℕ). get_or zs k 0) put ∙ rw same (get_or-set_same xs n x 0 lt ∙ here)
    ]
