-- Sums over lists of stations: by filters, by cases, in another order, modulo 65537.
use Rattle.std.proofs.Common.{◌≡◌, ℕ, zero, suc, ◌+◌, ◌-◌, ◌%◌, ◌<◌, ◌≤◌, ◌≢◌, Bool, true, false, cond, List, [], ◌∷◌, map, filter, sum_by, nat_eq, refl, sym, ◌∙◌, ap, subst, arith, eqb-true, eq-eqb, true≢false, inl, inr}
use Rattle.std.proofs.lemmas.Bool.{eqb-false, cases_Bool}
use Rattle.std.proofs.lemmas.List.Sums.{sum_by-cons}
use Rattle.std.specs.List.{range_with_len}
use Rattle.dc_spec.specs.Lists.{is_among}
use Rattle.dc_spec.proofs.Booleans.{or_first, or_second}
use Rattle.dc_spec.proofs.ListLemmas.{from_range}

-- a sum over what a function makes of each item
pub sum_by-map : {X Y : Type 0} (f : Y → ℕ) (g : X → Y) (xs : List X) → sum_by f (map g xs) ≡ sum_by (λ x. f (g x)) xs
sum_by-map f g [] = refl
sum_by-map f g (x ∷ xs) = sum_by-cons f (g x) (map g xs) ∙ ap (λ s. f (g x) + s) (sum_by-map f g xs) ∙ sym (sum_by-cons (λ y. f (g y)) x xs)

-- a sum over the items that pass a test: the others count 0
pub sum_by-filter : (f : ℕ → ℕ) (p : ℕ → Bool) (xs : List ℕ) → sum_by f (filter p xs) ≡ sum_by (λ x. cond (p x) (f x) 0) xs
sum_by-filter f p [] = refl
sum_by-filter f p (x ∷ xs) =
    let ih = sum_by-filter f p xs in
    let split = sum_by-cons (λ y. cond (p y) (f y) 0) x xs in
    let kept = sum_by-cons f x (filter p xs) in
    (elim (p x) as (λ b. sum_by (λ y. cond (p y) (f y) 0) (x ∷ xs) ≡ cond b (f x) 0 + sum_by (λ y. cond (p y) (f y) 0) xs → sum_by f (cond b (x ∷ filter p xs) (filter p xs))
    ≡ sum_by (λ y. cond (p y) (f y) 0) (x ∷ xs)) [
      | true ↦ λ e. omega arith
      | false ↦ λ e. omega arith
    ]) split

-- sums of functions that agree on the items are equal
pub sum_by-same : (f g : ℕ → ℕ) (xs : List ℕ) → ((x : ℕ) → is_among xs x ≡ true → f x ≡ g x) → sum_by f xs ≡ sum_by g xs
sum_by-same f g [] same = refl
sum_by-same f g (x ∷ xs) same =
    let ih = sum_by-same f g xs (λ y h. same y (or_second (nat_eq y x) (is_among xs y) h)) in
    let here = same x (or_first (nat_eq x x) (is_among xs x) (eq-eqb x x refl)) in
    let left = sum_by-cons f x xs in
    let right = sum_by-cons g x xs in
    omega arith

-- the sum of two functions is the sum of both sums
pub sum_by-plus : (f g : ℕ → ℕ) (xs : List ℕ) → sum_by (λ x. f x + g x) xs ≡ sum_by f xs + sum_by g xs
sum_by-plus f g [] = refl
sum_by-plus f g (x ∷ xs) =
    let ih = sum_by-plus f g xs in
    let all = sum_by-cons (λ y. f y + g y) x xs in
    let left = sum_by-cons f x xs in
    let right = sum_by-cons g x xs in
    omega arith

-- a sum of zeros
pub sum_by-zero : (xs : List ℕ) → sum_by (λ x. 0) xs ≡ 0
sum_by-zero [] = refl
sum_by-zero (x ∷ xs) =
    let ih = sum_by-zero xs in
    let split = sum_by-cons (λ (y : ℕ). 0) x xs in
    omega arith

-- a sum that a test lets count or not
pub sum_by-guarded : (b : Bool) (f : ℕ → ℕ) (xs : List ℕ) → sum_by (λ x. cond b (f x) 0) xs ≡ cond b (sum_by f xs) 0
sum_by-guarded true f xs = refl
sum_by-guarded false f xs = sum_by-zero xs

-- a double sum in the other order
pub sum_by-exchange : (f : ℕ → ℕ → ℕ) (xs ys : List ℕ) → sum_by (λ x. sum_by (f x) ys) xs ≡ sum_by (λ y. sum_by (λ x. f x y) xs) ys
sum_by-exchange f [] ys = sym (sum_by-zero ys)
sum_by-exchange f (x ∷ xs) ys =
    let ih = sum_by-exchange f xs ys in
    let left = sum_by-cons (λ z. sum_by (f z) ys) x xs in
    let both = sum_by-plus (f x) (λ y. sum_by (λ z. f z y) xs) ys in
    let right = sum_by-same (λ y. sum_by (λ z. f z y) (x ∷ xs)) (λ y. f x y + sum_by (λ z. f z y) xs) ys (λ y h. sum_by-cons (λ z. f z y) x xs) in
    omega arith

-- where no item is v, only zeros count
sum_by-none : (f : ℕ → ℕ) (v : ℕ) (xs : List ℕ) → is_among xs v ≡ false → sum_by (λ x. cond (nat_eq x v) (f x) 0) xs ≡ 0
sum_by-none f v xs none = sum_by-same (λ x. cond (nat_eq x v) (f x) 0) (λ x. 0) xs (λ x h. elim (cases_Bool (nat_eq x v)) [
  | inl same ↦ absurd (true≢false (sym (subst (λ (z : ℕ). is_among xs z ≡ true) (eqb-true x v same) h) ∙ none))
  | inr other ↦ rw other refl
]) ∙ sum_by-zero xs

-- among the numbers of a range v alone counts
pub sum_by-single : (f : ℕ → ℕ) (a n v : ℕ) → a ≤ v → v < a + n → sum_by (λ x. cond (nat_eq x v) (f x) 0) (range_with_len a n) ≡ f v
sum_by-single f a zero v low high = absurd (omega arith)
sum_by-single f a (suc n) v low high =
    let split = sum_by-cons (λ x. cond (nat_eq x v) (f x) 0) a (range_with_len (a + 1) n) in
    elim (cases_Bool (nat_eq a v)) [
      | inl same ↦ (let e : a ≡ v = eqb-true a v same in
          let rest = sum_by-none f v (range_with_len (a + 1) n) (elim (cases_Bool (is_among (range_with_len (a + 1) n) v)) [
            | inl there ↦ absurd (let more = from_range (a + 1) n v there in omega arith)
            | inr missing ↦ missing
          ]) in
          let here : cond (nat_eq a v) (f a) 0 ≡ f v = rw same (ap f e) in
          omega arith)
      | inr other ↦ (let ne : a ≢ v = eqb-false a v other in
          let ih = sum_by-single f (a + 1) n v (omega arith) (omega arith) in
          let here : cond (nat_eq a v) (f a) 0 ≡ 0 = rw other refl in
          omega arith)
    ]

-- a sum modulo 65537 may take its items modulo 65537
pub sum_by-mod : (f : ℕ → ℕ) (xs : List ℕ) → sum_by (λ x. f x % 65537) xs % 65537 ≡ sum_by f xs % 65537
sum_by-mod f [] = refl
sum_by-mod f (x ∷ xs) =
    let ih = sum_by-mod f xs in
    let left = sum_by-cons (λ y. f y % 65537) x xs in
    let right = sum_by-cons f x xs in
    omega arith

-- what is left of a sum modulo 65537 when a part of it is taken away
pub taken_away : (x y z : ℕ) → x < 65537 → z % 65537 ≡ y % 65537 → ((x + y) % 65537 + (65537 - z % 65537)) % 65537 ≡ x
taken_away x y z low e = omega arith
