-- Which numbers stand in a list, in what a filter keeps, and in a range.
use Rattle.std.proofs.Common.{◌≡◌, ℕ, Bool, true, false, cond, ◌||◌, List, [], ◌∷◌, filter, find, nat_eq, Option, Some, None, refl, sym, subst, inl, inr, eq-eqb, zero, suc, ◌+◌, ◌<◌, ◌≤◌, arith, eqb-true, ◌∙◌, ◌≢◌, true≢false}
use Rattle.std.specs.List.{list_any, list_all, range_with_len}
use Rattle.dc_spec.specs.Lists.{is_among}
use Rattle.dc_spec.proofs.Booleans.{or_cases, or_first, or_second}
use Rattle.std.proofs.lemmas.Bool.{eqb-false, cases_Bool, and_from, and_parts}

-- nothing is not something
pub nothing_found : (x : ℕ) (o : Option ℕ) → o ≡ Some x → o ≡ None → ⊥
nothing_found x o is none = let clash : ⊥ = cc in clash

-- what a search finds passes the test and stands in the list
pub found_passes : (p : ℕ → Bool) (xs : List ℕ) (x : ℕ) → find p xs ≡ Some x → (p x ≡ true) × (is_among xs x ≡ true)
found_passes p [] x h = absurd (nothing_found x _ h refl)
found_passes p (y ∷ ys) x h = (elim (p y) as (λ b. p y ≡ b → cond b (Some y) (find p ys) ≡ Some x → (p x ≡ true) × ((nat_eq x y || is_among ys x) ≡ true)) [
  | true ↦ λ e k. (let same : y ≡ x = cc in (subst (λ (z : ℕ). p z ≡ true) same e, or_first (nat_eq x y) (is_among ys x) (eq-eqb x y (sym same))))
  | false ↦ λ e k. (let later = found_passes p ys x k in (later.0, or_second (nat_eq x y) (is_among ys x) later.1))
]) refl h

-- filters by tests that agree on the items are equal
pub filter-same : (p q : ℕ → Bool) (xs : List ℕ) → ((x : ℕ) → is_among xs x ≡ true → p x ≡ q x) → filter p xs ≡ filter q xs
filter-same p q [] same = refl
filter-same p q (x ∷ xs) same =
    let ih = filter-same p q xs (λ y h. same y (or_second (nat_eq y x) (is_among xs y) h)) in
    let here = same x (or_first (nat_eq x x) (is_among xs x) (eq-eqb x x refl)) in
    rw here (rw ih refl)

-- an item passes a weaker test too
pub any_weaker : {X : Type 0} (p q : X → Bool) (xs : List X) → ((x : X) → p x ≡ true → q x ≡ true) → list_any p xs ≡ true → list_any q xs ≡ true
any_weaker p q [] weaker h = h
any_weaker p q (x ∷ xs) weaker h = elim (or_cases (p x) (list_any p xs) h) [
  | inl here ↦ or_first (q x) (list_any q xs) (weaker x here)
  | inr later ↦ or_second (q x) (list_any q xs) (any_weaker p q xs weaker later)
]

-- a station of the list passes the test
pub witness : (p : ℕ → Bool) (xs : List ℕ) → list_any p xs ≡ true → (x : ℕ) × (is_among xs x ≡ true) × (p x ≡ true)
witness p [] h = absurd (true≢false (sym h))
witness p (y ∷ ys) h = elim (or_cases (p y) (list_any p ys) h) [
  | inl here ↦ (y, or_first (nat_eq y y) (is_among ys y) (eq-eqb y y refl), here)
  | inr later ↦ (let w = witness p ys later in (w.0, or_second (nat_eq w.0 y) (is_among ys w.0) w.1, w.2))
]

-- a station that stands in the list and passes the test lets the list pass it
pub any_by : (p : ℕ → Bool) (xs : List ℕ) (x : ℕ) → is_among xs x ≡ true → p x ≡ true → list_any p xs ≡ true
any_by p [] x h passes = absurd (true≢false (sym h))
any_by p (y ∷ ys) x h passes = elim (or_cases (nat_eq x y) (is_among ys x) h) [
  | inl same ↦ or_first (p y) (list_any p ys) (subst (λ (z : ℕ). p z ≡ true) (eqb-true x y same) passes)
  | inr later ↦ or_second (p y) (list_any p ys) (any_by p ys x later passes)
]

-- what stands in a filtered list passed the test
pub kept_passes : (p : ℕ → Bool) (xs : List ℕ) (x : ℕ) → is_among (filter p xs) x ≡ true → p x ≡ true
kept_passes p [] x h = absurd (true≢false (sym h))
kept_passes p (y ∷ ys) x h = (elim (p y) as (λ b. p y ≡ b → is_among (cond b (y ∷ filter p ys) (filter p ys)) x ≡ true → p x ≡ true) [
  | true ↦ λ e k. elim (or_cases (nat_eq x y) (is_among (filter p ys) x) k) [
    | inl same ↦ subst (λ (z : ℕ). p z ≡ true) (sym (eqb-true x y same)) e
    | inr later ↦ kept_passes p ys x later
  ]
  | false ↦ λ e k. kept_passes p ys x k
]) refl h

-- what stands in a filtered list stands in the list
pub kept_stands : (p : ℕ → Bool) (xs : List ℕ) (x : ℕ) → is_among (filter p xs) x ≡ true → is_among xs x ≡ true
kept_stands p [] x h = h
kept_stands p (y ∷ ys) x h = (elim (p y) as (λ b. is_among (cond b (y ∷ filter p ys) (filter p ys)) x ≡ true → (nat_eq x y || is_among ys x) ≡ true) [
  | true ↦ λ k. elim (or_cases (nat_eq x y) (is_among (filter p ys) x) k) [
    | inl same ↦ or_first (nat_eq x y) (is_among ys x) same
    | inr later ↦ or_second (nat_eq x y) (is_among ys x) (kept_stands p ys x later)
  ]
  | false ↦ λ k. or_second (nat_eq x y) (is_among ys x) (kept_stands p ys x k)
]) h

-- what passes the test and stands in a list stands in the filtered one
pub passes_kept : (p : ℕ → Bool) (xs : List ℕ) (x : ℕ) → is_among xs x ≡ true → p x ≡ true → is_among (filter p xs) x ≡ true
passes_kept p [] x h passes = absurd (true≢false (sym h))
passes_kept p (y ∷ ys) x h passes = (elim (p y) as (λ b. p y ≡ b → is_among (cond b (y ∷ filter p ys) (filter p ys)) x ≡ true) [
  | true ↦ λ e. elim (or_cases (nat_eq x y) (is_among ys x) h) [
    | inl same ↦ or_first (nat_eq x y) (is_among (filter p ys) x) same
    | inr later ↦ or_second (nat_eq x y) (is_among (filter p ys) x) (passes_kept p ys x later passes)
  ]
  | false ↦ λ e. elim (or_cases (nat_eq x y) (is_among ys x) h) [
    | inl same ↦ absurd (true≢false (sym (subst (λ (z : ℕ). p z ≡ true) (eqb-true x y same) passes) ∙ e))
    | inr later ↦ passes_kept p ys x later passes
  ]
]) refl

-- a range has the numbers from its first one on
pub in_range : (a n x : ℕ) → a ≤ x → x < a + n → is_among (range_with_len a n) x ≡ true
in_range a zero x low high = absurd (omega arith)
in_range a (suc n) x low high = elim (cases_Bool (nat_eq x a)) [
  | inl same ↦ or_first (nat_eq x a) (is_among (range_with_len (a + 1) n) x) same
  | inr other ↦ (let ne : x ≢ a = eqb-false x a other in or_second (nat_eq x a) (is_among (range_with_len (a + 1) n) x) (in_range (a + 1) n x (omega arith) (omega arith)))
]

-- and no others
pub below_range : (a n x : ℕ) → is_among (range_with_len a n) x ≡ true → x < a + n
below_range a zero x h = absurd (true≢false (sym h))
below_range a (suc n) x h = elim (or_cases (nat_eq x a) (is_among (range_with_len (a + 1) n) x) h) [
  | inl same ↦ (let e : x ≡ a = eqb-true x a same in omega arith)
  | inr later ↦ (let less : x < a + 1 + n = below_range (a + 1) n x later in omega arith)
]

-- nor any below its first one
pub from_range : (a n x : ℕ) → is_among (range_with_len a n) x ≡ true → a ≤ x
from_range a zero x h = absurd (true≢false (sym h))
from_range a (suc n) x h = elim (or_cases (nat_eq x a) (is_among (range_with_len (a + 1) n) x) h) [
  | inl same ↦ (let e : x ≡ a = eqb-true x a same in omega arith)
  | inr later ↦ (let more : a + 1 ≤ x = from_range (a + 1) n x later in omega arith)
]

-- a test that all of a list pass holds at each that stands in it
pub all_at : (p : ℕ → Bool) (xs : List ℕ) → list_all p xs ≡ true → (x : ℕ) → is_among xs x ≡ true → p x ≡ true
all_at p [] all x there = absurd (true≢false (sym there))
all_at p (y ∷ ys) all x there = elim (or_cases (nat_eq x y) (is_among ys x) there) [
  | inl same ↦ subst (λ (z : ℕ). p z ≡ true) (sym (eqb-true x y same)) (and_parts _ _ all).0
  | inr later ↦ all_at p ys (and_parts _ _ all).1 x later
]

-- and conversely
pub all_from : (p : ℕ → Bool) (xs : List ℕ) → ((x : ℕ) → is_among xs x ≡ true → p x ≡ true) → list_all p xs ≡ true
all_from p [] each = refl
all_from p (y ∷ ys) each = and_from _ _ (each y (or_first (nat_eq y y) (is_among ys y) (eq-eqb y y refl))) (all_from p ys (λ x there. each x (or_second (nat_eq x y) (is_among ys x) there)))
