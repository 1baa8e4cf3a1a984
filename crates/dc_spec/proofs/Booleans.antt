-- Tests by cases.
use Rattle.std.proofs.Common.{◌≡◌, ℕ, Bool, true, false, ◌||◌, nat_eq, refl, sym, ◌∙◌, inl, inr, eqb-true, eq-eqb, true≢false, ◌⊎◌}
use Rattle.std.proofs.lemmas.Bool.{eqb-false, cases_Bool}

-- numbers are compared either way round
pub nat_eq-comm : (a b : ℕ) → nat_eq a b ≡ nat_eq b a
nat_eq-comm a b = elim (cases_Bool (nat_eq a b)) [
  | inl same ↦ same ∙ sym (eq-eqb b a (sym (eqb-true a b same)))
  | inr other ↦ (elim (cases_Bool (nat_eq b a)) [
    | inl same ↦ absurd (eqb-false a b other (sym (eqb-true b a same)))
    | inr unlike ↦ other ∙ sym unlike
  ])
]

-- tests that pass one another are equal
pub test-same : (a b : Bool) → (a ≡ true → b ≡ true) → (b ≡ true → a ≡ true) → a ≡ b
test-same true b to from = sym (to refl)
test-same false true to from = absurd (true≢false (sym (from refl)))
test-same false false to from = refl

-- one of two tests passed
pub or_cases : (a b : Bool) → (a || b) ≡ true → (a ≡ true) ⊎ (b ≡ true)
or_cases true b h = inl refl
or_cases false b h = inr h

-- the first of two tests passed, so one of them did
pub or_first : (a b : Bool) → a ≡ true → (a || b) ≡ true
or_first true b h = refl
or_first false b h = absurd (true≢false (sym h))

-- the second did
pub or_second : (a b : Bool) → b ≡ true → (a || b) ≡ true
or_second true b h = refl
or_second false b h = h
