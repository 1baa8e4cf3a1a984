-- Sets of fields, and the fields that a word grants.
use Rattle.std.proofs.Common.{◌≡◌, ℕ, zero, suc, ◌+◌, ◌-◌, ◌<◌, ◌≤◌, Bool, true, false, nat_le, ◌==◌, List, ◌∷◌, filter, slice_index, refl, subst, ◌∙◌, sym, ap, inl, inr, arith, le-leb}
use Rattle.std.specs.List.{find, range_with_len}
use Rattle.std.proofs.lemmas.Bool.{cases_lt}
use Rattle.std.proofs.lemmas.Bool.Decides.{nat_tests}
use Rattle.dc_station_rules.specs.Cycles.{granted}
use Rattle.dc_reserve.specs.Fields.{has_field, fields_of}

-- two tests that agree leave the same numbers
filter_same : (p q : ℕ → Bool) (a n : ℕ) → ((i : ℕ) → i < n → p (a + i) ≡ q (a + i)) → filter p (range_with_len a n) ≡ filter q (range_with_len a n)
filter_same p q a zero each = refl
filter_same p q a (suc n) each =
    let here : p a ≡ q a = let place : a + 0 ≡ a = omega arith in subst (λ k. p k ≡ q k) place (each 0 (omega arith)) in
    let rest : filter p (range_with_len (a + 1) n) ≡ filter q (range_with_len (a + 1) n) = filter_same p q (a + 1) n (λ i lt. let place : a + suc i ≡ a + 1 + i = omega arith in subst (λ k. p k ≡ q k) place (each (suc i) (omega arith))) in
    rw (here, rest) refl

-- flags that are set where a symbol is 1 are those of the granted fields
pub granted_flags : (flags : List Bool) (word : List ℕ) → ((k : ℕ) → k < 16 → has_field flags k ≡ (slice_index word k == 1)) → fields_of flags ≡ granted word
unfolding fields_of granted
granted_flags flags word each = filter_same (has_field flags) (λ field. slice_index word field == 1) 0 16 (λ i lt. let place : i ≡ 0 + i = omega arith in subst (λ k. has_field flags k ≡ (slice_index word k == 1)) place (each i lt))

-- among numbers that are all at or above f the first that passes
above_by : (p : ℕ → Bool) (f a : ℕ) (rest : List ℕ) (b : Bool) → p a ≡ b → f ≤ a → find (λ x. nat_le f x) (filter p rest) ≡ find p rest
    → find (λ x. nat_le f x) (filter p (a ∷ rest)) ≡ find p (a ∷ rest)
above_by p f a rest true e le after = rw (e, le-leb f a le) refl
above_by p f a rest false e le after = rw e after

find_above : (p : ℕ → Bool) (f a n : ℕ) → f ≤ a → find (λ x. nat_le f x) (filter p (range_with_len a n)) ≡ find p (range_with_len a n)
find_above p f a zero le = refl
find_above p f a (suc n) le = above_by p f a (range_with_len (a + 1) n) (p a) refl le (find_above p f (a + 1) n (omega arith))

-- a number below f is passed over
below_by : (p : ℕ → Bool) (f a : ℕ) (rest : List ℕ) (b : Bool) → p a ≡ b → nat_le f a ≡ false → find (λ x. nat_le f x) (filter p (a ∷ rest)) ≡ find (λ x. nat_le f x) (filter p rest)
below_by p f a rest true e low = rw (e, low) refl
below_by p f a rest false e low = rw e refl

-- the first at or above f that passes
find_from : (p : ℕ → Bool) (f a n : ℕ) → a ≤ f → find (λ x. nat_le f x) (filter p (range_with_len a n)) ≡ find p (range_with_len f (a + n - f))
find_from p f a zero le = let none : a + 0 - f ≡ 0 = omega arith in rw none refl
find_from p f a (suc n) le = elim (cases_lt a f) [
  | inl lt ↦
      let low : nat_le f a ≡ false = grind (arith, nat_tests) in
      let count : a + 1 + n - f ≡ a + suc n - f = omega arith in
      below_by p f a (range_with_len (a + 1) n) (p a) refl low ∙ find_from p f (a + 1) n (omega arith) ∙ ap (λ (k : ℕ). find p (range_with_len f k)) count
  | inr ge ↦
      let same : a ≡ f = omega arith in
      let count : suc n ≡ a + suc n - f = omega arith in
      find_above p f a (suc n) (omega arith) ∙ ap (λ (k : ℕ). find p (range_with_len a k)) count ∙ ap (λ (k : ℕ). find p (range_with_len k (a + suc n - f))) same
]

-- the least field of a set at or above f
pub least_from : (flags : List Bool) (f : ℕ) → find (has_field flags) (range_with_len f (16 - f)) ≡ find (λ field. nat_le f field) (fields_of flags)
unfolding fields_of
least_from flags f = sym (find_from (has_field flags) f 0 16 (omega arith))
