-- The granted fields from a field on: the first of them, and those after it.
use Rattle.std.proofs.Common.{◌≡◌, ℕ, zero, suc, ◌+◌, ◌<◌, ◌≤◌, Bool, true, false, nat_le, List, [], ◌∷◌, filter, Some, None, refl, sym, ap, ◌∙◌, inl, inr, ◌⊎◌, arith, le-leb}
use Rattle.std.specs.List.{find, range_with_len}
use Rattle.std.proofs.lemmas.Bool.{cases_lt}
use Rattle.std.proofs.lemmas.Bool.Decides.{nat_tests}
use Rattle.dc_reserve.specs.Fields.{fields_of, has_field}
use Rattle.dc_station.specs.Receiving.{fields_from}

-- where nothing is found nothing passes
none_pass_by : (p : ℕ → Bool) (x : ℕ) (xs : List ℕ) (b : Bool) → p x ≡ b → (find p xs ≡ None → filter p xs ≡ []) → find p (x ∷ xs) ≡ None → filter p (x ∷ xs) ≡ []
none_pass_by p x xs true e rest none = let bad = rw e at none in cc
none_pass_by p x xs false e rest none = let later = rw e at none in rw e (rest later)

none_pass : (p : ℕ → Bool) (xs : List ℕ) → find p xs ≡ None → filter p xs ≡ []
none_pass p [] none = refl
none_pass p (x ∷ xs) none = none_pass_by p x xs (p x) refl (none_pass p xs) none

-- what is found passes
found_passes_by : (p : ℕ → Bool) (x found : ℕ) (xs : List ℕ) (b : Bool) → p x ≡ b → (find p xs ≡ Some found → p found ≡ true) → find p (x ∷ xs) ≡ Some found → p found ≡ true
found_passes_by p x found xs true e rest some = let here = rw e at some in let same : x ≡ found = cc in rw (← same) e
found_passes_by p x found xs false e rest some = let later = rw e at some in rest later

found_passes : (p : ℕ → Bool) (found : ℕ) (xs : List ℕ) → find p xs ≡ Some found → p found ≡ true
found_passes p found [] some = cc
found_passes p found (x ∷ xs) some = found_passes_by p x found xs (p x) refl (found_passes p found xs) some

-- numbers that are all at or above a bound all stay
all_stay_by : (p : ℕ → Bool) (f a : ℕ) (rest : List ℕ) (b : Bool) → p a ≡ b → f ≤ a → filter (λ k. nat_le f k) (filter p rest) ≡ filter p rest
    → filter (λ k. nat_le f k) (filter p (a ∷ rest)) ≡ filter p (a ∷ rest)
all_stay_by p f a rest true e le after = rw (e, le-leb f a le, after) refl
all_stay_by p f a rest false e le after = rw e after

all_stay : (p : ℕ → Bool) (f a n : ℕ) → f ≤ a → filter (λ k. nat_le f k) (filter p (range_with_len a n)) ≡ filter p (range_with_len a n)
all_stay p f a zero le = refl
all_stay p f a (suc n) le = all_stay_by p f a (range_with_len (a + 1) n) (p a) refl le (all_stay p f (a + 1) n (omega arith))

-- the numbers at or above a bound begin with the first that is found, and then come those above it
abbrev SplitsAt : (ℕ → Bool) → ℕ → List ℕ → ℕ → Type 0
SplitsAt p f xs x = filter (λ k. nat_le f k) (filter p xs) ≡ x ∷ filter (λ k. nat_le (x + 1) k) (filter p xs)

splits_here : (p : ℕ → Bool) (f a n : ℕ) → p a ≡ true → f ≤ a → SplitsAt p f (range_with_len a (suc n)) a
splits_here p f a n e le =
    let above : nat_le (a + 1) a ≡ false = grind (arith, nat_tests) in
    rw (e, le-leb f a le, above) (ap (λ ks. a ∷ ks) (all_stay p f (a + 1) n (omega arith) ∙ sym (all_stay p (a + 1) (a + 1) n (omega arith))))

splits_later : (p : ℕ → Bool) (f a n x : ℕ) (b : Bool) → p a ≡ b → a < f → f ≤ x → SplitsAt p f (range_with_len (a + 1) n) x → SplitsAt p f (range_with_len a (suc n)) x
splits_later p f a n x true e lt le rest =
    let below : nat_le f a ≡ false = grind (arith, nat_tests) in
    let above : nat_le (x + 1) a ≡ false = grind (arith, nat_tests) in
    rw (e, below, above) rest
splits_later p f a n x false e lt le rest = rw e rest

splits_by : (p : ℕ → Bool) (f a n x : ℕ) (b : Bool) → p a ≡ b → (find (λ k. nat_le f k) (filter p (range_with_len (a + 1) n)) ≡ Some x → SplitsAt p f (range_with_len (a + 1) n) x)
    → find (λ k. nat_le f k) (filter p (range_with_len a (suc n))) ≡ Some x → (a < f) ⊎ (f ≤ a) → SplitsAt p f (range_with_len a (suc n)) x
splits_by p f a n x true e rest some (inl lt) =
    let below : nat_le f a ≡ false = grind (arith, nat_tests) in
    let later = rw (e, below) at some in
    let passes : nat_le f x ≡ true = found_passes (λ k. nat_le f k) x (filter p (range_with_len (a + 1) n)) later in
    splits_later p f a n x true e lt (grind (arith, nat_tests)) (rest later)
splits_by p f a n x true e rest some (inr le) =
    let here = rw (e, le-leb f a le) at some in
    let same : a ≡ x = cc in
    rw (← same) (splits_here p f a n e le)
splits_by p f a n x false e rest some side = let later = rw e at some in rw e (rest later)

splits : (p : ℕ → Bool) (f a n x : ℕ) → find (λ k. nat_le f k) (filter p (range_with_len a n)) ≡ Some x → SplitsAt p f (range_with_len a n) x
splits p f a zero x some = cc
splits p f a (suc n) x some = splits_by p f a n x (p a) refl (splits p f (a + 1) n x) some (cases_lt a f)

-- the first of a set's fields at or above a bound, and then those above it; or none
pub fields_from-first : (flags : List Bool) (f x : ℕ) → find (λ k. nat_le f k) (fields_of flags) ≡ Some x → fields_from flags f ≡ x ∷ fields_from flags (x + 1)
unfolding fields_of
fields_from-first flags f x some = splits (has_field flags) f 0 16 x some

pub fields_from-none : (flags : List Bool) (f : ℕ) → find (λ k. nat_le f k) (fields_of flags) ≡ None → fields_from flags f ≡ []
fields_from-none flags f none = none_pass (λ k. nat_le f k) (fields_of flags) none

-- all fields are at or above 0
pub fields_from-zero : (flags : List Bool) → fields_from flags 0 ≡ fields_of flags
unfolding fields_of
fields_from-zero flags = all_stay (has_field flags) 0 0 16 (omega arith)
