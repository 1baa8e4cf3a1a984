-- The fields of a cycle's bursts rise, so none of them is there twice.
use Rattle.std.proofs.Common.{◌≡◌, ℕ, zero, suc, ◌+◌, ◌≤◌, Bool, true, false, cond, ◌==◌, List, [], ◌∷◌, ◌++◌, filter, slice_index, refl, arith, ne_eqb, eq-eqb}
use Rattle.std.specs.List.{range_with_len}
use Rattle.dc_station_rules.specs.Cycles.{granted, words_for}
use Rattle.dc_station_rules.specs.Grammar.{burst_fields}

-- numbers that rise, from this one on
pub Rises : ℕ → List ℕ → Type 0
Rises low [] = Unit {0}
Rises low (x ∷ xs) = (low ≤ x) × Rises (x + 1) xs

rises-lower : (xs : List ℕ) (low lower : ℕ) → lower ≤ low → Rises low xs → Rises lower xs
unfolding Rises
rises-lower [] low lower le is = tt
rises-lower (x ∷ xs) low lower le is = let first : low ≤ x = is.0 in (omega arith, is.1)

-- so do some of them
rises-filter : (test : ℕ → Bool) (xs : List ℕ) (low : ℕ) → Rises low xs → Rises low (filter test xs)
unfolding Rises
rises-filter test [] low is = tt
rises-filter test (x ∷ xs) low is = by_test (test x) (rises-filter test xs (x + 1) is.1)
  where
    by_test : (b : Bool) → Rises (x + 1) (filter test xs) → Rises low (cond b (x ∷ filter test xs) (filter test xs))
    by_test true more = (is.0, more)
    by_test false more = let first : low ≤ x = is.0 in rises-lower (filter test xs) (x + 1) low (omega arith) more

rises-range : (low count : ℕ) → Rises low (range_with_len low count)
unfolding Rises
rises-range low zero = tt
rises-range low (suc count) = (omega arith, rises-range (low + 1) count)

-- the granted fields
pub granted-rise : (word : List ℕ) → Rises 0 (granted word)
unfolding granted
granted-rise word = rises-filter (λ field. slice_index word field == 1) (range_with_len 0 16) 0 (rises-range 0 16)

-- a later one is greater
rises-past : (xs : List ℕ) (x : ℕ) (rest : List ℕ) (low : ℕ) → Rises low (xs ++ x ∷ rest) → low ≤ x
unfolding Rises
rises-past [] x rest low is = is.0
rises-past (y ∷ xs) x rest low is = let first : low ≤ y = is.0 in let more : y + 1 ≤ x = rises-past xs x rest (y + 1) is.1 in omega arith

-- a field whose burst has not ended has no words among the ended bursts
pub words_for-none : (bursts : List (ℕ × List (List ℕ))) (field : ℕ) (rest : List ℕ) (low : ℕ) → Rises low (burst_fields bursts ++ field ∷ rest) → words_for field bursts ≡ []
unfolding Rises
words_for-none [] field rest low is = refl
words_for-none (b ∷ bursts) field rest low is =
    let past : b.0 + 1 ≤ field = rises-past (burst_fields bursts) field rest (b.0 + 1) is.1 in
    rw (ne_eqb b.0 field (λ e. omega arith)) (words_for-none bursts field rest (b.0 + 1) is.1)

-- and the words of its burst, once that has ended
pub words_for-push : (bursts : List (ℕ × List (List ℕ))) (field : ℕ) (words : List (List ℕ)) (rest : List ℕ) (low : ℕ) → Rises low (burst_fields bursts ++ field ∷ rest)
    → words_for field (bursts ++ (field, words) ∷ []) ≡ words
unfolding Rises
words_for-push [] field words rest low is = rw (eq-eqb field field refl) refl
words_for-push (b ∷ bursts) field words rest low is =
    let past : b.0 + 1 ≤ field = rises-past (burst_fields bursts) field rest (b.0 + 1) is.1 in
    rw (ne_eqb b.0 field (λ e. omega arith)) (words_for-push bursts field words rest (b.0 + 1) is.1)

-- the words of another field stay
pub words_for-other : (bursts : List (ℕ × List (List ℕ))) (mark field : ℕ) (words : List (List ℕ)) → (field == mark) ≡ false → words_for mark (bursts ++ (field, words) ∷ []) ≡ words_for mark bursts
words_for-other [] mark field words other = rw other refl
words_for-other (b ∷ bursts) mark field words other = by_test (b.0 == mark) (words_for-other bursts mark field words other)
  where
    by_test : (test : Bool) → words_for mark (bursts ++ (field, words) ∷ []) ≡ words_for mark bursts → cond test b.1 (words_for mark (bursts ++ (field, words) ∷ []))
        ≡ cond test b.1 (words_for mark bursts)
    by_test true e = refl
    by_test false e = e
