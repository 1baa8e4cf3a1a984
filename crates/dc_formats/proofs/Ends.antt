-- Ends in order: of items by their places, and how many there can be.
use Rattle.std.proofs.Common.{◌≡◌, ℕ, ◌+◌, ◌*◌, ◌<◌, ◌≤◌, zero, suc, List, [], ◌∷◌, length, map, All, sym, add-one, lit≤, inl, inr, slice_index_or, arith}
use Rattle.std.proofs.lemmas.Bool.{cases_lt}
use Rattle.std.proofs.lemmas.List.{get_or-map, length-map}
use Rattle.std.proofs.lemmas.List.Elements.{All-map}
use Rattle.dc_formats.specs.KeyFile.{AreEndsBefore, AreEndsRising}

-- the ends of an item and of the next one
pub ends_rise_at : {X : Type 0} (ends : X → ℕ × ℕ) (xs : List X) → AreEndsRising (map ends xs) → (i : ℕ) (d : X) → i + 1 < length xs
    → AreEndsBefore (ends (slice_index_or xs i d)) (ends (slice_index_or xs (i + 1) d))
ends_rise_at ends xs rising i d lt =
    let here = get_or-map ends xs i d (ends d) (omega arith) in
    let next = get_or-map ends xs (i + 1) d (ends d) lt in
    rw (← here, ← next) (rising i (ends d) (omega (arith, length-map xs ends)))

-- the other way round
pub ends_rise : {X : Type 0} (ends : X → ℕ × ℕ) (xs : List X) → ((i : ℕ) (d : X) → i + 1 < length xs → AreEndsBefore (ends (slice_index_or xs i d)) (ends (slice_index_or xs (i + 1) d)))
    → AreEndsRising (map ends xs)
ends_rise ends [] each i d lt = absurd (omega arith)
ends_rise ends (x ∷ xs) each i d lt =
    let within : i + 1 < length (x ∷ xs) = omega (arith, length-map (x ∷ xs) ends) in
    let here = get_or-map ends (x ∷ xs) i x d (omega arith) in
    let next = get_or-map ends (x ∷ xs) (i + 1) x d within in
    rw (here, next) (each i x within)

-- two of so many stations, the smaller one first
abbrev pub AreEnds : ℕ → ℕ × ℕ → Type 0
AreEnds n e = (e.0 < e.1) × (e.1 < n)

-- the place of ends in the order of all ends
abbrev place_of : ℕ × ℕ → ℕ
place_of e = e.0 * 256 + e.1

-- later ends have a later place
place_rises : (n : ℕ) (e f : ℕ × ℕ) → n ≤ 256 → AreEnds n e → AreEnds n f → AreEndsBefore e f → place_of e < place_of f
place_rises n e f small is is' before =
    elim (cases_lt e.0 f.0) [
      | inl less ↦ omega arith
      | inr ge ↦ let same : e.0 ≡ f.0 = omega arith in let rises : e.1 < f.1 = before.greater same in omega arith
    ]

-- before ends stand at most as many as their place tells
place_bounds : (n : ℕ) (es : List (ℕ × ℕ)) → n ≤ 256 → All (AreEnds n) es → AreEndsRising es → (d : ℕ × ℕ) (i : ℕ) → i < length es → i ≤ place_of (slice_index_or es i d)
place_bounds n es small are rising d zero lt = omega arith
place_bounds n es small are rising d (suc i) lt =
    let here : i + 1 < length es = omega arith in
    let before : i ≤ place_of (slice_index_or es i d) = place_bounds n es small are rising d i (omega arith) in
    let rises : place_of (slice_index_or es i d) < place_of (slice_index_or es (i + 1) d) = place_rises n _ _ small (are i d (omega arith)) (are (i + 1) d here) (rising i d here) in
    rw (sym (add-one i)) (omega arith)

-- there are at most 65536
ends_count : (n : ℕ) (es : List (ℕ × ℕ)) → n ≤ 256 → All (AreEnds n) es → AreEndsRising es → length es ≤ 65536
ends_count n [] small are rising = lit≤ tt
ends_count n (e ∷ es) small are rising =
    let last : AreEnds n (slice_index_or (e ∷ es) (length es) e) = are (length es) e (omega arith) in
    let bound : length es ≤ place_of (slice_index_or (e ∷ es) (length es) e) = place_bounds n (e ∷ es) small are rising e (length es) (omega arith) in
    omega (arith, last.0, last.1)

-- of items with such ends too
pub items_count : {X : Type 0} (n : ℕ) (xs : List X) (ends : X → ℕ × ℕ) → n ≤ 256 → All (λ x. AreEnds n (ends x)) xs → AreEndsRising (map ends xs) → length xs ≤ 65536
items_count n xs ends small are rising = rw (← length-map xs ends) (ends_count n (map ends xs) small (All-map (AreEnds n) ends xs are) rising)
