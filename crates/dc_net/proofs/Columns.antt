-- The words at one place of each row.
use Rattle.std.proofs.Common.{◌≡◌, ℕ, ◌+◌, ◌*◌, ◌/◌, ◌<◌, List, [], ◌∷◌, ◌++◌, length, get_or, map, sym, ap, ◌∙◌, arith, refl}
use Rattle.std.specs.List.{range_with_len}
use Rattle.std.proofs.lemmas.List.FromFn.{map-range_with_len_more, fill_by_all}
use Rattle.std.proofs.Math.Nat.{mul-div_cancel, zero-div}
use Rattle.dc_spec.specs.Words.{zero_word}
use Rattle.dc_net.specs.WordList.{column}

-- so many whole rows
pub row_count : (n t : ℕ) → 0 < n → (t * n + n) / n ≡ t + 1
row_count n t some = ap (λ (m : ℕ). m / n) (let e : t * n + n ≡ (t + 1) * n = omega arith in e) ∙ mul-div_cancel (t + 1) some

-- one row more
pub column_more : (heard received : List (List ℕ)) (n j : ℕ) → j < n → length heard ≡ length received * n + n
    → ((k : ℕ) → k < length received → get_or received k zero_word ≡ get_or heard (k * n + j) zero_word)
    → column n j heard ≡ received ++ get_or heard (length received * n + j) zero_word ∷ []
column_more heard received n j place count before =
    let f : ℕ → List ℕ = λ k. get_or heard (k * n + j) zero_word in
    let rows : length heard / n ≡ length received + 1 = ap (λ (m : ℕ). m / n) count ∙ row_count n (length received) (omega arith) in
    ap (λ (m : ℕ). map f (range_with_len 0 m)) rows ∙ map-range_with_len_more f 0 (length received) (length received) (omega arith)
    ∙ ap (λ (xs : List (List ℕ)). xs ++ f (length received) ∷ []) (sym (fill_by_all f received (length received) zero_word refl before))

-- before the first row there are none
pub column_none : (heard : List (List ℕ)) (n j : ℕ) → heard ≡ [] → column n j heard ≡ []
column_none heard n j none = ap (λ (xs : List (List ℕ)). column n j xs) none
    ∙ ap (λ (m : ℕ). map (λ k. get_or {A = List ℕ} [] (k * n + j) zero_word) (range_with_len 0 m)) (zero-div n)
