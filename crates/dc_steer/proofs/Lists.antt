-- The first place where two lists of as many numbers differ, and the symbols of one word more.
use Rattle.std.proofs.Common.{◌≡◌, ◌≢◌, ℕ, zero, suc, ◌+◌, ◌<◌, ◌≤◌, List, [], ◌∷◌, ◌++◌, length, get_or, take, nat_eq, refl, ap, arith, eq-eqb}
use Rattle.std.specs.List.{All, common_prefix_len, flat_map}
use Rattle.std.proofs.lemmas.List.{append-nil, take_more}
use Rattle.std.proofs.lemmas.List.Concat.{flat_map-append}
use Rattle.dc_key_rules.specs.PairKeys.{symbols}
use Rattle.std.proofs.lemmas.Bool.{ne_eqb}
use Rattle.std.proofs.lemmas.Grind.{get_or_default_zero}
use Rattle.dc_spec.specs.Words.{IsSymbol, IsWord}

-- lists that agree before a place and differ there, or end there
pub first_is : (xs ys : List ℕ) (k : ℕ) → length ys ≡ length xs → k ≤ length xs → ((i : ℕ) → i < k → get_or xs i 0 ≡ get_or ys i 0)
    → (k < length xs → get_or xs k 0 ≢ get_or ys k 0) → k ≡ common_prefix_len nat_eq xs ys
first_is [] ys k long within same other = omega arith
first_is (x ∷ xs) [] k long within same other = absurd (omega arith)
first_is (x ∷ xs) (y ∷ ys) zero long within same other = rw (ne_eqb x y (other (omega arith))) refl
first_is (x ∷ xs) (y ∷ ys) (suc k) long within same other =
    let rest = first_is xs ys k (omega arith) (omega arith) (λ i lt. same (suc i) (omega arith)) (λ lt. other (omega arith)) in
    rw (eq-eqb x y (same 0 (omega arith))) (omega arith)

-- the numbers of a word are symbols
pub word_symbols : (w : List ℕ) → IsWord w → All IsSymbol w
word_symbols w word = λ k d lt. let here = word.symbols k in rw (get_or_default_zero w k d lt) here

-- the symbols of one word more
pub symbols_more : (words : List (List ℕ)) (w : List ℕ) (t : ℕ) → t < length words → w ≡ get_or words t w → symbols (take (t + 1) words) ≡ symbols (take t words) ++ w
symbols_more words w t lt is =
    let one : flat_map (λ (v : List ℕ). v) (w ∷ []) ≡ w = append-nil w in
    rw (take_more words t w lt, ← is, flat_map-append) (ap (λ (xs : List ℕ). symbols (take t words) ++ xs) one)
