-- A word by its symbols.
use Rattle.std.proofs.Common.{◌≡◌, ℕ, ◌<◌, List, length, get_or, arith, inl, inr}
use Rattle.std.proofs.lemmas.Bool.{cases_lt}
use Rattle.std.proofs.lemmas.List.{get_or_past}
use Rattle.std.proofs.lemmas.List.FromFn.{fill_by_all, get_or-map-range_with_len, length-map-range_with_len}
use Rattle.dc_spec.specs.Words.{IsWord, word_of}

pub length-word_of : (f : ℕ → ℕ) → length (word_of f) ≡ 16
unfolding word_of
length-word_of f = length-map-range_with_len f 0 16

-- symbol l of the word whose symbol l is f l
pub symbol-word_of : (f : ℕ → ℕ) (l : ℕ) → l < 16 → get_or (word_of f) l 0 ≡ f l
unfolding word_of
symbol-word_of f l lt = get_or-map-range_with_len f 0 16 l l 0 lt (omega arith)

-- sixteen numbers, each of them f of its place, are the word of f
pub word_from_symbols : (f : ℕ → ℕ) (w : List ℕ) → length w ≡ 16 → ((k : ℕ) → k < 16 → get_or w k 0 ≡ f k) → w ≡ word_of f
unfolding word_of
word_from_symbols f w len each = fill_by_all f w 16 0 len each

-- two words whose symbols are the same
pub word_of-same : (f g : ℕ → ℕ) → ((k : ℕ) → k < 16 → f k ≡ g k) → word_of f ≡ word_of g
word_of-same f g each = word_from_symbols g (word_of f) (length-word_of f) (λ k lt. rw (symbol-word_of f k lt) (each k lt))

-- a word of symbols is a word
pub IsWord-word_of : (f : ℕ → ℕ) → ((k : ℕ) → k < 16 → f k < 65537) → IsWord (word_of f)
IsWord-word_of f each = record {
  sixteen = length-word_of f;
  symbols = λ l. elim (cases_lt l 16) [
    | inl lt ↦ rw (symbol-word_of f l lt) (each l lt)
    | inr le ↦ rw (get_or_past (word_of f) l 0 (rw (length-word_of f) le)) (omega arith)
  ];
}
