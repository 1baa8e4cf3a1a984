-- The pads of a pair, for any number of words.
use Rattle.std.specs.Prelude.{ℕ, ◌*◌, ◌/◌, ◌≤◌, ◌≡◌, List, length, slice_index, All}
use Rattle.dc_spec.specs.Limits.{most_words}
use Rattle.dc_spec.specs.Words.{IsSymbol}
use Rattle.dc_spec.specs.Pads.{Pair}

-- for how many words a pair has first pads, sixteen a word
abbrev pub word_count : Pair → ℕ
word_count p = length p.a / 16

-- sixteen first and sixteen second pads for each of 1 to 4096 words, the first second pad 0
pub record ArePads (first : List ℕ) (second : List ℕ) : Type 0 where
  pub some_words : 1 ≤ length first / 16
  pub most_words : length first / 16 ≤ most_words
  pub first_pads : length first ≡ 16 * (length first / 16)
  pub second_pads : length second ≡ length first
  pub first_symbols : All IsSymbol first
  pub second_symbols : All IsSymbol second
  pub no_first : slice_index second 0 ≡ 0

-- a pair's pads are pads of a session
abbrev pub IsPairKey : Pair → Type 0
IsPairKey p = ArePads p.a p.b

-- as many first and second pads as a session of so many words needs
pub record IsPadded (words : ℕ) (p : Pair) : Type 0 where
  pub first_pads : length p.a ≡ 16 * words
  pub second_pads : length p.b ≡ 16 * words
  pub first_symbols : All IsSymbol p.a
  pub second_symbols : All IsSymbol p.b
