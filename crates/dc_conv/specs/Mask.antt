-- A mask, and the words that it has taken.
use Rattle.std.specs.Prelude.{ℕ, ◌+◌, ◌-◌, ◌*◌, ◌/◌, ◌%◌, ◌^◌, ◌<◌, ◌≤◌, ◌≡◌, min, List, length, drop, sum_by, slice_index, All}
use Rattle.std.specs.List.{range_with_len}
use Rattle.dc_spec.specs.Limits.{most_words}
use Rattle.dc_spec.specs.Words.{IsSymbol, AreWords}
use Rattle.dc_key_rules.specs.PairKeys.{symbols}
use Rattle.dc_keys.specs.StationPads.{StationPads}

-- the summed second pads, a sum for each symbol of the session, the words since the last full block, how many words were taken
pub record MaskState : Type 0 where
  pub second : List ℕ
  pub sums : List ℕ
  pub block : List (List ℕ)
  pub taken : ℕ

-- for how many words there are pads
abbrev pub session_words : MaskState → ℕ
session_words m = length m.second / 16

-- the greatest multiple of 32 that is neither above the words taken nor above the number of a word
abbrev pub block_start : ℕ → ℕ → ℕ
block_start taken t = 32 * (min taken t / 32)

-- pads and sums for 1 to 4096 words, at most so many words taken; each sum is a pad and that many products of two symbols at most
pub record IsMask (m : MaskState) : Type 0 where
  pub some_words : 1 ≤ session_words m
  pub most_words : session_words m ≤ most_words
  pub pads : length m.second ≡ 16 * session_words m
  pub symbols : All IsSymbol m.second
  pub as_many : length m.sums ≡ 16 * session_words m
  pub within : m.taken ≤ session_words m
  pub rest : length m.block ≡ m.taken % 32
  pub small : (n : ℕ) → n < length m.sums → slice_index m.sums n ≤ 65536 + 16 * block_start m.taken (n / 16) * 2 ^ 32

-- sum n before it is reduced: first pad n and the products of the symbols before a word with second pads
abbrev pub running_sum : StationPads → List (List ℕ) → ℕ → ℕ → ℕ
running_sum pads history t n = slice_index pads.first n + sum_by (λ k. slice_index pads.second (n - k) * slice_index (symbols history) k) (range_with_len 0 (16 * t))

-- the sum of the products of factors with as many pads, which begin at pad i
abbrev pub products_from : List ℕ → List ℕ → ℕ → ℕ
products_from pads factors i =
    sum_by (λ k. slice_index pads (i + k) * slice_index factors k) (range_with_len 0 (length factors))

-- the mask has these pads and has taken these words, in this order
pub record StandsFor (m : MaskState) (pads : StationPads) (history : List (List ℕ)) : Type 0 where
  pub words : AreWords history
  pub taken : m.taken ≡ length history
  pub block : m.block ≡ drop (32 * (length history / 32)) history
  pub second : m.second ≡ pads.second
  pub sums : (n : ℕ) → n < length m.sums → slice_index m.sums n ≡ running_sum pads history (block_start m.taken (n / 16)) n
