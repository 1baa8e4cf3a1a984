-- Words in room that was taken once, and the words that belong to one place of each row.
use Rattle.std.specs.Prelude.{ℕ, ◌+◌, ◌*◌, ◌/◌, List, length, map, slice_index_or}
use Rattle.std.specs.List.{range_with_len}
use Rattle.dc_spec.specs.Words.{zero_word}

-- words, and for how many there is room
pub record Kept : Type 0 where
  pub words : List (List ℕ)
  pub room : ℕ

-- the words at place j of each row, of words that come in rows of n
abbrev pub column : ℕ → ℕ → List (List ℕ) → List (List ℕ)
column n j words = map (λ k. slice_index_or words (k * n + j) zero_word) (range_with_len 0 (length words / n))
