-- Symbols and words in bytes: four bytes a symbol, the most significant first, sixty-four a word.
use Rattle.std.specs.Prelude.{ℕ, ◌+◌, ◌*◌, List, slice_index}
use Rattle.std.specs.List.{flat_map}
use Rattle.std.specs.Int.{w32, to_be_bytes}
use Rattle.dc_spec.specs.Words.{word_of}

-- the four bytes of a symbol
abbrev pub symbol_bytes : ℕ → List ℕ
symbol_bytes x = to_be_bytes w32 x

-- the sixty-four bytes of a word
abbrev pub word_bytes : List ℕ → List ℕ
word_bytes w = flat_map symbol_bytes w

-- the number that the four bytes from this place on spell
abbrev pub number_at : List ℕ → ℕ → ℕ
number_at bytes at =
    ((slice_index bytes at * 256 + slice_index bytes (at + 1)) * 256
    + slice_index bytes (at + 2)) * 256 + slice_index bytes (at + 3)

-- the number that the two bytes from this place on spell
abbrev pub short_at : List ℕ → ℕ → ℕ
short_at bytes at = slice_index bytes at * 256 + slice_index bytes (at + 1)

-- the sixteen numbers that the sixty-four bytes from this place on spell
abbrev pub word_at : List ℕ → ℕ → List ℕ
word_at bytes at = word_of (λ l. number_at bytes (at + 4 * l))
