-- Reading a word in bytes, with its first fault.
use Rattle.std.specs.Prelude.{ℕ, List, Option, Some, None, Result, Ok, Err, nat_lt, slice_index, position}
use Rattle.dc_spec.specs.Bytes.{word_at}
use Rattle.dc_field.specs.declared.word_from_bytes.SymFault.{SymFault}

-- the word of sixteen numbers, or the first that is no symbol
abbrev pub judged : List ℕ → Option ℕ → Result (List ℕ) SymFault
judged numbers None = Ok numbers
judged numbers (Some l) = Err (record { symbol = l; seen = slice_index numbers l })

abbrev pub word_of_numbers : List ℕ → Result (List ℕ) SymFault
word_of_numbers numbers = judged numbers (position (λ x. nat_lt 65536 x) numbers)

-- the word that sixty-four bytes spell, or its first number that is no symbol
abbrev pub word_of_bytes : List ℕ → Result (List ℕ) SymFault
word_of_bytes bytes = word_of_numbers (word_at bytes 0)
