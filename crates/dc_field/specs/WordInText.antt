-- Reading a word in text, with its first fault.
use Rattle.std.specs.Prelude.{ℕ, ◌+◌, ◌-◌, ◌*◌, ◌&&◌, ◌==◌, List, length, map, slice_index, position, Option, Some, None, Result, Ok, Err, is_none, nat_le, unwrap_or, if◌then◌else◌}
use Rattle.dc_spec.specs.Words.{word_of}
use Rattle.dc_field.specs.WordInBytes.{word_of_numbers}
use Rattle.dc_field.specs.declared.word_from_bytes.SymFault.{SymFault}
use Rattle.dc_field.specs.declared.word_from_text.WordFault.{WordFault}
use Rattle.dc_field.specs.declared.word_from_text.WordFault.TheVariants.{Length, Digit, Symbol}

-- what a lower-case hexadecimal digit counts
abbrev pub digit_in : ℕ → Option ℕ
digit_in c =
    if nat_le 48 c && nat_le c 57 then Some (c - 48)
    else if nat_le 97 c && nat_le c 102 then Some (c - 87)
    else None

-- the same, and 16 for any other character
abbrev pub count_of : ℕ → ℕ
count_of c = unwrap_or (digit_in c) 16

-- the number of the five digits from a place on
abbrev pub symbol_at : List ℕ → ℕ → ℕ
symbol_at digits at =
    65536 * slice_index digits at + 4096 * slice_index digits (at + 1) + 256 * slice_index digits (at + 2) + 16 * slice_index digits (at + 3) + slice_index digits (at + 4)

-- the sixteen numbers of eighty digits
abbrev pub numbers_of : List ℕ → List ℕ
numbers_of digits = word_of (λ l. symbol_at digits (5 * l))

-- the first symbol that is none, as a fault of a text
abbrev pub told_in_text : Result (List ℕ) SymFault → Result (List ℕ) WordFault
told_in_text (Ok w) = Ok w
told_in_text (Err fault) = Err (Symbol fault.symbol fault.seen)

-- the word of eighty characters, or the fault at the place of the first that is not a digit
abbrev pub word_of_digits : List ℕ → Option ℕ → Result (List ℕ) WordFault
word_of_digits text None = told_in_text (word_of_numbers (numbers_of (map count_of text)))
word_of_digits text (Some place) = Err (Digit place)

-- the word that a text spells, or the first fault: its length, a character, a symbol
abbrev pub word_of_text : List ℕ → Result (List ℕ) WordFault
word_of_text text =
    if length text == 80 then word_of_digits text (position (λ c. is_none (digit_in c)) text)
    else Err (Length (length text))
