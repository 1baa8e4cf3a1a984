-- Printed words: five lower-case hexadecimal digits a symbol, eighty a word, a line feed after
-- each.
use Rattle.std.specs.Prelude.{ℕ, ◌+◌, ◌/◌, ◌%◌, List, [], ◌∷◌, ◌++◌, nat_lt, if◌then◌else◌}
use Rattle.std.specs.List.{flat_map}

-- the character of a digit from 0 to 15
abbrev pub hex_digit : ℕ → ℕ
hex_digit d = if nat_lt d 10 then 48 + d else 87 + d

-- five digits, leading zeros included
abbrev pub symbol_text : ℕ → List ℕ
symbol_text x =
    hex_digit (x / 65536 % 16) ∷ hex_digit (x / 4096 % 16) ∷ hex_digit (x / 256 % 16)
    ∷ hex_digit (x / 16 % 16) ∷ hex_digit (x % 16) ∷ []

-- eighty digits
abbrev pub word_text : List ℕ → List ℕ
word_text w = flat_map symbol_text w

-- a text and its line end
abbrev pub line : List ℕ → List ℕ
line text = text ++ 10 ∷ []

-- one line a word
abbrev pub words_text : List (List ℕ) → List ℕ
words_text ws = flat_map (λ w. line (word_text w)) ws
