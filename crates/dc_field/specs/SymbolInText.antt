-- Reading a symbol in text.
use Rattle.std.specs.Prelude.{ℕ, ◌==◌, List, length, map, position, Option, Some, None, is_none, nat_lt, if◌then◌else◌}
use Rattle.dc_field.specs.WordInText.{digit_in, count_of, symbol_at}

-- a number, where it is a symbol
abbrev pub where_symbol : ℕ → Option ℕ
where_symbol x = if nat_lt x 65537 then Some x else None

-- the number of five characters, where each is a digit
abbrev pub symbol_of_digits : List ℕ → Option ℕ → Option ℕ
symbol_of_digits text None = where_symbol (symbol_at (map count_of text) 0)
symbol_of_digits text (Some place) = None

-- the symbol that a text spells in five digits
abbrev pub symbol_of_text : List ℕ → Option ℕ
symbol_of_text text =
    if length text == 5 then symbol_of_digits text (position (λ c. is_none (digit_in c)) text) else None
