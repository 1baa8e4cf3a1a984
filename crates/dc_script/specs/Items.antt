-- What a line of a script after the first says.
use Rattle.std.specs.Prelude.{ℕ, ◌+◌, ◌-◌, ◌^◌, ◌<◌, ◌≤◌, ◌≡◌, ◌==◌, List, ◌++◌, length, take, drop, slice_index, position, Option, Some, None, option_map, Result, Ok, Err, nat_eq, nat_lt, bytes_eq, if◌then◌else◌, codes}
use Rattle.std.specs.List.{starts_with}
use Rattle.std.specs.Fmt.{decimal}
use Rattle.dc_spec.specs.Words.{IsSymbol, IsWord}
use Rattle.dc_spec.specs.Text.{symbol_text, word_text}
use Rattle.dc_spec.specs.Scripts.{Term}
use Rattle.dc_field.specs.NumberInText.{number_in}
use Rattle.dc_field.specs.SymbolInText.{symbol_of_text}
use Rattle.dc_field.specs.WordInText.{word_of_text}
use Rattle.dc_field.specs.declared.word_from_text.WordFault.{WordFault}
use Rattle.dc_script.specs.declared.item.Item.{Item}
use Rattle.dc_script.specs.declared.item.Item.TheVariants.{RoundLine, SayLine, AllLine, ToLine, AddLine}

-- a station with a word, where the number is below 65536 and the word is one
abbrev pub station_with_word : Option ℕ → Result (List ℕ) WordFault → Option (ℕ × List ℕ)
station_with_word None word = None
station_with_word (Some i) (Err fault) = None
station_with_word (Some i) (Ok word) = if nat_lt 65535 i then None else Some (i, word)

-- a number, a blank, and a word in the last eighty characters
abbrev pub entry_in : List ℕ → Option (ℕ × List ℕ)
entry_in text =
    if nat_lt (length text) 81 then None
    else if slice_index text (length text - 81) == 32 then
    station_with_word (number_in (take (length text - 81) text)) (word_of_text (drop (length text - 81 + 1) text))
    else None

-- what stands before the first blank of a text and what stands after it
abbrev pub cut_at : List ℕ → Option ℕ → Option (List ℕ × List ℕ)
cut_at text None = None
cut_at text (Some place) = Some (take place text, drop (place + 1) text)

abbrev pub cut : List ℕ → Option (List ℕ × List ℕ)
cut text = cut_at text (position (λ c. c == 32) text)

-- a number up to a greatest one
abbrev pub at_most : ℕ → Option ℕ → Option ℕ
at_most most None = None
at_most most (Some n) = if nat_lt most n then None else Some n

abbrev pub number_up_to : ℕ → List ℕ → Option ℕ
number_up_to most text = at_most most (number_in text)

-- a symbol that is not 0
abbrev pub not_zero : Option ℕ → Option ℕ
not_zero None = None
not_zero (Some x) = if nat_lt 0 x then Some x else None

abbrev pub factor_in : List ℕ → Option ℕ
factor_in text = not_zero (symbol_of_text text)

-- the last number of a term: the symbol that is named
abbrev pub term_with_symbol : ℕ → ℕ → ℕ → ℕ → Option ℕ → Option Term
term_with_symbol to factor station round None = None
term_with_symbol to factor station round (Some symbol) =
    Some (record { to = to; factor = factor; station = station; round = round; symbol = symbol })

-- the round and the symbol
abbrev pub term_with_round : ℕ → ℕ → ℕ → Option ℕ → List ℕ → Option Term
term_with_round to factor station None rest = None
term_with_round to factor station (Some round) rest = term_with_symbol to factor station round (number_up_to 15 rest)

abbrev pub round_in : ℕ → ℕ → ℕ → Option (List ℕ × List ℕ) → Option Term
round_in to factor station None = None
round_in to factor station (Some p) = term_with_round to factor station (number_up_to 4095 p.0) p.1

-- the station and what follows it
abbrev pub term_with_station : ℕ → ℕ → Option ℕ → List ℕ → Option Term
term_with_station to factor None rest = None
term_with_station to factor (Some station) rest = round_in to factor station (cut rest)

abbrev pub station_in : ℕ → ℕ → Option (List ℕ × List ℕ) → Option Term
station_in to factor None = None
station_in to factor (Some p) = term_with_station to factor (number_up_to 65535 p.0) p.1

-- the factor and what follows it
abbrev pub term_with_factor : ℕ → Option ℕ → List ℕ → Option Term
term_with_factor to None rest = None
term_with_factor to (Some factor) rest = station_in to factor (cut rest)

abbrev pub factor_after : ℕ → Option (List ℕ × List ℕ) → Option Term
factor_after to None = None
factor_after to (Some p) = term_with_factor to (factor_in p.0) p.1

-- the symbol that gains and what follows it
abbrev pub term_with_to : Option ℕ → List ℕ → Option Term
term_with_to None rest = None
term_with_to (Some to) rest = factor_after to (cut rest)

abbrev pub to_in : Option (List ℕ × List ℕ) → Option Term
to_in None = None
to_in (Some p) = term_with_to (number_up_to 15 p.0) p.1

-- a number up to 15, five digits, a number of a station, a number up to 4095 and a number up to 15,
-- with a blank between two
abbrev pub term_in : List ℕ → Option Term
term_in text = to_in (cut text)

-- `round R`, `say I WORD`, `all`, `to I WORD`, or in version 2 `add L SYM J Q M`
abbrev pub item_in : ℕ → List ℕ → Option Item
item_in version text =
    if starts_with nat_eq text (codes "say ") then option_map SayLine (entry_in (drop 4 text))
    else if starts_with nat_eq text (codes "to ") then option_map ToLine (entry_in (drop 3 text))
    else if starts_with nat_eq text (codes "round ") then option_map RoundLine (number_in (drop 6 text))
    else if starts_with nat_eq text (codes "add ") then
    (if version == 2 then option_map AddLine (term_in (drop 4 text)) else None)
    else if bytes_eq text (codes "all") then Some AllLine
    else None

-- what an entry is written as, after a beginning
abbrev pub entry_text : List ℕ → ℕ × List ℕ → List ℕ
entry_text beginning e = beginning ++ decimal e.0 ++ codes " " ++ word_text e.1

-- what a term is written as
abbrev pub term_text : Term → List ℕ
term_text term =
    codes "add " ++ decimal term.to ++ codes " " ++ symbol_text term.factor ++ codes " "
    ++ decimal term.station ++ codes " " ++ decimal term.round ++ codes " " ++ decimal term.symbol

-- what an item is written as
abbrev pub item_text : Item → List ℕ
item_text (RoundLine r) = codes "round " ++ decimal r
item_text (SayLine e) = entry_text (codes "say ") e
item_text AllLine = codes "all"
item_text (ToLine e) = entry_text (codes "to ") e
item_text (AddLine term) = term_text term

-- a station's number and a word
abbrev pub IsEntry : ℕ × List ℕ → Type 0
IsEntry e = (e.0 < 65536) × IsWord e.1

-- a term that a line may spell
pub record IsTermLine (term : Term) : Type 0 where
  pub to : term.to < 16
  pub some_factor : 1 ≤ term.factor
  pub factor : IsSymbol term.factor
  pub station : term.station < 65536
  pub round : term.round < 4096
  pub symbol : term.symbol < 16

-- an item that a line of this version may spell
abbrev pub IsItem : ℕ → Item → Type 0
IsItem version (RoundLine r) = r < 2 ^ 32
IsItem version (SayLine e) = IsEntry e
IsItem version AllLine = Unit {0}
IsItem version (ToLine e) = IsEntry e
IsItem version (AddLine term) = (version ≡ 2) × IsTermLine term
