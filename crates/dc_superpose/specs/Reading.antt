-- Reading a recorded session: the tests of its file in their order, and what is read.
use Rattle.std.specs.Prelude.{ℕ, ◌+◌, ◌*◌, List, length, map, position, Option, Some, None, Result, Ok, Err, nat_lt, nat_eq, ◌==◌, ◌||◌, not, if◌then◌else◌, codes}
use Rattle.std.specs.List.{range_with_len, starts_with}
use Rattle.dc_spec.specs.Bytes.{number_at, short_at, word_at}
use Rattle.dc_spec.specs.Limits.{most_stations, most_words}
use Rattle.dc_spec.specs.Recorded.{Recorded}
use Rattle.dc_superpose.specs.declared.fault.TranscriptFault.{TranscriptFault}
use Rattle.dc_superpose.specs.declared.fault.TranscriptFault.TheVariants.{Truncated, Magic, Stations, Words, Symbol, Rest}

-- the length of a file of so many words
abbrev pub due_length : ℕ → ℕ
due_length count = 8 + 64 * count

-- the offset of symbol s in a file
abbrev pub symbol_offset : ℕ → ℕ
symbol_offset s = 8 + 4 * s

-- the first numbers after the header
abbrev pub symbols_at : List ℕ → ℕ → List ℕ
symbols_at bytes count = map (λ s. number_at bytes (symbol_offset s)) (range_with_len 0 count)

-- the first words after the header
abbrev pub words_at : List ℕ → ℕ → List (List ℕ)
words_at bytes count = map (λ i. word_at bytes (8 + 64 * i)) (range_with_len 0 count)

-- so many words, where no number is a bad symbol, or else the first one
abbrev pub tested_words : List ℕ → ℕ → Option ℕ → Result (List (List ℕ)) TranscriptFault
tested_words bytes count None = Ok (words_at bytes count)
tested_words bytes count (Some s) = Err (Symbol (symbol_offset s) (number_at bytes (symbol_offset s)))

-- the words, each symbol tested
unfoldable pub words_of : List ℕ → ℕ → Result (List (List ℕ)) TranscriptFault
words_of bytes count = tested_words bytes count (position (λ x. nat_lt 65536 x) (symbols_at bytes (16 * count)))

-- the session of the words, where no byte follows them
abbrev pub session_of_words : List ℕ → ℕ → ℕ → Result (List (List ℕ)) TranscriptFault → Result Recorded TranscriptFault
session_of_words bytes stations rounds (Err fault) = Err fault
session_of_words bytes stations rounds (Ok words) =
    if nat_lt (due_length (rounds * stations)) (length bytes) then Err (Rest (due_length (rounds * stations)))
    else Ok (record { stations = stations; rounds = rounds; words = words })

-- the length is tested, then the symbols, then the end
unfoldable pub body_of : List ℕ → ℕ → ℕ → Result Recorded TranscriptFault
body_of bytes stations rounds =
    if nat_lt (length bytes) (due_length (rounds * stations)) then Err (Truncated (length bytes) (due_length (rounds * stations)))
    else session_of_words bytes stations rounds (words_of bytes (rounds * stations))

-- the two numbers of the header are tested, then the body
unfoldable pub sized : List ℕ → ℕ → ℕ → Result Recorded TranscriptFault
sized bytes stations rounds =
    if stations == 0 || nat_lt most_stations stations then Err (Stations stations)
    else if rounds == 0 || nat_lt most_words rounds then Err (Words rounds)
    else body_of bytes stations rounds

-- the session that the bytes of a file spell, or their first fault
unfoldable pub transcript_of : List ℕ → Result Recorded TranscriptFault
transcript_of bytes =
    if nat_lt (length bytes) 8 then Err (Truncated (length bytes) 8)
    else if not (starts_with nat_eq bytes (codes "DCT1")) then Err Magic
    else sized bytes (short_at bytes 4) (short_at bytes 6)
