-- Reading a stream file with the three lists so far in place of the items so far.
use Rattle.std.specs.Prelude.{ℕ, not, ◌&&◌, List, [], ◌∷◌, ◌+◌, ◌++◌, length, drop, Option, Some, None, Result, Ok, Err, nat_eq, nat_le, nat_lt, ◌==◌, if◌then◌else◌, codes}
use Rattle.std.specs.List.{starts_with}
use Rattle.dc_spec.specs.Entries.{Stream}
use Rattle.dc_spec.specs.Limits.{most_shorts, most_longs, most_coins, most_message}
use Rattle.dc_formats.specs.TextFile.{file_lines}
use Rattle.dc_field.specs.NumberInText.{number_in}
use Rattle.dc_text.specs.Lines.{with_lines}
use Rattle.dc_text.specs.Payload.{payload_in}
use Rattle.dc_stream.specs.declared.fault.StreamFault.{StreamFault}
use Rattle.dc_stream.specs.declared.fault.StreamKind.{StreamKind}
use Rattle.dc_stream.specs.declared.fault.StreamKind.TheVariants.{NotText, Word, Order, TooMany, Number, Hex, Length}
use Rattle.dc_stream.specs.Items.{reported_length}
use Rattle.dc_stream.specs.Reading.{stream_fault}

-- a stream with one more short, where its digits are these bytes
abbrev pub short_into_lists : Stream → Option (List ℕ) → Result Stream StreamKind
short_into_lists s None = Err Hex
short_into_lists s (Some bytes) =
    if length bytes == 15 then Ok (record s { shorts = s.shorts ++ bytes ∷ [] })
    else Err (Length (reported_length (length bytes)))

-- no long and no coin comes before a short
unfoldable pub lists_with_short : Stream → List ℕ → Result Stream StreamKind
lists_with_short s rest =
    if not (length s.longs == 0 && length s.coins == 0) then Err Order
    else if nat_le most_shorts (length s.shorts) then Err TooMany
    else short_into_lists s (payload_in rest)

-- a stream with one more long, where its digits are these bytes
abbrev pub long_into_lists : Stream → Option (List ℕ) → Result Stream StreamKind
long_into_lists s None = Err Hex
long_into_lists s (Some bytes) =
    if nat_le (length bytes) most_message then Ok (record s { longs = s.longs ++ bytes ∷ [] })
    else Err (Length (reported_length (length bytes)))

-- no coin comes before a long
unfoldable pub lists_with_long : Stream → List ℕ → Result Stream StreamKind
lists_with_long s rest =
    if not (length s.coins == 0) then Err Order
    else if nat_le most_longs (length s.longs) then Err TooMany
    else long_into_lists s (payload_in rest)

-- a stream with one more coin, where its number is this one
abbrev pub coin_into_lists : Stream → Option ℕ → Result Stream StreamKind
coin_into_lists s None = Err Number
coin_into_lists s (Some field) = if nat_lt field 16 then Ok (record s { coins = s.coins ++ field ∷ [] }) else Err Number

-- a coin may come after all others
unfoldable pub lists_with_coin : Stream → List ℕ → Result Stream StreamKind
lists_with_coin s rest = if nat_le most_coins (length s.coins) then Err TooMany else coin_into_lists s (number_in rest)

-- a stream with one more line
unfoldable pub lists_with_line : Stream → List ℕ → Result Stream StreamKind
lists_with_line s text =
    if starts_with nat_eq text (codes "short ") then lists_with_short s (drop 6 text)
    else if starts_with nat_eq text (codes "long ") then lists_with_long s (drop 5 text)
    else if starts_with nat_eq text (codes "coin ") then lists_with_coin s (drop 5 text)
    else Err Word

-- a stream with no entry
abbrev pub nothing : Stream
nothing = record { shorts = []; longs = []; coins = [] }

-- what these lines, the first of them having this number, make of a stream
abbrev pub lines_by_lists : ℕ → Stream → List ℕ → Result Stream StreamFault
lines_by_lists number s bytes = with_lines stream_fault NotText lists_with_line number s (file_lines bytes)

-- the stream that bytes spell, or their first fault
abbrev pub stream_by_lists : List ℕ → Result Stream StreamFault
stream_by_lists bytes = lines_by_lists 1 nothing bytes
