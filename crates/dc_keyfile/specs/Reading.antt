-- Reading a key file: the tests of its bytes in their order, and what is read.
use Rattle.std.specs.Prelude.{ℕ, ◌+◌, ◌*◌, ◌&&◌, ◌≡◌, Bool, List, length, map, slice_index, position, Option, Some, None, Result, Ok, Err, nat_lt, ◌==◌, if◌then◌else◌}
use Rattle.std.specs.List.{range_with_len}
use Rattle.dc_spec.specs.Bytes.{number_at}
use Rattle.dc_spec.specs.Pads.{Pair, Keys, Seeds}
use Rattle.dc_formats.specs.KeyFile.{keys_bytes}
use Rattle.dc_formats.specs.SeedFile.{IsSeeds, seeds_bytes}
use Rattle.dc_keyfile.specs.declared.head.Head.{Head}
use Rattle.dc_keyfile.specs.declared.fault.KeyFault.{KeyFault}
use Rattle.dc_keyfile.specs.declared.fault.KeyFault.TheVariants.{Symbol, FirstSecondPad}
use Rattle.dc_keyfile.specs.Generator.{expanded_keys}
use Rattle.dc_keyfile.specs.Head.{head_from_bytes, after_head, piece_at, ends_of, ends_fault, unless, body_of}
use Rattle.dc_keyfile.specs.SeedReading.{seeds_from_bytes}

-- the bytes of a pair: two for each end, four for each of its pads
abbrev pub pair_size : ℕ → ℕ
pair_size words = 4 + 128 * words

-- the given number of numbers of a pair, first and then second pads, from this index on
abbrev pub numbers_at : List ℕ → ℕ → ℕ → List ℕ
numbers_at piece index count =
    map (λ n. number_at piece (4 + 4 * (index + n))) (range_with_len 0 count)

-- the numbers as pads, or the fault of the first one that is not a symbol
abbrev pub pads_or_fault : ℕ → ℕ → List ℕ → Option ℕ → Result (List ℕ) KeyFault
pads_or_fault p index numbers None = Ok numbers
pads_or_fault p index numbers (Some n) = Err (Symbol p (index + n) (slice_index numbers n))

-- the given number of pads of a pair, each tested
unfoldable pub pads_of : List ℕ → ℕ → ℕ → ℕ → Result (List ℕ) KeyFault
pads_of piece p index count =
    pads_or_fault p index (numbers_at piece index count)
    (position (λ x. nat_lt 65536 x) (numbers_at piece index count))

-- the pair, where its first second pad is 0
abbrev pub with_second : ℕ × ℕ → ℕ → List ℕ → Result (List ℕ) KeyFault → Result Pair KeyFault
with_second e p first (Err fault) = Err fault
with_second e p first (Ok second) =
    if slice_index second 0 == 0 then Ok (record { u = e.0; v = e.1; a = first; b = second })
    else Err (FirstSecondPad p)

-- after the first pads come the second
abbrev pub with_first : ℕ × ℕ → List ℕ → ℕ → ℕ → Result (List ℕ) KeyFault → Result Pair KeyFault
with_first e piece p count (Err fault) = Err fault
with_first e piece p count (Ok first) = with_second e p first (pads_of piece p count count)

-- the pads of a pair are tested
unfoldable pub padded : List ℕ → ℕ → ℕ → Result Pair KeyFault
padded piece words p =
    with_first (ends_of piece) piece p (16 * words) (pads_of piece p 0 (16 * words))

-- the ends of the pair at a place are tested, then whether the pairs rise, then its pads
unfoldable pub pair_of : List ℕ → ℕ → ℕ → ℕ → Result Pair KeyFault
pair_of bytes stations words p =
    unless (ends_fault bytes stations (pair_size words) p)
    (padded (piece_at bytes (pair_size words) p) words p)

-- the pairs with the numbers of the head
abbrev pub with_pairs : Head → Result (List Pair) KeyFault → Result Keys KeyFault
with_pairs head (Err fault) = Err fault
with_pairs head (Ok pairs) =
    Ok (record { stations = head.stations; words = head.words; pairs = pairs })

-- what comes after the head of version 1
unfoldable pub keys_after_head : List ℕ → Head → Result Keys KeyFault
keys_after_head bytes head =
    with_pairs head
    (body_of bytes (pair_size head.words) head.count (pair_of bytes head.stations head.words))

-- the keys that bytes of version 1 spell, or their first fault
unfoldable pub pads_from_bytes : List ℕ → Result Keys KeyFault
pads_from_bytes bytes = after_head (keys_after_head bytes) (head_from_bytes 1 bytes)

-- the expansion of what was read
abbrev pub expanded : Result Seeds KeyFault → Result Keys KeyFault
expanded (Err fault) = Err fault
expanded (Ok seeds) = Ok (expanded_keys seeds)

-- whether the byte of the version is there and is 2
abbrev pub is_of_seeds : List ℕ → Bool
is_of_seeds bytes = nat_lt 3 (length bytes) && slice_index bytes 3 == 2

-- the keys that bytes spell, or their first fault: those of version 2 are the expansion of their
-- seeds, all others are tested as version 1
unfoldable pub keys_from_bytes : List ℕ → Result Keys KeyFault
keys_from_bytes bytes =
    if is_of_seeds bytes then expanded (seeds_from_bytes bytes) else pads_from_bytes bytes

-- bytes spell keys: as pads, or as seeds whose expansion they are
pub data IsSpelled (bytes : List ℕ) (k : Keys) : Type 0 where
  as_pads : bytes ≡ keys_bytes k → IsSpelled bytes k
  as_seeds : (s : Seeds) → IsSeeds s → bytes ≡ seeds_bytes s → k ≡ expanded_keys s
      → IsSpelled bytes k
