-- What key files of both versions share: the tests of their head, and of the ends of their pairs.
use Rattle.std.specs.Prelude.{ℕ, ◌+◌, ◌-◌, ◌*◌, ◌≤◌, Bool, not, ◌&&◌, ◌||◌, List, [], ◌∷◌, ◌++◌, length, map, take, drop, slice_index, Option, Some, None, Result, Ok, Err, nat_eq, nat_lt, ◌==◌, if◌then◌else◌, codes}
use Rattle.std.specs.List.{range_with_len, starts_with}
use Rattle.std.specs.Int.{w16, w32, to_be_bytes}
use Rattle.dc_spec.specs.Bytes.{number_at, short_at}
use Rattle.dc_spec.specs.Limits.{most_stations, most_words, most_pads}
use Rattle.dc_keyfile.specs.declared.head.Head.{Head}
use Rattle.dc_keyfile.specs.declared.fault.KeyFault.{KeyFault}
use Rattle.dc_keyfile.specs.declared.fault.KeyFault.TheVariants.{Truncated, Magic, Version, Stations, Words, TooLarge, Pair as NoPair, Order, Rest}

-- ---- the head

-- its three numbers, where each is within its limit
unfoldable pub head_of : ℕ → ℕ → ℕ → Result Head KeyFault
head_of stations words count =
    if stations == 0 || nat_lt most_stations stations then Err (Stations stations)
    else if words == 0 || nat_lt most_words words then Err (Words words)
    else if nat_lt most_pads (count * (32 * words)) then Err (TooLarge (count * (32 * words)))
    else Ok (record { stations = stations; words = words; count = count })

-- numbers within their limits
pub record IsHead (h : Head) : Type 0 where
  pub some_stations : 1 ≤ h.stations
  pub most_stations : h.stations ≤ most_stations
  pub some_words : 1 ≤ h.words
  pub most_words : h.words ≤ most_words
  pub most_symbols : h.count * (32 * h.words) ≤ most_pads

-- the head that twelve bytes of this version spell, or the first fault
unfoldable pub head_from_bytes : ℕ → List ℕ → Result Head KeyFault
head_from_bytes version bytes =
    if nat_lt (length bytes) 12 then Err (Truncated (length bytes) 12)
    else if not (starts_with nat_eq bytes (codes "DCK")) then Err Magic
    else if not (slice_index bytes 3 == version) then Err (Version (slice_index bytes 3))
    else head_of (short_at bytes 4) (short_at bytes 6) (number_at bytes 8)

-- what is read after the head
abbrev pub after_head : {X : Type 0} → (Head → Result X KeyFault) → Result Head KeyFault
    → Result X KeyFault
after_head read (Err fault) = Err fault
after_head read (Ok head) = read head

-- the twelve bytes of a head of this version
abbrev pub head_bytes : ℕ → ℕ → ℕ → ℕ → List ℕ
head_bytes version stations words count =
    codes "DCK" ++ version ∷ []
    ++ to_be_bytes w16 stations ++ to_be_bytes w16 words ++ to_be_bytes w32 count

-- ---- pairs of so many bytes each

-- the length of a file of this number of pairs
abbrev pub due_length : ℕ → ℕ → ℕ
due_length size count = 12 + size * count

-- the bytes of the pair at a place
abbrev pub piece_at : List ℕ → ℕ → ℕ → List ℕ
piece_at bytes size p = take size (drop (due_length size p) bytes)

-- the two ends of a pair
abbrev pub ends_of : List ℕ → ℕ × ℕ
ends_of piece = (short_at piece 0, short_at piece 2)

-- whether ends are two of the stations, the smaller one first
abbrev pub are_ends : ℕ → ℕ × ℕ → Bool
are_ends stations e = nat_lt e.0 e.1 && nat_lt e.1 stations

-- whether ends are less than others: by the smaller end, and where these are equal by the greater
-- end
abbrev pub is_before : ℕ × ℕ → ℕ × ℕ → Bool
is_before e f = nat_lt e.0 f.0 || (e.0 == f.0 && nat_lt e.1 f.1)

-- whether a pair is the first one or greater than the one before it
abbrev pub is_rising : List ℕ → ℕ → ℕ → Bool
is_rising bytes size p =
    p == 0
    || is_before (ends_of (piece_at bytes size (p - 1))) (ends_of (piece_at bytes size p))

-- the fault of the ends of the pair at a place: they are tested, then whether the pairs rise
unfoldable pub ends_fault : List ℕ → ℕ → ℕ → ℕ → Option KeyFault
ends_fault bytes stations size p =
    if not (are_ends stations (ends_of (piece_at bytes size p))) then Some (NoPair p)
    else if not (is_rising bytes size p) then Some (Order p)
    else None

-- what is read where there is no fault
abbrev pub unless : {X : Type 0} → Option KeyFault → Result X KeyFault → Result X KeyFault
unless (Some fault) read = Err fault
unless None read = read

-- a pair before others that were read
abbrev pub put_first : {X : Type 0} → X → Result (List X) KeyFault → Result (List X) KeyFault
put_first pair (Err fault) = Err fault
put_first pair (Ok pairs) = Ok (pair ∷ pairs)

-- all of them, or the first fault
abbrev pub all_or_first : {X : Type 0} → List (Result X KeyFault) → Result (List X) KeyFault
all_or_first [] = Ok []
all_or_first (Err fault ∷ rest) = Err fault
all_or_first (Ok pair ∷ rest) = put_first pair (all_or_first rest)

-- the given number of pairs, each read at its place
unfoldable pub pairs_of : {X : Type 0} → (ℕ → Result X KeyFault) → ℕ → Result (List X) KeyFault
pairs_of pair count = all_or_first (map pair (range_with_len 0 count))

-- the pairs, where no byte comes after them
abbrev pub ended : {X : Type 0} → List ℕ → ℕ → ℕ → Result (List X) KeyFault
    → Result (List X) KeyFault
ended bytes size count (Err fault) = Err fault
ended bytes size count (Ok pairs) =
    if nat_lt (due_length size count) (length bytes) then Err (Rest (due_length size count))
    else Ok pairs

-- the length is tested, then the pairs, then the end
unfoldable pub body_of : {X : Type 0} → List ℕ → ℕ → ℕ → (ℕ → Result X KeyFault)
    → Result (List X) KeyFault
body_of bytes size count pair =
    if nat_lt (length bytes) (due_length size count)
    then Err (Truncated (length bytes) (due_length size count))
    else ended bytes size count (pairs_of pair count)
