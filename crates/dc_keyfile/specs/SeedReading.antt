-- Reading a key file of seeds: the tests of its bytes in their order, and what is read.
use Rattle.std.specs.Prelude.{ℕ, List, drop, Result, Ok, Err}
use Rattle.dc_spec.specs.Pads.{SeedPair, Seeds}
use Rattle.dc_keyfile.specs.declared.head.Head.{Head}
use Rattle.dc_keyfile.specs.declared.fault.KeyFault.{KeyFault}
use Rattle.dc_keyfile.specs.Head.{head_from_bytes, after_head, piece_at, ends_of, ends_fault, unless, body_of}

-- the ends and the seed that thirty-six bytes spell
abbrev pub seed_pair_in : List ℕ → SeedPair
seed_pair_in piece = record { u = (ends_of piece).0; v = (ends_of piece).1; seed = drop 4 piece }

-- the pair at a place, where its ends are in order
unfoldable pub seed_pair_of : List ℕ → ℕ → ℕ → Result SeedPair KeyFault
seed_pair_of bytes stations p =
    unless (ends_fault bytes stations 36 p) (Ok (seed_pair_in (piece_at bytes 36 p)))

-- the pairs with the numbers of the head
abbrev pub with_seeds : Head → Result (List SeedPair) KeyFault → Result Seeds KeyFault
with_seeds head (Err fault) = Err fault
with_seeds head (Ok pairs) =
    Ok (record { stations = head.stations; words = head.words; pairs = pairs })

-- what comes after the head
unfoldable pub seeds_after_head : List ℕ → Head → Result Seeds KeyFault
seeds_after_head bytes head =
    with_seeds head (body_of bytes 36 head.count (seed_pair_of bytes head.stations))

-- the seeds that bytes of version 2 spell, or their first fault
unfoldable pub seeds_from_bytes : List ℕ → Result Seeds KeyFault
seeds_from_bytes bytes = after_head (seeds_after_head bytes) (head_from_bytes 2 bytes)
