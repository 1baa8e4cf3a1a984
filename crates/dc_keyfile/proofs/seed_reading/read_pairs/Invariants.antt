use Rattle.std.proofs.Common.{◌≡◌, map, Ok}
use Rattle.std.specs.List.{range_with_len}
use Rattle.dc_keyfile.specs.SeedReading.{seed_pair_of}
use Rattle.dc_keyfile.proofs.seed_reading.read_pairs.Given as goal

-- the pairs so far are those that stand there, all without a fault
abbrev pub invariant-loop-place : goal.invariant-loop-place
invariant-loop-place l = map (seed_pair_of l.b l.stations) (range_with_len 0 l.place) ≡ map Ok l.pairs.items
