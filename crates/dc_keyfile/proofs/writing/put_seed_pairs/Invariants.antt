use Rattle.std.proofs.Common.{◌≡◌, ◌++◌, take}
use Rattle.std.specs.List.{flat_map}
use Rattle.dc_formats.specs.SeedFile.{seed_pair_bytes}
use Rattle.dc_keyfile.proofs.writing.put_seed_pairs.Given as goal

-- the pairs so far are put
abbrev pub invariant-loop-pair : goal.invariant-loop-pair
invariant-loop-pair l = l.bytes.items ≡ l.initial.bytes.items ++ flat_map seed_pair_bytes (take l.pair-index l.pairs)
