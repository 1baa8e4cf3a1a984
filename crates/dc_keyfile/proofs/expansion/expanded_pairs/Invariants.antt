use Rattle.std.proofs.Common.{◌≡◌, ◌*◌, take, map}
use Rattle.dc_keyfile.specs.Generator.{expanded_pair}
use Rattle.dc_keyfile.proofs.expansion.expanded_pairs.Given as goal

-- a pair of pads for each pair of seeds so far
abbrev pub invariant-loop-place : goal.invariant-loop-place
invariant-loop-place l = l.pairs.items ≡ map (expanded_pair (16 * l.words)) (take l.place l.seeded)
