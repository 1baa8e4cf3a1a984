use Rattle.std.proofs.Common.{◌≡◌, take, map}
use Rattle.dc_steer.specs.SteeredKeys.{steered_pair}
use Rattle.dc_steer.proofs.steered_keys.steered_pairs.Given as goal

-- the pairs so far
abbrev pub invariant-loop-pair : goal.invariant-loop-pair
invariant-loop-pair l = l.steered.items ≡ map (steered_pair l.u l.v l.changes) (take l.pair-index l.pairs)
