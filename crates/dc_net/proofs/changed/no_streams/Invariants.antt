use Rattle.std.proofs.Common.{◌≡◌, length}
use Rattle.dc_net.proofs.changed.no_streams.Given as goal

-- as many places as were passed
abbrev pub invariant-loop-k : goal.invariant-loop-k
invariant-loop-k l = length l.places.items ≡ l.k
