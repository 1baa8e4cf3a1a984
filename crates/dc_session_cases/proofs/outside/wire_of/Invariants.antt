use Rattle.std.specs.Prelude.{◌≡◌}
use Rattle.dc_session_cases.proofs.outside.wire_of.Given as goal

abbrev pub invariant-loop-peer : goal.invariant-loop-peer
invariant-loop-peer l = l.wire.peers ≡ 0
