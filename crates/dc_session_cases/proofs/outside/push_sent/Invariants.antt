use Rattle.std.specs.Prelude.{◌≤◌, length}
use Rattle.dc_session_cases.proofs.outside.push_sent.Given as goal

abbrev pub invariant-loop-peer : goal.invariant-loop-peer
invariant-loop-peer l = l.peer ≤ length l.wire.fed
