use Rattle.std.proofs.Common.{◌≤◌}
use Rattle.dc_live_tests.proofs.hubs.accept_all.Given as goal

abbrev pub invariant-loop-peer : goal.invariant-loop-peer
invariant-loop-peer l = l.peer ≤ l.wire.peers
