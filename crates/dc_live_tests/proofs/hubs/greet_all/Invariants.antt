use Rattle.std.proofs.Common.{◌≡◌, length}
use Rattle.dc_live.specs.Seats.{AreNew}
use Rattle.dc_live_tests.proofs.hubs.greet_all.Given as goal

abbrev pub invariant-loop-peer : goal.invariant-loop-peer
invariant-loop-peer l =
    AreNew l.seats × (length l.seats.told ≡ l.peer) × (l.seats.stations ≡ l.fn.seats.stations) × (l.seats.words ≡ l.fn.seats.words) × (l.wire.peers ≡ l.fn.wire.peers)
