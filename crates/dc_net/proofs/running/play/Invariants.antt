use Rattle.std.proofs.Common.{◌≡◌}
use Rattle.dc_net_rules.specs.Runs.{rounds_of}
use Rattle.dc_net.specs.Run.{IsRecorded, AreKeyed, seats_after}
use Rattle.dc_net.proofs.running.play.Given as goal

-- the keys, the seats and what is recorded after the rounds so far
abbrev pub invariant-loop-round : goal.invariant-loop-round
invariant-loop-round g l = record {
  keyed : AreKeyed l.net (rounds_of l.net l.round) l.keys;
  seats : l.seats ≡ seats_after l.net (rounds_of l.net l.round);
  recorded : IsRecorded l.net (rounds_of l.net l.round) l.book;
}
