use Rattle.std.proofs.Common.{◌≡◌, vec_capacity}
use Rattle.dc_net.proofs.SeatLists.{Seated}
use Rattle.dc_net.proofs.seating.seats_of.Given as goal

-- the seats of the honest stations that were passed
abbrev pub invariant-loop-i : goal.invariant-loop-i
invariant-loop-i l = record {
  seated : Seated l.net l.seats.items l.i;
  room : vec_capacity l.seats ≡ l.count;
}
