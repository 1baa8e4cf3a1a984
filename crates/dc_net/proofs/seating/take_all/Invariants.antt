use Rattle.std.proofs.Common.{◌≡◌, ◌++◌, map, take, drop}
use Rattle.dc_net.specs.Seat.{with_heard}
use Rattle.dc_net.proofs.seating.take_all.Given as goal

-- the seats so far have taken their words, the others are as they were
abbrev pub invariant-loop-seat : goal.invariant-loop-seat
invariant-loop-seat l = l.seat-items ≡ map (with_heard l.heard.words) (take l.seat-index l.fn.seats) ++ drop l.seat-index l.fn.seats
