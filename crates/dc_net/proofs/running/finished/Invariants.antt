use Rattle.std.proofs.Common.{◌≡◌, length, vec_capacity}
use Rattle.dc_net.proofs.Finishing.{EndedSoFar}
use Rattle.dc_net.proofs.running.finished.Given as goal

-- what the seats so far have, in room for all
abbrev pub invariant-loop-seat : goal.invariant-loop-seat
invariant-loop-seat l = record {
  ended : EndedSoFar l.fn.seats.items l.yielded l.seat-iterator.rest.items l.logs.items l.sents.items l.pending.items;
  logs_room : vec_capacity l.logs ≡ length l.fn.seats.items;
  sents_room : vec_capacity l.sents ≡ length l.fn.seats.items;
  pending_room : vec_capacity l.pending ≡ length l.fn.seats.items;
}
