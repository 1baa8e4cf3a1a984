use Rattle.std.proofs.Common.{map, sym, ap, ◌∙◌, arith}
use Rattle.std.proofs.lemmas.List.{nil_from_length}
use Rattle.dc_station_rules.specs.Stations.{log_of, pending_counts, sent_of}
use Rattle.dc_station.specs.Logs.{Kept}
use Rattle.dc_station.specs.declared.phase.Pending.{Pending}
use Rattle.dc_net.specs.Seat.{SeatState}
use Rattle.dc_net.proofs.Finishing.{EndedSoFar-more, room_left, all_ended}
use Rattle.dc_net.proofs.RunIs.{same_run}
use Rattle.dc_net.proofs.running.finished.Goals as goal

pub loop-seat-init : goal.loop-seat-init
loop-seat-init c = record {
  ended = record {
    split = sym c.into_iter-seat-iterator.ensures.into_iter_gives.0;
    logs_are = ap (map (λ (l : Kept). l.entries)) c.in_ok-logs.ensures.items;
    sents_are = ap (map (λ (l : Kept). l.entries)) c.in_ok-sents.ensures.items;
    pending_are = ap (map (λ (p : Pending). (p.shorts, p.longs))) c.in_ok-pending.ensures.items;
  };
  logs_room = c.in_ok-logs.ensures.exact ∙ (let e = c.len.ensures in let long = c.args.seats.ok in omega arith);
  sents_room = c.in_ok-sents.ensures.exact ∙ (let e = c.len-2.ensures in let long = c.args.seats.ok in omega arith);
  pending_room = c.in_ok-pending.ensures.exact ∙ (let e = c.len-3.ensures in let long = c.args.seats.ok in omega arith);
}

pub push_reserved-requires : goal.push_reserved-requires
push_reserved-requires c =
    let so_far = c.loop-seat.invariant.ended in
    let room = room_left (λ (l : Kept). l.entries)
    (λ (s : SeatState). log_of s.received) c.loop-seat.logs.items c.args.seats.items c.loop-seat.yielded _ _ c.in-Some.seat so_far.logs_are so_far.split c.in-Some.ensures.steps.0 in
    let all = c.loop-seat.invariant.logs_room in let long = c.loop-seat.logs.ok in omega arith

pub push_reserved-requires-in-loop-seat : goal.push_reserved-requires-in-loop-seat
push_reserved-requires-in-loop-seat c =
    let so_far = c.loop-seat.invariant.ended in
    let room = room_left (λ (l : Kept). l.entries)
    (λ (s : SeatState). sent_of s.stream s.received) c.loop-seat.sents.items c.args.seats.items c.loop-seat.yielded _ _ c.in-Some.seat so_far.sents_are so_far.split
    c.in-Some.ensures.steps.0 in
    let all = c.loop-seat.invariant.sents_room in let long = c.loop-seat.sents.ok in omega arith

pub push_reserved-requires-in-loop-seat-2 : goal.push_reserved-requires-in-loop-seat-2
push_reserved-requires-in-loop-seat-2 c =
    let so_far = c.loop-seat.invariant.ended in
    let room = room_left (λ (p : Pending). (p.shorts, p.longs))
    (λ (s : SeatState). pending_counts s.stream s.received) c.loop-seat.pending.items c.args.seats.items c.loop-seat.yielded _ _ c.in-Some.seat so_far.pending_are so_far.split
    c.in-Some.ensures.steps.0 in
    let all = c.loop-seat.invariant.pending_room in let long = c.loop-seat.pending.ok in omega arith

pub loop-seat-preserved : goal.loop-seat-preserved
loop-seat-preserved c = record {
  ended = EndedSoFar-more c.args.seats.items c.loop-seat.yielded _ _ c.loop-seat.logs.items c.loop-seat.sents.items _ _ c.loop-seat.pending.items _ c.in-Some.seat _ _ _
      c.loop-seat.invariant.ended c.in-Some.ensures.steps.0
      c.push_reserved.ensures.items c.push_reserved-in-loop-seat.ensures.items c.push_reserved-in-loop-seat-2.ensures.items c.finish-ended.ensures.log c.finish-ended.ensures.sent
      c.finish-ended.ensures.pending;
  logs_room = c.push_reserved.ensures.capacity ∙ c.loop-seat.invariant.logs_room;
  sents_room = c.push_reserved-in-loop-seat.ensures.capacity ∙ c.loop-seat.invariant.sents_room;
  pending_room = c.push_reserved-in-loop-seat-2.ensures.capacity ∙ c.loop-seat.invariant.pending_room;
}

pub returns : goal.returns
returns c =
    let so_far = c.loop-seat.invariant.ended in
    let none = nil_from_length c.loop-seat.seat-iterator.rest.items
    (let e = c.in-None.ensures.steps.0 in let long = c.loop-seat.seat-iterator.rest.ok in omega arith) in
    let all = all_ended c.args.seats.items c.loop-seat.yielded _ _ _ _ so_far none in
    same_run c.into_words.result c.args.book.words.words c.into_words-2.result c.args.book.sums.words c.into_words-3.result c.args.book.delivered.words _ _ _ _ _ _ c.into_words.ensures
    c.into_words-2.ensures c.into_words-3.ensures
    (ap (map (λ (l : Kept). l.entries)) c.from_vec.ensures ∙ so_far.logs_are ∙ ap (map (λ (s : SeatState). log_of s.received)) all)
    (ap (map (λ (l : Kept). l.entries)) c.from_vec-2.ensures ∙ so_far.sents_are ∙ ap (map (λ (s : SeatState). sent_of s.stream s.received)) all)
    (ap (map (λ (p : Pending). (p.shorts, p.longs))) c.from_vec-3.ensures ∙ so_far.pending_are
    ∙ ap (map (λ (s : SeatState). pending_counts s.stream s.received)) all)
