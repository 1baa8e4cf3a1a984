use Rattle.std.proofs.Common.{slice_set, sym, ap, ◌∙◌}
use Rattle.std.proofs.lemmas.List.Edits.{map_over_more}
use Rattle.dc_net.specs.Seat.{SeatState, with_heard}
use Rattle.dc_net.proofs.seating.take_all.Goals as goal

pub loop-seat-preserved : goal.loop-seat-preserved
loop-seat-preserved c =
    let heard = c.args.heard.now.words in
    ap (λ (s : SeatState). slice_set c.loop-seat.seat-items c.loop-seat.seat-index s) (c.take.ensures
    ∙ ap (with_heard c.args.heard.now.words) (sym c.seat-item.is))
    ∙ map_over_more (with_heard c.args.heard.now.words) c.args.seats.now c.loop-seat.seat-items c.loop-seat.seat-index c.seat-item.result c.loop-seat-test.true c.loop-seat.invariant
    c.seat-item.is
