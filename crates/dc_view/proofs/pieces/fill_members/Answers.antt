use Rattle.std.proofs.Common.{◌++◌, filter, arith}
use Rattle.std.specs.Prelude.{codes, decimal}
use Rattle.std.specs.List.{range_with_len}
use Rattle.std.proofs.lemmas.List.{append-nil}
use Rattle.dc_spec.specs.Lists.{is_among}
use Rattle.dc_spec.specs.Text.{line}
use Rattle.dc_print.proofs.FillLemmas.{Fills-more}
use Rattle.dc_view.proofs.ListSteps.{filter-range_more}
use Rattle.dc_view.proofs.pieces.fill_members.Goals as goal
use Rattle.dc_view.proofs.pieces.fill_members.Goals.{then-holds, else-holds}

pub loop-i-preserved : goal.loop-i-preserved
loop-i-preserved c = rw (filter-range_more (is_among c.args.coalition.now) c.loop-i.i, ← c.holds.ensures.value)
    (elim c.if-holds.branch [
      | then-holds w ↦ record {
        place = omega (arith, w.fill_number_line-end.ensures.most, c.loop-i.invariant.place, w.end-is);
        filled = rw (w.if-holds.true, w.buffer-is, w.end-is)
            (Fills-more (λ i. line (codes "member " ++ decimal i)) (filter (is_among c.args.coalition.now) (range_with_len 0 c.loop-i.i)) c.loop-i.i _ _ _ _ _ _
            c.loop-i.invariant.filled w.fill_number_line-end.ensures.text);
      }
      | else-holds w ↦ record {
        place = omega (arith, c.loop-i.invariant.place, w.end-is);
        filled = rw (w.if-holds.false, w.buffer-is, w.end-is, append-nil) c.loop-i.invariant.filled;
      }
    ])
