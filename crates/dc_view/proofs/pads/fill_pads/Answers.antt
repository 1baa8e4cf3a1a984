use Rattle.std.proofs.Common.{◌-◌, arith}
use Rattle.std.specs.List.{range_with_len}
use Rattle.dc_formats.specs.WordLines.{pair_word_line, items_of_round}
use Rattle.dc_print.proofs.FillLemmas.{Fills-more}
use Rattle.dc_view.proofs.ListSteps.{range-more}
use Rattle.dc_view.proofs.pads.fill_pads.Goals as goal

pub loop-r-preserved : goal.loop-r-preserved
loop-r-preserved c = record {
  place = omega (arith, c.fill_pair_line-end.ensures.most, c.loop-r.invariant.place);
  filled = rw (range-more c.args.from c.loop-r.r (omega arith))
      (Fills-more (λ r. pair_word_line c.args.beginning.now c.args.ends.0 c.args.ends.1 r (items_of_round 16 r c.args.pads.now))
      (range_with_len c.args.from (c.loop-r.r - c.args.from)) c.loop-r.r _ _ _ _ _ _
      c.loop-r.invariant.filled (let w = c.pads_of_round-w.ensures in rw (← w) c.fill_pair_line-end.ensures.text));
}
