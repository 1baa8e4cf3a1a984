use Rattle.std.proofs.Common.{rules, arith}
use Rattle.dc_formats.specs.WordLines.{pair_word_line, items_of_round}
use Rattle.dc_print.proofs.PutSoFar.{PutSoFar-then, PutSoFar-stops}
use Rattle.dc_view.proofs.ListSteps.{flat_map-range}
use Rattle.dc_view.proofs.pads.put_pads.Goals as goal

pub returns-in_err-put_rounds_of_pads : goal.returns-in_err-put_rounds_of_pads
returns-in_err-put_rounds_of_pads g c = PutSoFar-stops _ _ _ _ _ _ _ _ _
    (flat_map-range (λ r. pair_word_line c.args.beginning.now c.args.ends.0 c.args.ends.1 r (items_of_round 16 r c.args.pads.now)) c.loop-r.r c.min-next.result
    c.args.words (omega arith) (omega arith))
    c.loop-r.invariant.put c.in_err-put_rounds_of_pads.ensures (search rules)

pub loop-r-preserved : goal.loop-r-preserved
loop-r-preserved g c = record {
  within = omega arith;
  put = PutSoFar-then _ _ _ _ _ _ _ _
      (flat_map-range (λ r. pair_word_line c.args.beginning.now c.args.ends.0 c.args.ends.1 r (items_of_round 16 r c.args.pads.now)) c.loop-r.r c.min-next.result
      c.args.words (omega arith) (omega arith))
      c.loop-r.invariant.put c.in_ok-put_rounds_of_pads.ensures;
}
