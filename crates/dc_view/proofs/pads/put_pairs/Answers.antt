use Rattle.std.proofs.Common.{rules}
use Rattle.dc_view.specs.Pads.{known_lines}
use Rattle.dc_print.proofs.PutSoFar.{ItemPut-then, ItemPut-stops}
use Rattle.dc_view.proofs.pads.put_pairs.Goals as goal

pub returns-in_err-put_known_pair : goal.returns-in_err-put_known_pair
returns-in_err-put_known_pair g c = ItemPut-stops (known_lines c.args.coalition.now c.args.words) c.args.pairs.now c.loop-pair.pair-index c.pair-item.result
    c.pair-item.result _ _ _ _ _ _ c.loop-pair-test.true c.pair-item.is c.loop-pair.invariant c.in_err-put_known_pair.ensures (search rules)

pub loop-pair-preserved : goal.loop-pair-preserved
loop-pair-preserved g c = ItemPut-then (known_lines c.args.coalition.now c.args.words) c.args.pairs.now c.loop-pair.pair-index c.pair-item.result c.pair-item.result _ _ _
    _ _ c.loop-pair-test.true c.pair-item.is c.loop-pair.invariant c.in_ok-put_known_pair.ensures
