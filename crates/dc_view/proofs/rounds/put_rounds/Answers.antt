use Rattle.std.proofs.Common.{rules}
use Rattle.dc_run_texts.specs.View.{round_text}
use Rattle.dc_view.proofs.RoundText.{NumberedPut-then, NumberedPut-stops}
use Rattle.dc_view.proofs.rounds.put_rounds.Goals as goal

pub returns-in_err-put_round : goal.returns-in_err-put_round
returns-in_err-put_round g c = NumberedPut-stops (λ t. round_text c.args.net.now c.args.run.now t.0 t.1.delivery) c.args.rounds.now c.loop-r.r c.index-rounds-r.result
    c.index-rounds-r.result _ _ _ _ _ _ c.loop-r-test.true c.index-rounds-r.is c.loop-r.invariant c.in_err-put_round.ensures (search rules)

pub loop-r-preserved : goal.loop-r-preserved
loop-r-preserved g c = NumberedPut-then (λ t. round_text c.args.net.now c.args.run.now t.0 t.1.delivery) c.args.rounds.now c.loop-r.r c.index-rounds-r.result
    c.index-rounds-r.result _ _ _ _ _ c.loop-r-test.true c.index-rounds-r.is c.loop-r.invariant c.in_ok-put_round.ensures
