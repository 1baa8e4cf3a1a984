use Rattle.dc_script.proofs.Putting.{next_put}
use Rattle.dc_script.proofs.writing.put_rounds.Goals as goal

pub loop-r-preserved : goal.loop-r-preserved
loop-r-preserved c =
    next_put c.args.text.now.items c.loop-r.text.items c.put_round.new.text.items c.args.rounds.now c.loop-r.r c.index-rounds-r.result c.loop-r-test.true
    c.loop-r.invariant c.index-rounds-r.is c.in_ok-put_round.ensures
