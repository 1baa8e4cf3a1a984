use Rattle.std.proofs.Common.{sym, ◌∙◌}
use Rattle.dc_twin.proofs.FirstFaults.{unlike-past}
use Rattle.dc_twin.proofs.judging.first_unlike.Goals as goal

pub loop-j-preserved : goal.loop-j-preserved
loop-j-preserved c = λ word is.
    unlike-past word c.args.stations.now c.args.words.now c.loop-j.j _ _ is c.loop-j-test.true c.index-words-0.is c.index-words-j.is (sym c.is_same.ensures ∙ c.if-not-is_same.false)
    (c.loop-j.invariant word is)
