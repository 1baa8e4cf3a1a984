use Rattle.std.proofs.Common.{arith}
use Rattle.dc_twin.proofs.Rows.{words_more}
use Rattle.dc_twin.proofs.columns.words_at.Goals as goal

pub loop-t-preserved : goal.loop-t-preserved
loop-t-preserved c =
    words_more c.args.rows c.args.count c.args.place c.loop-t.t c.args.words.now _ _ _ (let low = c.loop-t-test.true in let e = c.from-rows.ensures in omega arith)
    c.requires.place c.requires.rows c.index-words-t.is c.loop-t.invariant c.in_ok-push.ensures.items
