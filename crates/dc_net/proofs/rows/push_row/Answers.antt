use Rattle.std.proofs.Common.{sym}
use Rattle.dc_net.proofs.RowWalk.{Passed-member, Passed-other}
use Rattle.dc_net.proofs.rows.push_row.Goals.{then-holds, else-holds}
use Rattle.dc_net.proofs.rows.push_row.Goals as goal

pub loop-i-preserved : goal.loop-i-preserved
loop-i-preserved c = elim c.if-holds.branch [
  | then-holds w ↦ rw (w.words-is, w.j-is, w.k-is)
      (Passed-member c.args.coalition.now c.args.stations c.args.honest.now c.args.said.now c.args.words.now c.loop-i.words _ _ _ _ _ c.loop-i.invariant c.loop-i-test.true
      (sym w.if-holds.ensures.value) w.word_at.ensures w.push.ensures)
  | else-holds w ↦ rw (w.words-is, w.j-is, w.k-is)
      (Passed-other c.args.coalition.now c.args.stations c.args.honest.now c.args.said.now c.args.words.now c.loop-i.words _ _ _ _ _ c.loop-i.invariant c.loop-i-test.true
      (sym w.if-holds.ensures.value) w.word_at-else-holds.ensures w.push-else-holds.ensures)
]
