use Rattle.std.proofs.Common.{not}
use Rattle.std.proofs.lemmas.List.{append-nil}
use Rattle.dc_spec.specs.Lists.{is_among}
use Rattle.dc_twin.proofs.Rows.{kept-more}
use Rattle.dc_twin.proofs.judging.honest_of.Goals as goal
use Rattle.dc_twin.proofs.judging.honest_of.Goals.{then-not-holds+in_ok-push, else-not-holds}

pub loop-i-preserved : goal.loop-i-preserved
loop-i-preserved c = rw (kept-more (λ k. not (is_among c.args.coalition.now k)) c.loop-i.i, ← c.holds.ensures.value)
    (elim c.if-not-holds.branch [
      | then-not-holds+in_ok-push w ↦ rw (w.if-not-holds.true, w.honest-is) (rw (← c.loop-i.invariant) w.in_ok-push.ensures.items)
      | else-not-holds w ↦ rw (w.if-not-holds.false, w.honest-is, append-nil) c.loop-i.invariant
    ])
