use Rattle.std.proofs.Common.{not, arith}
use Rattle.std.proofs.lemmas.List.{append-nil}
use Rattle.dc_spec.specs.Lists.{is_among}
use Rattle.dc_view.proofs.ListSteps.{filter-range_more}
use Rattle.dc_view.proofs.honest.honest_of.Goals as goal
use Rattle.dc_view.proofs.honest.honest_of.Goals.{then-not-holds, else-not-holds}

pub loop-i-preserved : goal.loop-i-preserved
loop-i-preserved c = rw (filter-range_more (λ i. not (is_among c.args.coalition.now i)) c.loop-i.i, ← c.holds.ensures.value)
    (elim c.if-not-holds.branch [
      | then-not-holds w ↦ record {
        room = rw w.honest-is (omega (arith, w.push.ensures.len, c.loop-i.invariant.room));
        so_far = rw (w.if-not-holds.true, w.honest-is) (rw (← c.loop-i.invariant.so_far) w.push.ensures.items);
      }
      | else-not-holds w ↦ record {
        room = rw w.honest-is (omega (arith, c.loop-i.invariant.room));
        so_far = rw (w.if-not-holds.false, w.honest-is, append-nil) c.loop-i.invariant.so_far;
      }
    ])
