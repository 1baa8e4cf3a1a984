use Rattle.std.proofs.Common.{ℕ, ◌<◌, ◌≢◌, length, arith, get_or-set_other, get_or-set_same, below_more}
use Rattle.std.proofs.Math.ListN.{length-set}
use Rattle.dc_keys.proofs.adding.widened.Goals as goal

pub loop-l-preserved : goal.loop-l-preserved
loop-l-preserved c =
    let within : c.loop-l.l < length c.loop-l.totals = let n = c.loop-l.invariant.sixteen in omega arith in
    record {
      sixteen = omega (arith, length-set {A = ℕ});
      so_far = below_more _ _ (λ k lt. let other : k ≢ c.loop-l.l = omega arith in rw get_or-set_other (c.loop-l.invariant.so_far k lt)) (rw get_or-set_same c.from.ensures);
      rest = λ k le. let other : k ≢ c.loop-l.l = omega arith in rw get_or-set_other (c.loop-l.invariant.rest k (omega arith));
    }
