use Rattle.std.proofs.Common.{arith, ap, get_or, List, ℕ}
use Rattle.dc_keys.proofs.KeySums.{product_more}
use Rattle.dc_keys.proofs.adding.add_products.Goals as goal

pub loop-j-preserved : goal.loop-j-preserved
loop-j-preserved c = record {
  added = λ k lt. product_more c.args.second.now c.args.w.now c.args.ahead c.loop-j.j k _ _ _ _ _ _ (c.add_scaled.ensures.added k lt) (c.loop-j.invariant.added k lt) (ap (λ (xs : List ℕ). get_or xs c.loop-j.j 0) c.numbers-numbers.ensures.value) (omega arith) (omega arith) (omega arith);
  grown = λ k. omega (arith, c.add_scaled.ensures.grown k, c.loop-j.invariant.grown k);
}
