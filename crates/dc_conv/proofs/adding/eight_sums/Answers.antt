use Rattle.std.proofs.Common.{arith}
use Rattle.dc_conv.proofs.Loops.{total_more}
use Rattle.dc_conv.proofs.adding.eight_sums.Goals as goal

pub loop-k-preserved : goal.loop-k-preserved
loop-k-preserved c = record {
  value = λ i lt. total_more c.args.pads.now c.args.factors.now i c.loop-k.k _ _ _ _ (omega arith) (omega arith) (c.add_scaled.ensures.added i lt) (c.loop-k.invariant.value i lt);
  small = λ i. omega (arith, c.add_scaled.ensures.grown i, c.loop-k.invariant.small i);
}
