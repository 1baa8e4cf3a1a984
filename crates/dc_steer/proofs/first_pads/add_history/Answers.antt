use Rattle.std.proofs.Common.{arith}
use Rattle.dc_steer.proofs.Products.{received_more}
use Rattle.dc_steer.proofs.first_pads.add_history.Goals as goal

pub loop-k-preserved : goal.loop-k-preserved
loop-k-preserved c = record {
  value = λ n lt. received_more c.args.second.now c.args.cu.now n c.loop-k.k _ _ (λ le. c.add_received.ensures.added n le (omega arith)) (c.add_received.ensures.before n)
      (c.loop-k.invariant.value n lt);
  small = λ n. omega (arith, c.add_received.ensures.grown n, c.loop-k.invariant.small n);
}
