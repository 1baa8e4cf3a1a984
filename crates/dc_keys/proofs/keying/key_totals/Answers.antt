use Rattle.std.proofs.Common.{arith}
use Rattle.dc_keys.proofs.KeySums.{word_more, sixteen_more}
use Rattle.dc_keys.proofs.keying.key_totals.Goals as goal

pub loop-t-preserved : goal.loop-t-preserved
loop-t-preserved c =
    let w = c.index-received-t.result in
    record {
      sums = λ k lt. word_more c.args.second.now c.args.received.now w c.loop-t.t k _ _ _ _ (c.add_products.ensures.added k lt) (c.loop-t.invariant.sums k lt) c.loop-t-test.true (omega arith) c.index-received-t.is c.add_products.ensures.word.sixteen c.loop-t.invariant.sixteen;
      bound = λ k. omega (arith, c.add_products.ensures.grown k, c.loop-t.invariant.bound k);
      sixteen = sixteen_more c.args.received.now w c.loop-t.t c.loop-t-test.true c.index-received-t.is c.add_products.ensures.word.sixteen c.loop-t.invariant.sixteen;
    }
