use Rattle.std.proofs.Common.{arith, refl}
use Rattle.dc_keyfile.specs.Generator.{seeded}
use Rattle.dc_keyfile.proofs.Generated.{one_pair_more}
use Rattle.dc_keyfile.proofs.generator.seed_pairs.Goals as goal

pub loop-i-preserved : goal.loop-i-preserved
loop-i-preserved c = one_pair_more (seeded c.args.base.now) c.args.g.now.edges c.loop-i.i c.edge-u.result _ _ _ (omega arith) c.edge-u.ensures c.loop-i.invariant refl c.in_ok-push.ensures.items
