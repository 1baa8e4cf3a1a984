use Rattle.std.proofs.Common.{◌*◌, arith}
use Rattle.dc_keyfile.specs.Generator.{generated_pair}
use Rattle.dc_keyfile.proofs.Generated.{one_place_more}
use Rattle.dc_keyfile.proofs.generator.generate_pairs.Goals as goal

pub loop-i-preserved : goal.loop-i-preserved
loop-i-preserved c =
    one_place_more (generated_pair c.args.base.now (16 * c.args.words)) c.args.edges.now c.loop-i.i _ _ _ _
    (omega arith) c.loop-i.invariant c.in_ok-generate_pair.ensures c.in_ok-push.ensures.items
