use Rattle.std.proofs.Common.{◌*◌, arith}
use Rattle.dc_keyfile.specs.Generator.{generated_pair}
use Rattle.dc_keyfile.proofs.DirectWriting.{one_edge_put}
use Rattle.dc_keyfile.proofs.direct_writing.put_edges.Goals as goal

pub loop-i-preserved : goal.loop-i-preserved
loop-i-preserved c =
    one_edge_put (generated_pair c.args.base.now (16 * c.args.words)) c.args.g.now.edges c.loop-i.i c.edge.result _ _ _
    (omega arith) c.edge.ensures c.loop-i.invariant c.in_ok-put_edge.ensures
