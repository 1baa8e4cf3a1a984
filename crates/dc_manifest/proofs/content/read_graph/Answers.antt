use Rattle.std.proofs.Common.{refl}
use Rattle.dc_manifest.proofs.Rising.{edges_kept}
use Rattle.dc_manifest.proofs.content.read_graph.Goals as goal

pub returns-in-Ok : goal.returns-in-Ok
returns-in-Ok c =
    let keeps = c.in-Ok.ensures in
    rw (keeps.no_fault, edges_kept c.args.n c.args.edges.now c.in-Ok.graph keeps, ← keeps.stations) refl
