use Rattle.std.proofs.Common.{refl}
use Rattle.dc_manifest.proofs.Rising.{members_kept}
use Rattle.dc_manifest.proofs.content.read_coalition.Goals as goal

pub returns-in-Ok : goal.returns-in-Ok
returns-in-Ok c =
    let keeps = c.in-Ok.ensures in
    rw (keeps.no_fault, members_kept c.args.graph.now.stations c.args.members.now c.in-Ok.coalition keeps) refl
