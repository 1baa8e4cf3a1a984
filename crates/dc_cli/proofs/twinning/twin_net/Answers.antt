use Rattle.dc_cli.specs.Twinning.{twinning}
use Rattle.dc_cli.proofs.AlteringLemmas.{AltersNet-writes}
use Rattle.dc_cli.proofs.twinning.twin_net.Goals as goal

pub returns-in-Ok : goal.returns-in-Ok
returns-in-Ok g c = AltersNet-writes (twinning c.args.perm.now c.args.target.now) c.args.net.now _ _ _ _ _ _ _ _ c.in-Ok.ensures c.write_twin.ensures
