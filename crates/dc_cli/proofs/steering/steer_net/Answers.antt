use Rattle.dc_cli.specs.Steering.{steering}
use Rattle.dc_cli.proofs.AlteringLemmas.{AltersNet-writes}
use Rattle.dc_cli.proofs.steering.steer_net.Goals as goal

pub returns-in-Ok : goal.returns-in-Ok
returns-in-Ok g c =
    AltersNet-writes (steering c.args.u c.args.v c.args.wanted.now c.args.target.now) c.args.net.now _ _ _ _ _ _ _ _ c.in-Ok.ensures c.write_steered.ensures
