use Rattle.std.proofs.Common.{◌≡◌, ◌+◌, ◌*◌, refl}
use Rattle.dc_graph.proofs.Tables.{flag_set}
use Rattle.dc_graph.proofs.honest.mark.Goals as goal

pub returns-clause-flags : goal.returns-clause-flags
returns-clause-flags c = λ x y x' y'.
    let place : c.from.result * c.from-2.result + c.from-3.result ≡ c.args.u * c.args.n + c.args.v = rw (c.from.ensures, c.from-2.ensures, c.from-3.ensures) refl in
    rw place (flag_set c.args.n c.args.u c.args.v x y c.args.table.now c.requires.wide c.requires.stations.0 c.requires.stations.1 y')
