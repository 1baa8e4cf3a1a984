use Rattle.std.proofs.Common.{◌≡◌, ◌<◌, ◌%◌, ◌*◌, arith}
use Rattle.dc_spec.proofs.InverseLemmas.{inverse-inverts}
use Rattle.dc_field.proofs.sym.Sym.inv.Goals as goal

pub returns-else-self-eq0-clause-inverts : goal.returns-else-self-eq0-clause-inverts
returns-else-self-eq0-clause-inverts c =
    rw c.last_power-power.ensures (inverse-inverts c.args.self (omega arith) (omega arith))
