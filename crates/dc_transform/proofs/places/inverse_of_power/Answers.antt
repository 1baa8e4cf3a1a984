use Rattle.std.proofs.Common.{arith}
use Rattle.dc_transform_rules.proofs.ResidueLemmas.{inverse-of_power, power-below}
use Rattle.dc_transform.proofs.places.inverse_of_power.Goals as goal

pub returns-clause-value : goal.returns-clause-value
returns-clause-value c = inverse-of_power c.args.depth _ c.requires (omega (arith, power-below c.args.depth c.requires))
