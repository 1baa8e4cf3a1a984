use Rattle.std.proofs.Common.{arith}
use Rattle.dc_field.proofs.Digits.{number_of-mean}
use Rattle.dc_field.proofs.group.Group.mean.Goals as goal

pub returns-else-self-eq0-clause-below : goal.returns-else-self-eq0-clause-below
returns-else-self-eq0-clause-below c =
    rw (c.total.ensures, c.from.ensures, ← c.self.view_is) (number_of-mean c.self.inside.count c.self.inside.limbs (omega arith) c.self.invariant.fifteen c.self.invariant.limbs)
