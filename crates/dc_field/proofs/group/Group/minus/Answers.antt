use Rattle.std.proofs.Common.{refl, arith}
use Rattle.dc_field.proofs.GroupLemmas.{limbs_fit, differences_within, differences_total}
use Rattle.dc_field.proofs.group.Group.minus.Goals as goal

pub differences-requires : goal.differences-requires
differences-requires c = (limbs_fit c.self.inside.limbs c.part.inside.limbs _ c.self.invariant.fifteen c.part.invariant.fifteen c.in-None.ensures.place).0

pub invariant_of-result : goal.invariant_of-result
invariant_of-result c =
    let fit = limbs_fit c.self.inside.limbs c.part.inside.limbs _ c.self.invariant.fifteen c.part.invariant.fifteen c.in-None.ensures.place in
    let most = c.self.invariant.most in
    rw c.differences.ensures (record {
      most = omega arith;
      fifteen = refl;
      limbs = differences_within c.self.inside.limbs c.part.inside.limbs _ fit.1;
    })

pub returns-in-None-clause-total : goal.returns-in-None-clause-total
returns-in-None-clause-total c =
    let fit = limbs_fit c.self.inside.limbs c.part.inside.limbs _ c.self.invariant.fifteen c.part.invariant.fifteen c.in-None.ensures.place in
    rw (c.differences.ensures, ← c.self.view_is, ← c.part.view_is) (differences_total c.self.inside.limbs c.part.inside.limbs c.self.invariant.fifteen c.part.invariant.fifteen fit.0)
