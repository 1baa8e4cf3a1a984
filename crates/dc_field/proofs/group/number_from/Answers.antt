use Rattle.std.proofs.Common.{ap, ◌∙◌, arith}
use Rattle.std.proofs.lemmas.List.{take_all}
use Rattle.dc_spec.specs.Values.{number_of}
use Rattle.dc_field.proofs.Digits.{number_of-fits, number_of-more}
use Rattle.dc_field.proofs.group.number_from.Goals as goal

pub overflow_mul-number : goal.overflow_mul-number
overflow_mul-number c =
    omega (arith, c.loop-limb.invariant, number_of-fits 256 c.args.limbs.now c.loop-limb.limb-index (omega arith) c.told-limbs c.requires (omega arith))

pub overflow_add-number : goal.overflow_add-number
overflow_add-number c =
    omega (arith, c.loop-limb.invariant, number_of-fits 256 c.args.limbs.now c.loop-limb.limb-index (omega arith) c.told-limbs c.requires (omega arith))

pub loop-limb-preserved : goal.loop-limb-preserved
loop-limb-preserved c =
    omega (arith, c.loop-limb.invariant, number_of-more c.args.limbs.now c.loop-limb.limb-index (omega arith))

pub returns : goal.returns
returns c = c.loop-limb.invariant ∙ ap number_of (take_all _ c.args.limbs.now (omega arith))
