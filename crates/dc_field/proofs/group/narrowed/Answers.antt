use Rattle.std.proofs.Common.{sym, ◌∙◌, arith}
use Rattle.std.proofs.lemmas.List.{ext_get_or}
use Rattle.dc_field.proofs.group.narrowed.Goals as goal

pub returns : goal.returns
returns c =
    ext_get_or 0 c.loop-i.narrow c.args.limbs.now (c.loop-i.invariant.0 ∙ sym c.requires.count) (λ k lt. c.loop-i.invariant.1 k (omega arith))
