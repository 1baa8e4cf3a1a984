use Rattle.std.proofs.Common.{length, take, drop, refl, sym, ap, ◌∙◌, arith}
use Rattle.dc_transform_rules.specs.Polynomials.{sums}
use Rattle.dc_transform_rules.specs.Transforms.{backward}
use Rattle.dc_transform_rules.proofs.TransformLemmas.{length-backward}
use Rattle.dc_fast_keys.proofs.CarryLemmas.{added-down}
use Rattle.dc_fast_keys.proofs.carry.add_block.Goals as goal

pub returns-clause-added : goal.returns-clause-added
returns-clause-added c =
    let r = backward c.args.width c.args.depth 0 c.multiply_block.new.many in
    added-down c.args.width c.args.depth (length c.args.sums.now) c.args.spectrum.now c.args.block.now c.args.sums.now c.backward_to_back.new.totals _ r
    c.requires.some c.requires.most c.requires.block_long c.requires.spectrum_long c.requires.sums_long refl
    (ap (backward c.args.width c.args.depth 0) c.multiply_block.ensures.value)
    (length-backward c.args.width c.args.depth 0 c.multiply_block.new.many (omega arith)) refl
    (c.backward_to_back.ensures.value ∙ ap (λ n. sums c.args.sums.now (take (length c.args.sums.now) (drop n r))) (sym c.requires.block_long))
