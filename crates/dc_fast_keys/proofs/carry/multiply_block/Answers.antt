use Rattle.std.proofs.Common.{◌*◌, ◌-◌, ℕ, length, subst, refl, sym, ap, ◌∙◌}
use Rattle.dc_transform_rules.proofs.ColumnLemmas.{size-times}
use Rattle.dc_fast_keys.specs.Spectrum.{AreAlike}
use Rattle.dc_fast_keys.proofs.CarryLemmas.{half-rows}
use Rattle.dc_fast_keys.proofs.carry.multiply_block.Goals as goal

pub are_alike-requires-clause-long : goal.are_alike-requires-clause-long
are_alike-requires-clause-long c =
    c.requires.block_long ∙ size-times c.args.width (c.args.depth - 1) ∙ ap (λ n. c.args.width * n) (sym (half-rows c.args.depth (length c.args.one.now) c.requires.some c.requires.one_long))

pub multiply_alike-requires-clause-alike : goal.multiply_alike-requires-clause-alike
multiply_alike-requires-clause-alike c =
    subst (λ (rows : ℕ). AreAlike c.args.width rows c.args.block.now) (half-rows c.args.depth (length c.args.one.now) c.requires.some c.requires.one_long) (c.if-are_alike.ensures refl)
