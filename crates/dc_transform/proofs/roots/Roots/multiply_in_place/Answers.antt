use Rattle.std.proofs.Common.{ap, ◌∙◌}
use Rattle.dc_transform_rules.specs.Polynomials.{products}
use Rattle.dc_transform_rules.specs.Transforms.{forward, backward}
use Rattle.dc_transform_rules.proofs.CoefficientLemmas.{scaled_one}
use Rattle.dc_transform_rules.proofs.TransformLemmas.{divided, product-by_transforms}
use Rattle.dc_transform.proofs.roots.Roots.multiply_in_place.Goals as goal

pub returns-clause-value : goal.returns-clause-value
returns-clause-value c =
    let d = c.args.depth in
    divided d 1 c.divide.new.numbers c.args.a.now c.args.b.now c.requires.depth (scaled_one c.divide.new.numbers c.divide.ensures.symbols)
    (c.divide.ensures.value ∙ c.backward_in_place.ensures.value ∙ ap (backward 1 d 0) (c.multiply_places.ensures.value
    ∙ ap (λ l. products l c.forward_in_place-2.new.rows) c.forward_in_place.ensures.value ∙ ap (products (forward 1 d 0 c.args.a.now)) c.forward_in_place-2.ensures.value)
    ∙ product-by_transforms d c.args.a.now c.args.b.now c.requires.depth c.requires.a_long c.requires.b_long)
