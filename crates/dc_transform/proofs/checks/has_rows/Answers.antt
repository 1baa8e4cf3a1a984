use Rattle.std.proofs.Common.{◌≡◌, ◌*◌, length, sym, ap, ◌∙◌, eqb-true, eq-eqb}
use Rattle.dc_transform_rules.specs.Transforms.{size}
use Rattle.dc_transform_rules.proofs.TransformLemmas.{size-rows}
use Rattle.dc_transform.proofs.checks.has_rows.Goals as goal

pub returns : goal.returns
returns c =
    let n = length c.args.numbers.now in
    let w = c.args.width in
    let same : size w c.args.depth ≡ w * c.number_of_rows.result = size-rows w c.args.depth ∙ ap (λ k. w * k) (sym c.number_of_rows.ensures.value) in
    (λ is. eqb-true n (w * c.number_of_rows.result) is ∙ sym same, λ long. eq-eqb n (w * c.number_of_rows.result) (long ∙ same))
