use Rattle.std.proofs.Common.{◌≡◌, ◌-◌, length, take, drop, refl, sym, ap, ◌∙◌, arith}
use Rattle.dc_transform_rules.specs.Polynomials.{sums}
use Rattle.dc_transform_rules.specs.Transforms.{size, backward}
use Rattle.dc_transform_rules.proofs.TransformLemmas.{size-down}
use Rattle.dc_transform.proofs.QuarterLemmas.{front-part, back-part, backward-back}
use Rattle.dc_transform.proofs.transform.go_backward_to_back.Goals as goal

pub returns-clause-value : goal.returns-clause-value
returns-clause-value c =
    let down = size-down c.args.width c.args.depth (omega arith) in
    let n = length c.split_at_mut-left.result.0.now in
    let half : n ≡ size c.args.width (c.args.depth - 1) = omega arith in
    c.add_differences.ensures.value
    ∙ ap (λ l. sums c.args.totals.now (take (length c.args.totals.now) l))
    (sym (backward-back c.args.width c.args.depth n c.args.rows.now c.split_at_mut-left.result.0.now c.split_at_mut-left.result.1.now c.go_backward.new.rows
    c.go_backward-2.new.rows c.requires.some half (front-part n _ _ _ c.split_at_mut-left.ensures.value refl) (back-part n _ _ _ c.split_at_mut-left.ensures.value refl)
    (omega arith) (omega arith) c.go_backward.ensures.value c.go_backward-2.ensures.value)
    ∙ ap (λ k. drop k (backward c.args.width c.args.depth 0 c.args.rows.now)) half)
