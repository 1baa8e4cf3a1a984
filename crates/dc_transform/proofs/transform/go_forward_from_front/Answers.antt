use Rattle.std.proofs.Common.{◌≡◌, ◌-◌, length, take, refl, sym, ap, ◌∙◌, arith}
use Rattle.dc_transform_rules.specs.Transforms.{size, forward}
use Rattle.dc_transform_rules.proofs.TransformLemmas.{size-down}
use Rattle.dc_transform.proofs.QuarterLemmas.{front-part, forward-front}
use Rattle.dc_transform.proofs.transform.go_forward_from_front.Goals as goal

pub returns-clause-value : goal.returns-clause-value
returns-clause-value c =
    let down = size-down c.args.width c.args.depth (omega arith) in
    let n = size c.args.width (c.args.depth - 1) in
    let l = take n c.args.rows.now in
    let long : length c.split_at_mut-left.result.0.now ≡ n = omega arith in
    let front : c.split_at_mut-left.result.0.now ≡ l = front-part n _ _ _ c.split_at_mut-left.ensures.value long in
    forward-front c.args.width c.args.depth n l c.go_forward.new.rows c.go_forward-2.new.rows c.requires.some refl (sym (ap (λ x. length x) front) ∙ long) c.requires.symbols
    (c.go_forward.ensures.value ∙ ap (forward c.args.width (c.args.depth - 1) 0) front)
    (c.go_forward-2.ensures.value ∙ ap (forward c.args.width (c.args.depth - 1) 32768) (c.copy_from_slice.ensures.after ∙ front))
