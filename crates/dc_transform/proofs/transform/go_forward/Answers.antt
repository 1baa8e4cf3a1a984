use Rattle.std.proofs.Common.{◌/◌, length, arith}
use Rattle.dc_transform_rules.proofs.TransformLemmas.{size-down, forward-joined}
use Rattle.dc_transform.proofs.transform.go_forward.Goals as goal

pub go_forward_by_two-requires-3-clause-long : goal.go_forward_by_two-requires-3-clause-long
go_forward_by_two-requires-3-clause-long c = let down = size-down c.args.width c.args.depth (omega arith) in omega arith

pub returns-clause-value : goal.returns-clause-value
returns-clause-value c =
    let down = size-down c.args.width c.args.depth (omega arith) in
    forward-joined c.args.width c.args.depth c.args.exponent c.constant.result (length c.args.rows.now / 2) c.args.rows.now c.split_at_mut-left.result.0.now
    c.split_at_mut-left.result.1.now c.fold.new.left c.fold.new.right c.go_forward_by_two-2.new.rows c.go_forward_by_two-3.new.rows (omega arith) (omega arith)
    c.split_at_mut-left.ensures.front c.split_at_mut-left.ensures.back c.constant.ensures.value c.fold.ensures.plus c.fold.ensures.minus
    c.go_forward_by_two-2.ensures.value c.go_forward_by_two-3.ensures.value
