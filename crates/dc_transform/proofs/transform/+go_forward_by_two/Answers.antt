use Rattle.std.proofs.Common.{◌≡◌, ◌-◌, ◌/◌, length, arith}
use Rattle.dc_transform_rules.proofs.TransformLemmas.{forward-leaf}
use Rattle.dc_transform.proofs.HalfLemmas.{symbols-front}
use Rattle.dc_transform.proofs.QuarterLemmas.{size-quarter, four-parts, symbols-four, symbols-back, forward-twice}
use Rattle.dc_transform.proofs.transform.+go_forward_by_two.Goals as goal

pub fold_twice-requires-clause-second_long : goal.fold_twice-requires-clause-second_long
fold_twice-requires-clause-second_long t c = let quarter = size-quarter c.args.width c.args.depth (omega arith) in omega arith

pub fold_twice-requires-clause-fourth_long : goal.fold_twice-requires-clause-fourth_long
fold_twice-requires-clause-fourth_long t c = let quarter = size-quarter c.args.width c.args.depth (omega arith) in omega arith

pub fold_twice-requires-clause-first : goal.fold_twice-requires-clause-first
fold_twice-requires-clause-first t c = symbols-front _ _ _ c.split_at_mut-first.ensures.value (symbols-front _ _ _ c.split_at_mut-left.ensures.value c.requires.symbols)

pub fold_twice-requires-clause-second : goal.fold_twice-requires-clause-second
fold_twice-requires-clause-second t c = symbols-back _ _ _ c.split_at_mut-first.ensures.value (symbols-front _ _ _ c.split_at_mut-left.ensures.value c.requires.symbols)

pub fold_twice-requires-clause-third : goal.fold_twice-requires-clause-third
fold_twice-requires-clause-third t c = symbols-front _ _ _ c.split_at_mut-third.ensures.value (symbols-back _ _ _ c.split_at_mut-left.ensures.value c.requires.symbols)

pub returns-then-depth-eq2-clause-value : goal.returns-then-depth-eq2-clause-value
returns-then-depth-eq2-clause-value t c =
    let quarter = size-quarter c.args.width c.args.depth (omega arith) in
    let none : c.args.depth - 2 ≡ 0 = omega arith in
    forward-twice c.args.width c.args.depth (c.args.depth - 2) c.args.exponent _ _ _ (length c.args.rows.now / 2 / 2) c.args.rows.now c.split_at_mut-first.result.0.now c.split_at_mut-first.result.1.now c.split_at_mut-third.result.0.now c.split_at_mut-third.result.1.now
    c.fold_twice.new.first c.fold_twice.new.second c.fold_twice.new.third c.fold_twice.new.fourth c.fold_twice.new.first c.fold_twice.new.second c.fold_twice.new.third c.fold_twice.new.fourth
    (omega arith) (omega arith) (omega arith)
    (four-parts _ _ _ c.split_at_mut-first.result.0.now c.split_at_mut-first.result.1.now c.split_at_mut-third.result.0.now c.split_at_mut-third.result.1.now c.split_at_mut-left.ensures.value c.split_at_mut-first.ensures.value c.split_at_mut-third.ensures.value) (omega arith) (omega arith) (omega arith) (omega arith)
    c.constants.ensures.value c.constants.ensures.left c.constants.ensures.right c.fold_twice.ensures.first c.fold_twice.ensures.second c.fold_twice.ensures.third c.fold_twice.ensures.fourth
    (forward-leaf c.args.width (c.args.depth - 2) _ c.fold_twice.new.first none) (forward-leaf c.args.width (c.args.depth - 2) _ c.fold_twice.new.second none) (forward-leaf c.args.width (c.args.depth - 2) _ c.fold_twice.new.third none) (forward-leaf c.args.width (c.args.depth - 2) _ c.fold_twice.new.fourth none)

pub returns-then-depth-eq2-clause-symbols : goal.returns-then-depth-eq2-clause-symbols
returns-then-depth-eq2-clause-symbols t c =
    symbols-four _ _ _ _ c.fold_twice.ensures.first_symbols c.fold_twice.ensures.second_symbols c.fold_twice.ensures.third_symbols c.fold_twice.ensures.fourth_symbols

pub go_forward_by_two-requires : goal.go_forward_by_two-requires
go_forward_by_two-requires t c =
    let quarter = size-quarter c.args.width c.args.depth (omega arith) in (omega arith, (c.requires.roots, (omega arith, (omega arith, (omega arith, c.fold_twice.ensures.first_symbols)))))

pub go_forward_by_two-requires-2 : goal.go_forward_by_two-requires-2
go_forward_by_two-requires-2 t c =
    let quarter = size-quarter c.args.width c.args.depth (omega arith) in (omega arith, (c.requires.roots, (omega arith, (omega arith, (omega arith, c.fold_twice.ensures.second_symbols)))))

pub go_forward_by_two-requires-3 : goal.go_forward_by_two-requires-3
go_forward_by_two-requires-3 t c =
    let quarter = size-quarter c.args.width c.args.depth (omega arith) in (omega arith, (c.requires.roots, (omega arith, (omega arith, (omega arith, c.fold_twice.ensures.third_symbols)))))

pub go_forward_by_two-requires-4 : goal.go_forward_by_two-requires-4
go_forward_by_two-requires-4 t c =
    let quarter = size-quarter c.args.width c.args.depth (omega arith) in (omega arith, (c.requires.roots, (omega arith, (omega arith, (omega arith, c.fold_twice.ensures.fourth_symbols)))))

pub returns-clause-value : goal.returns-clause-value
returns-clause-value t c =
    let quarter = size-quarter c.args.width c.args.depth (omega arith) in
    forward-twice c.args.width c.args.depth (c.args.depth - 2) c.args.exponent _ _ _ (length c.args.rows.now / 2 / 2) c.args.rows.now c.split_at_mut-first.result.0.now c.split_at_mut-first.result.1.now c.split_at_mut-third.result.0.now c.split_at_mut-third.result.1.now
    c.fold_twice.new.first c.fold_twice.new.second c.fold_twice.new.third c.fold_twice.new.fourth c.go_forward_by_two.new.rows c.go_forward_by_two-2.new.rows c.go_forward_by_two-3.new.rows c.go_forward_by_two-4.new.rows
    (omega arith) (omega arith) (omega arith)
    (four-parts _ _ _ c.split_at_mut-first.result.0.now c.split_at_mut-first.result.1.now c.split_at_mut-third.result.0.now c.split_at_mut-third.result.1.now c.split_at_mut-left.ensures.value c.split_at_mut-first.ensures.value c.split_at_mut-third.ensures.value) (omega arith) (omega arith) (omega arith) (omega arith)
    c.constants.ensures.value c.constants.ensures.left c.constants.ensures.right c.fold_twice.ensures.first c.fold_twice.ensures.second c.fold_twice.ensures.third c.fold_twice.ensures.fourth
    c.go_forward_by_two.ensures.value c.go_forward_by_two-2.ensures.value c.go_forward_by_two-3.ensures.value c.go_forward_by_two-4.ensures.value

pub returns-clause-symbols : goal.returns-clause-symbols
returns-clause-symbols t c = symbols-four _ _ _ _ c.go_forward_by_two.ensures.symbols c.go_forward_by_two-2.ensures.symbols c.go_forward_by_two-3.ensures.symbols c.go_forward_by_two-4.ensures.symbols
