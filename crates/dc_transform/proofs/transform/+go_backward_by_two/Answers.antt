use Rattle.std.proofs.Common.{◌≡◌, ◌-◌, ◌/◌, length, arith}
use Rattle.dc_transform_rules.proofs.TransformLemmas.{backward-leaf}
use Rattle.dc_transform.proofs.HalfLemmas.{symbols-front}
use Rattle.dc_transform.proofs.QuarterLemmas.{size-quarter, four-parts, symbols-four, symbols-back, backward-twice}
use Rattle.dc_transform.proofs.transform.+go_backward_by_two.Goals as goal

pub unfold_twice-requires-clause-first : goal.unfold_twice-requires-clause-first
unfold_twice-requires-clause-first t c = symbols-front _ _ _ c.split_at_mut-first.ensures.value (symbols-front _ _ _ c.split_at_mut-left.ensures.value c.requires.symbols)

pub unfold_twice-requires-clause-second : goal.unfold_twice-requires-clause-second
unfold_twice-requires-clause-second t c = symbols-back _ _ _ c.split_at_mut-first.ensures.value (symbols-front _ _ _ c.split_at_mut-left.ensures.value c.requires.symbols)

pub unfold_twice-requires-clause-third : goal.unfold_twice-requires-clause-third
unfold_twice-requires-clause-third t c = symbols-front _ _ _ c.split_at_mut-third.ensures.value (symbols-back _ _ _ c.split_at_mut-left.ensures.value c.requires.symbols)

pub returns-then-depth-eq2-clause-value : goal.returns-then-depth-eq2-clause-value
returns-then-depth-eq2-clause-value t c =
    let none : c.args.depth - 2 ≡ 0 = omega arith in
    let quarter = size-quarter c.args.width c.args.depth (omega arith) in
    backward-twice c.args.width c.args.depth (c.args.depth - 2) c.args.exponent _ _ _ (length c.args.rows.now / 2 / 2) c.args.rows.now c.split_at_mut-first.result.0.now c.split_at_mut-first.result.1.now c.split_at_mut-third.result.0.now c.split_at_mut-third.result.1.now
    c.split_at_mut-first.result.0.now c.split_at_mut-first.result.1.now c.split_at_mut-third.result.0.now c.split_at_mut-third.result.1.now c.unfold_twice.new.first c.unfold_twice.new.second c.unfold_twice.new.third c.unfold_twice.new.fourth
    (omega arith) (omega arith) (omega arith)
    (four-parts _ _ _ c.split_at_mut-first.result.0.now c.split_at_mut-first.result.1.now c.split_at_mut-third.result.0.now c.split_at_mut-third.result.1.now c.split_at_mut-left.ensures.value c.split_at_mut-first.ensures.value c.split_at_mut-third.ensures.value) (omega arith) (omega arith) (omega arith) (omega arith)
    (omega arith) (omega arith) (omega arith) (omega arith) c.inverses.ensures.value c.inverses.ensures.left c.inverses.ensures.right
    (backward-leaf c.args.width (c.args.depth - 2) _ c.split_at_mut-first.result.0.now none) (backward-leaf c.args.width (c.args.depth - 2) _ c.split_at_mut-first.result.1.now none) (backward-leaf c.args.width (c.args.depth - 2) _ c.split_at_mut-third.result.0.now none) (backward-leaf c.args.width (c.args.depth - 2) _ c.split_at_mut-third.result.1.now none)
    c.unfold_twice.ensures.first c.unfold_twice.ensures.second c.unfold_twice.ensures.third c.unfold_twice.ensures.fourth

pub returns-then-depth-eq2-clause-symbols : goal.returns-then-depth-eq2-clause-symbols
returns-then-depth-eq2-clause-symbols t c = symbols-four _ _ _ _ c.unfold_twice.ensures.first_symbols c.unfold_twice.ensures.second_symbols c.unfold_twice.ensures.third_symbols c.unfold_twice.ensures.fourth_symbols

pub go_backward_by_two-requires : goal.go_backward_by_two-requires
go_backward_by_two-requires t c =
    let quarter = size-quarter c.args.width c.args.depth (omega arith) in (omega arith, (c.requires.roots, (omega arith, (omega arith, (omega arith, symbols-front _ _ _ c.split_at_mut-first.ensures.value (symbols-front _ _ _ c.split_at_mut-left.ensures.value c.requires.symbols))))))

pub go_backward_by_two-requires-2 : goal.go_backward_by_two-requires-2
go_backward_by_two-requires-2 t c =
    let quarter = size-quarter c.args.width c.args.depth (omega arith) in (omega arith, (c.requires.roots, (omega arith, (omega arith, (omega arith, symbols-back _ _ _ c.split_at_mut-first.ensures.value (symbols-front _ _ _ c.split_at_mut-left.ensures.value c.requires.symbols))))))

pub go_backward_by_two-requires-3 : goal.go_backward_by_two-requires-3
go_backward_by_two-requires-3 t c =
    let quarter = size-quarter c.args.width c.args.depth (omega arith) in (omega arith, (c.requires.roots, (omega arith, (omega arith, (omega arith, symbols-front _ _ _ c.split_at_mut-third.ensures.value (symbols-back _ _ _ c.split_at_mut-left.ensures.value c.requires.symbols))))))

pub go_backward_by_two-requires-4 : goal.go_backward_by_two-requires-4
go_backward_by_two-requires-4 t c =
    let quarter = size-quarter c.args.width c.args.depth (omega arith) in (omega arith, (c.requires.roots, (omega arith, (omega arith, (omega arith, symbols-back _ _ _ c.split_at_mut-third.ensures.value (symbols-back _ _ _ c.split_at_mut-left.ensures.value c.requires.symbols))))))

pub unfold_twice-requires-2-clause-second_long : goal.unfold_twice-requires-2-clause-second_long
unfold_twice-requires-2-clause-second_long t c = let quarter = size-quarter c.args.width c.args.depth (omega arith) in omega arith

pub unfold_twice-requires-2-clause-fourth_long : goal.unfold_twice-requires-2-clause-fourth_long
unfold_twice-requires-2-clause-fourth_long t c = let quarter = size-quarter c.args.width c.args.depth (omega arith) in omega arith

pub returns-clause-value : goal.returns-clause-value
returns-clause-value t c =
    let quarter = size-quarter c.args.width c.args.depth (omega arith) in
    backward-twice c.args.width c.args.depth (c.args.depth - 2) c.args.exponent _ _ _ (length c.args.rows.now / 2 / 2) c.args.rows.now c.split_at_mut-first.result.0.now c.split_at_mut-first.result.1.now c.split_at_mut-third.result.0.now c.split_at_mut-third.result.1.now
    c.go_backward_by_two.new.rows c.go_backward_by_two-2.new.rows c.go_backward_by_two-3.new.rows c.go_backward_by_two-4.new.rows c.unfold_twice-2.new.first c.unfold_twice-2.new.second c.unfold_twice-2.new.third c.unfold_twice-2.new.fourth
    (omega arith) (omega arith) (omega arith)
    (four-parts _ _ _ c.split_at_mut-first.result.0.now c.split_at_mut-first.result.1.now c.split_at_mut-third.result.0.now c.split_at_mut-third.result.1.now c.split_at_mut-left.ensures.value c.split_at_mut-first.ensures.value c.split_at_mut-third.ensures.value) (omega arith) (omega arith) (omega arith) (omega arith)
    (omega arith) (omega arith) (omega arith) (omega arith) c.inverses-2.ensures.value c.inverses-2.ensures.left c.inverses-2.ensures.right
    c.go_backward_by_two.ensures.value c.go_backward_by_two-2.ensures.value c.go_backward_by_two-3.ensures.value c.go_backward_by_two-4.ensures.value
    c.unfold_twice-2.ensures.first c.unfold_twice-2.ensures.second c.unfold_twice-2.ensures.third c.unfold_twice-2.ensures.fourth

pub returns-clause-symbols : goal.returns-clause-symbols
returns-clause-symbols t c = symbols-four _ _ _ _ c.unfold_twice-2.ensures.first_symbols c.unfold_twice-2.ensures.second_symbols c.unfold_twice-2.ensures.third_symbols c.unfold_twice-2.ensures.fourth_symbols
