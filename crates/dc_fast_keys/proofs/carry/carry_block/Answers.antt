use Rattle.std.proofs.Common.{arith}
use Rattle.std.proofs.lemmas.List.{length-take}
use Rattle.dc_transform_rules.proofs.TransformLemmas.{size-rows}
use Rattle.dc_fast_keys.proofs.CarryLemmas.{carried-from, symbols-put}
use Rattle.dc_fast_keys.proofs.carry.carry_block.Goals as goal

pub slice_bounds-add_block-end-3 : goal.slice_bounds-add_block-end-3
slice_bounds-add_block-end-3 c = omega (arith, size-rows 1 c.args.depth, c.split_at_mut-many.ensures.back_len, c.rows_at.ensures)

pub slice_bounds-add_block-end-4 : goal.slice_bounds-add_block-end-4
slice_bounds-add_block-end-4 c =
    omega (arith, size-rows 1 c.args.depth, c.split_at_mut-many.ensures.back_len, c.rows_at.ensures, length-take c.rows_at.result c.split_at_mut-many.result.1.now)

pub add_block-requires-clause-one_long : goal.add_block-requires-clause-one_long
add_block-requires-clause-one_long c =
    omega (arith, size-rows 1 c.args.depth, c.split_at_mut-many.ensures.back_len, c.rows_at.ensures, length-take c.rows_at.result c.split_at_mut-many.result.1.now)

pub returns-clause-carried : goal.returns-clause-carried
returns-clause-carried c =
    carried-from c.args.width c.args.depth c.args.span.0 c.args.span.1 _ _ c.args.spectrum.now c.args.received.now c.args.sums.now c.add_block.new.sums (omega arith)
    c.requires.block c.requires.before c.requires.received_long c.requires.sums_long (omega arith) (omega arith) (omega arith) c.add_block.ensures.added

pub returns-clause-symbols : goal.returns-clause-symbols
returns-clause-symbols c = symbols-put _ _ c.args.sums.now c.add_block.new.sums c.requires.sums_symbols c.add_block.ensures.symbols
