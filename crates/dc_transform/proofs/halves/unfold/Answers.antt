use Rattle.std.proofs.Common.{◌≡◌, get_or, ap, ◌∙◌, arith}
use Rattle.dc_transform_rules.specs.Residues.{plus, times}
use Rattle.dc_transform_rules.specs.Polynomials.{sums, scaled}
use Rattle.dc_transform.proofs.HalfLemmas.{symbols-made, symbols-sums, symbols-scaled, done_more, rest_more, all_sums, all_differences}
use Rattle.dc_transform.proofs.halves.unfold.Goals as goal

pub sum_of-requires-clause-x : goal.sum_of-requires-clause-x
sum_of-requires-clause-x c = omega (arith, c.loop-i.invariant.rest_left c.loop-i.i (omega arith), c.requires.left c.loop-i.i)

pub sum_of-requires-clause-y : goal.sum_of-requires-clause-y
sum_of-requires-clause-y c = omega (arith, c.loop-i.invariant.rest_right c.loop-i.i (omega arith), c.requires.right c.loop-i.i)

pub difference_of-requires-clause-x : goal.difference_of-requires-clause-x
difference_of-requires-clause-x c = omega (arith, c.loop-i.invariant.rest_left c.loop-i.i (omega arith), c.requires.left c.loop-i.i)

pub difference_of-requires-clause-y : goal.difference_of-requires-clause-y
difference_of-requires-clause-y c = omega (arith, c.loop-i.invariant.rest_right c.loop-i.i (omega arith), c.requires.right c.loop-i.i)

pub loop-i-preserved : goal.loop-i-preserved
loop-i-preserved c =
    let i = c.loop-i.i in
    let first : get_or c.loop-i.left i 0 ≡ get_or c.args.left.now i 0 = c.loop-i.invariant.rest_left i (omega arith) in
    let second : get_or c.loop-i.right i 0 ≡ get_or c.args.right.now i 0 = c.loop-i.invariant.rest_right i (omega arith) in
    record {
      first = done_more _ c.loop-i.left i c.sum_of.result (omega arith) c.loop-i.invariant.first
          (c.sum_of.ensures.value ∙ ap (λ x. plus x (get_or c.loop-i.right i 0)) first ∙ ap (plus (get_or c.args.left.now i 0)) second);
      second = done_more _ c.loop-i.right i c.product_of.result (omega arith) c.loop-i.invariant.second
          (c.product_of.ensures.value ∙ ap (times c.args.c) (c.difference_of.ensures.value ∙ ap (λ x. plus x (times 65536 (get_or c.loop-i.right i 0))) first
          ∙ ap (λ x. plus (get_or c.args.left.now i 0) (times 65536 x)) second));
      rest_left = rest_more c.args.left.now c.loop-i.left i c.sum_of.result c.loop-i.invariant.rest_left;
      rest_right = rest_more c.args.right.now c.loop-i.right i c.product_of.result c.loop-i.invariant.rest_right;
    }

pub returns-clause-plus : goal.returns-clause-plus
returns-clause-plus c = all_sums c.loop-i.left c.args.left.now c.args.right.now (omega arith) (omega arith) (λ k lt. c.loop-i.invariant.first k (omega arith))

pub returns-clause-minus : goal.returns-clause-minus
returns-clause-minus c = all_differences c.args.c c.loop-i.right c.args.left.now c.args.right.now (omega arith) (omega arith) (λ k lt. c.loop-i.invariant.second k (omega arith))

pub returns-clause-left_symbols : goal.returns-clause-left_symbols
returns-clause-left_symbols c = symbols-made _ _ (returns-clause-plus c) (symbols-sums c.args.left.now c.args.right.now (omega arith))

pub returns-clause-right_symbols : goal.returns-clause-right_symbols
returns-clause-right_symbols c = symbols-made _ _ (returns-clause-minus c) (symbols-scaled c.args.c (sums c.args.left.now (scaled 65536 c.args.right.now)))
