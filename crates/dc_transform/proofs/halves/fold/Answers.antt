use Rattle.std.proofs.Common.{◌≡◌, get_or, ap, ◌∙◌, arith}
use Rattle.dc_transform_rules.specs.Residues.{plus, times}
use Rattle.dc_transform_rules.specs.Polynomials.{scaled}
use Rattle.dc_transform_rules.proofs.ProductLemmas.{length-scaled}
use Rattle.dc_transform.proofs.HalfLemmas.{symbols-made, symbols-sums, done_more, rest_more, all_folded, all_opposite}
use Rattle.dc_transform.proofs.halves.fold.Goals as goal

pub product_of-second-requires-clause-x : goal.product_of-second-requires-clause-x
product_of-second-requires-clause-x c = omega (arith, c.loop-i.invariant.rest_right c.loop-i.i (omega arith), c.requires.right c.loop-i.i)

pub sum_of-requires-clause-x : goal.sum_of-requires-clause-x
sum_of-requires-clause-x c = omega (arith, c.loop-i.invariant.rest_left c.loop-i.i (omega arith), c.requires.left c.loop-i.i)

pub difference_of-requires-clause-x : goal.difference_of-requires-clause-x
difference_of-requires-clause-x c = omega (arith, c.loop-i.invariant.rest_left c.loop-i.i (omega arith), c.requires.left c.loop-i.i)

pub loop-i-preserved : goal.loop-i-preserved
loop-i-preserved c =
    let i = c.loop-i.i in
    let first : get_or c.loop-i.left i 0 ≡ get_or c.args.left.now i 0 = c.loop-i.invariant.rest_left i (omega arith) in
    let second : c.product_of-second.result ≡ times c.args.c (get_or c.args.right.now i 0) =
    c.product_of-second.ensures.value ∙ ap (times c.args.c) (c.loop-i.invariant.rest_right i (omega arith)) in
    record {
      first = done_more _ c.loop-i.left i c.sum_of.result (omega arith) c.loop-i.invariant.first
          (c.sum_of.ensures.value ∙ ap (λ x. plus x c.product_of-second.result) first ∙ ap (plus (get_or c.args.left.now i 0)) second);
      second = done_more _ c.loop-i.right i c.difference_of.result (omega arith) c.loop-i.invariant.second
          (c.difference_of.ensures.value ∙ ap (λ x. plus x (times 65536 c.product_of-second.result)) first ∙ ap (λ x. plus (get_or c.args.left.now i 0) (times 65536 x)) second);
      rest_left = rest_more c.args.left.now c.loop-i.left i c.sum_of.result c.loop-i.invariant.rest_left;
      rest_right = rest_more c.args.right.now c.loop-i.right i c.difference_of.result c.loop-i.invariant.rest_right;
    }

pub returns-clause-plus : goal.returns-clause-plus
returns-clause-plus c = all_folded c.args.c c.loop-i.left c.args.left.now c.args.right.now (omega arith) (omega arith) (λ k lt. c.loop-i.invariant.first k (omega arith))

pub returns-clause-minus : goal.returns-clause-minus
returns-clause-minus c = all_opposite c.args.c c.loop-i.right c.args.left.now c.args.right.now (omega arith) (omega arith) (λ k lt. c.loop-i.invariant.second k (omega arith))

pub returns-clause-left_symbols : goal.returns-clause-left_symbols
returns-clause-left_symbols c = symbols-made _ _ (returns-clause-plus c) (symbols-sums c.args.left.now (scaled c.args.c c.args.right.now) (omega (arith, length-scaled c.args.c c.args.right.now)))

pub returns-clause-right_symbols : goal.returns-clause-right_symbols
returns-clause-right_symbols c = symbols-made _ _ (returns-clause-minus c) (symbols-sums c.args.left.now (scaled (times 65536 c.args.c) c.args.right.now) (omega (arith, length-scaled (times 65536 c.args.c) c.args.right.now)))
