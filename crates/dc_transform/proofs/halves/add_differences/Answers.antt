use Rattle.std.proofs.Common.{◌≡◌, length, take, sym, refl, ◌∙◌, arith}
use Rattle.std.proofs.lemmas.List.{length-take, get_or-take}
use Rattle.dc_transform_rules.specs.Polynomials.{sums, scaled}
use Rattle.dc_transform.proofs.HalfLemmas.{done_more, rest_more, symbols-made, symbols-sums}
use Rattle.dc_transform.proofs.QuarterLemmas.{sums-at, plus-at, length-plus, done_sums}
use Rattle.dc_transform.proofs.halves.add_differences.Goals as goal

pub loop-i-preserved : goal.loop-i-preserved
loop-i-preserved c =
    let i = c.loop-i.i in
    let n = length c.args.totals.now in
    let d = sums c.args.left.now (scaled 65536 c.args.right.now) in
    let long : n ≡ length (take n d) = omega (arith, length-take n d, length-plus 65536 c.args.left.now c.args.right.now c.requires.lengths) in
    let here = plus-at 65536 c.args.left.now c.args.right.now i _ _ _ c.requires.lengths refl refl c.difference_of.ensures.value in
    record {
      so_far = done_more _ c.loop-i.totals i _ (omega arith) c.loop-i.invariant.so_far
          (sums-at c.args.totals.now (take n d) i _ _ _ long (c.loop-i.invariant.rest i (omega arith)) (here ∙ sym (get_or-take n d i 0 (omega arith))) c.sum_of.ensures.value);
      rest = rest_more c.args.totals.now c.loop-i.totals i _ c.loop-i.invariant.rest;
    }

pub returns-clause-value : goal.returns-clause-value
returns-clause-value c =
    let n = length c.args.totals.now in
    let d = sums c.args.left.now (scaled 65536 c.args.right.now) in
    done_sums n _ _ _ (omega arith) refl (omega (arith, length-take n d, length-plus 65536 c.args.left.now c.args.right.now c.requires.lengths))
    (λ k lt. c.loop-i.invariant.so_far k (omega arith))

pub returns-clause-symbols : goal.returns-clause-symbols
returns-clause-symbols c =
    let n = length c.args.totals.now in
    let d = sums c.args.left.now (scaled 65536 c.args.right.now) in
    symbols-made _ _ (returns-clause-value c)
    (symbols-sums c.args.totals.now (take n d) (omega (arith, length-take n d, length-plus 65536 c.args.left.now c.args.right.now c.requires.lengths)))
