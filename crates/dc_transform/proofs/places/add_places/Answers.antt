use Rattle.std.proofs.Common.{get_or, ap, ◌∙◌, arith}
use Rattle.dc_transform_rules.specs.Residues.{plus}
use Rattle.dc_transform.proofs.HalfLemmas.{done_more, rest_more, all_sums, symbols-made, symbols-sums}
use Rattle.dc_transform.proofs.places.add_places.Goals as goal

pub loop-i-preserved : goal.loop-i-preserved
loop-i-preserved c =
    let i = c.loop-i.i in
    record {
      so_far = done_more _ c.loop-i.a i c.sum_of.result (omega arith) c.loop-i.invariant.so_far
          (c.sum_of.ensures.value ∙ ap (λ x. plus x (get_or c.args.b.now i 0)) (c.loop-i.invariant.rest i (omega arith)));
      rest = rest_more c.args.a.now c.loop-i.a i c.sum_of.result c.loop-i.invariant.rest;
    }

pub returns-clause-value : goal.returns-clause-value
returns-clause-value c = all_sums c.loop-i.a c.args.a.now c.args.b.now (omega arith) (omega arith) (λ k lt. c.loop-i.invariant.so_far k (omega arith))

pub returns-clause-symbols : goal.returns-clause-symbols
returns-clause-symbols c = symbols-made _ _ (returns-clause-value c) (symbols-sums c.args.a.now c.args.b.now (omega arith))
