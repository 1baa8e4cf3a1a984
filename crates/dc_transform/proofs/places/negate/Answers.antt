use Rattle.std.proofs.Common.{get_or, ap, ◌∙◌, arith}
use Rattle.dc_transform_rules.specs.Residues.{times}
use Rattle.dc_transform_rules.proofs.ResidueLemmas.{zero-plus-times}
use Rattle.dc_transform.proofs.HalfLemmas.{done_more, rest_more, all_scaled, symbols-made, symbols-scaled}
use Rattle.dc_transform.proofs.places.negate.Goals as goal

pub loop-i-preserved : goal.loop-i-preserved
loop-i-preserved c =
    let i = c.loop-i.i in
    record {
      so_far = done_more _ c.loop-i.numbers i c.difference_of.result (omega arith) c.loop-i.invariant.so_far
          (c.difference_of.ensures.value ∙ zero-plus-times 65536 (get_or c.loop-i.numbers i 0) ∙ ap (times 65536) (c.loop-i.invariant.rest i (omega arith)));
      rest = rest_more c.args.numbers.now c.loop-i.numbers i c.difference_of.result c.loop-i.invariant.rest;
    }

pub returns-clause-value : goal.returns-clause-value
returns-clause-value c = all_scaled 65536 c.loop-i.numbers c.args.numbers.now (omega arith) (λ k lt. c.loop-i.invariant.so_far k (omega arith))

pub returns-clause-symbols : goal.returns-clause-symbols
returns-clause-symbols c = symbols-made _ _ (returns-clause-value c) (symbols-scaled 65536 c.args.numbers.now)
