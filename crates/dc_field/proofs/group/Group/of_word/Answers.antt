use Rattle.std.proofs.Common.{Some, None, ap, ◌∙◌, arith, rules}
use Rattle.dc_spec.specs.Groups.{group_of}
use Rattle.dc_field.proofs.GroupLemmas.{judged-group_of, limbs_within}
use Rattle.dc_field.proofs.group.Group.of_word.Goals as goal

pub returns-in-Some : goal.returns-in-Some
returns-in-Some c =
    judged-group_of c.numbers-numbers.result.now (Some c.in-Some.i) (search rules) (omega arith) c.in-Some.ensures.place ∙ ap group_of c.numbers-numbers.ensures.value

pub returns-in-None : goal.returns-in-None
returns-in-None c =
    rw c.narrowed.ensures (judged-group_of c.numbers-numbers.result.now None (search rules) (omega arith) c.in-None.ensures.place ∙ ap group_of c.numbers-numbers.ensures.value)

-- no limb is above 255 times the count
pub narrowed-requires-clause-small : goal.narrowed-requires-clause-small
narrowed-requires-clause-small c = λ i. let within = limbs_within _ _ (search rules) c.in-None.ensures.place i in omega (arith, within)

pub invariant_of-result : goal.invariant_of-result
invariant_of-result c = record {
  most = omega arith;
  fifteen = search rules;
  limbs = λ i. rw c.narrowed.ensures (limbs_within _ _ (search rules) c.in-None.ensures.place i);
}
