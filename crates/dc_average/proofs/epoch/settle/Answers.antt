use Rattle.std.proofs.Common.{◌++◌, ◌∷◌, [], map, drop, length-append, sym, ap, ◌∙◌, arith, append_assoc}
use Rattle.std.proofs.lemmas.List.{append-nil}
use Rattle.dc_average.specs.Items.{a_group, leaves_in}
use Rattle.dc_average.proofs.StackLemmas.{uneven_limb-single, counts-single, from_open-single, leaves_in-single}
use Rattle.dc_average.proofs.epoch.settle.Goals as goal

pub leaf-requires-clause-even : goal.leaf-requires-clause-even
leaf-requires-clause-even c = uneven_limb-single c.in-Some.top.group c.in-Some.ensures.some.1

pub push-requires : goal.push-requires
push-requires c =
    let room = c.loop-top.invariant.room in
    omega (arith, counts-single c.loop-top.stack c.in-Some.top c.in-Some.ensures.some.0 c.in-Some.ensures.some.1)

pub loop-top-preserved : goal.loop-top-preserved
loop-top-preserved c =
    let room = c.loop-top.invariant.room in
    let leaf = c.leaf.result in
    rw (c.push.ensures, c.pop.ensures.rest) (record {
      room = omega (arith, length-append c.loop-top.out (leaf ∷ []), counts-single c.loop-top.stack c.in-Some.top c.in-Some.ensures.some.0 c.in-Some.ensures.some.1);
      waiting = from_open-single c.loop-top.stack c.in-Some.top c.in-Some.ensures.some.0 c.in-Some.ensures.some.1 ∙ c.loop-top.invariant.waiting;
      leaves = append_assoc c.loop-top.out (leaf ∷ []) (leaves_in (map a_group (drop 1 c.loop-top.stack))) ∙ (ap (λ zs. c.loop-top.out ++ zs) (ap (λ l. l ∷ leaves_in (map a_group (drop 1 c.loop-top.stack))) c.leaf.ensures ∙ leaves_in-single c.loop-top.stack c.in-Some.top c.in-Some.ensures.some.0 c.in-Some.ensures.some.1) ∙ c.loop-top.invariant.leaves);
    })

pub returns-in-Some-top-clause-leaves : goal.returns-in-Some-top-clause-leaves
returns-in-Some-top-clause-leaves c =
    sym (append-nil c.loop-top.out) ∙ (ap (λ zs. c.loop-top.out ++ zs) (sym c.in_default.ensures.leaves) ∙ c.loop-top.invariant.leaves)

pub returns-in-None-clause-leaves : goal.returns-in-None-clause-leaves
returns-in-None-clause-leaves c =
    sym (append-nil c.loop-top.out) ∙ (ap (λ zs. c.loop-top.out ++ zs) (sym c.in_default.ensures.leaves) ∙ c.loop-top.invariant.leaves)
