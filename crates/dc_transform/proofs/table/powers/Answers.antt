use Rattle.std.proofs.Common.{◌+◌, length, get_or, sym, ap, ◌∙◌, arith}
use Rattle.std.proofs.lemmas.List.{length_push}
use Rattle.dc_transform_rules.specs.Residues.{times}
use Rattle.dc_transform_rules.proofs.RootLemmas.{root_zero, root-below, root-fits, root-more}
use Rattle.dc_transform.proofs.PowerLemmas.{powers-more}
use Rattle.dc_transform.proofs.table.powers.Goals as goal

pub loop-exponent-init : goal.loop-exponent-init
loop-exponent-init c = record {
  long = ap length c.in_ok-items.ensures.items;
  room = c.in_ok-items.ensures.exact;
  powers = λ x lt. absurd (omega arith);
  next = sym root_zero;
}

pub overflow_cast-power : goal.overflow_cast-power
overflow_cast-power c = omega (arith, root-fits c.loop-exponent.exponent (omega arith))

pub product_of-power-requires-clause-x : goal.product_of-power-requires-clause-x
product_of-power-requires-clause-x c = omega (arith, root-below c.loop-exponent.exponent)

pub loop-exponent-preserved : goal.loop-exponent-preserved
loop-exponent-preserved c =
    let all = c.loop-exponent.invariant in
    record {
      long = ap length c.push_reserved.ensures.items ∙ length_push c.loop-exponent.items.items c.loop-exponent.power ∙ ap (λ n. n + 1) all.long;
      room = c.push_reserved.ensures.capacity ∙ all.room;
      powers = λ x lt. ap (λ l. get_or l x 0) c.push_reserved.ensures.items
          ∙ powers-more c.loop-exponent.items.items c.loop-exponent.exponent c.loop-exponent.power all.long all.powers all.next x lt;
      next = c.product_of-power.ensures.value ∙ ap (times 3) all.next ∙ root-more c.loop-exponent.exponent;
    }
