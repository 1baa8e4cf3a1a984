use Rattle.std.proofs.Common.{refl, sym, ◌∙◌, true≢false}
use Rattle.dc_keys.proofs.pair_key.PairKey.new.Goals as goal

pub invariant_of-result : goal.invariant_of-result
invariant_of-result c = rw (← c.as_slice.ensures.value, ← c.as_slice-2.ensures.value) ((c.are_pads.ensures c.args.u c.args.v).0 c.if-are_pads.true)

pub returns-then-are_pads : goal.returns-then-are_pads
returns-then-are_pads c = (rw (← c.as_slice.ensures.value, ← c.as_slice-2.ensures.value) ((c.are_pads.ensures c.args.u c.args.v).0 c.if-are_pads.true), refl)

pub returns-else-are_pads : goal.returns-else-are_pads
returns-else-are_pads c = rw (← c.as_slice.ensures.value, ← c.as_slice-2.ensures.value) (λ is. true≢false (sym ((c.are_pads.ensures c.args.u c.args.v).1 is) ∙ c.if-are_pads.false))
