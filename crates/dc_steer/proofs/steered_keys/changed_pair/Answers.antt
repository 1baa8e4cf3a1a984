use Rattle.std.proofs.Common.{◌≡◌, ℕ, List, length, slice_index, ap, ap₂, sym, subst, ◌∙◌}
use Rattle.dc_spec.specs.Pads.{Pair}
use Rattle.dc_key_rules.specs.PairKeys.{pads_add}
use Rattle.dc_keys.specs.Pads.{ArePads}
use Rattle.dc_steer.proofs.SteeredKeys.{changed_is}
use Rattle.dc_steer.proofs.steered_keys.changed_pair.Goals as goal

-- the sums of both lists of pads are pads
made : (p : Pair) (x y a b xs ys us vs : List ℕ) → us ≡ p.a → xs ≡ x → vs ≡ p.b → ys ≡ y → a ≡ pads_add us xs → b ≡ pads_add vs ys
    → ArePads p.a p.b → length x ≡ length p.a → length y ≡ length p.a → slice_index y 0 ≡ 0 → ArePads a b
made p x y a b xs ys us vs first_pads first second_pads second is_a is_b are first_many second_many none =
    let as_a : a ≡ pads_add p.a x = is_a ∙ ap₂ pads_add first_pads first in
    let as_b : b ≡ pads_add p.b y = is_b ∙ ap₂ pads_add second_pads second in
    subst (λ (z : List ℕ). ArePads z b) (sym as_a) (subst (λ (z : List ℕ). ArePads (pads_add p.a x) z) (sym as_b) (changed_is p x y are first_many second_many none))

pub invariant_of-result : goal.invariant_of-result
invariant_of-result c =
    let p : Pair = record { u = c.pair.inside.u; v = c.pair.inside.v; a = c.pair.inside.a; b = c.pair.inside.b } in
    let long = ap (λ (q : Pair). length q.a) c.pair.view_is in
    made p c.args.first.now c.args.second.now _ _ _ _ _ _ c.as_slice.ensures.value c.as_slice-2.ensures.value c.as_slice-3.ensures.value c.as_slice-4.ensures.value
    c.in_ok-a.ensures c.in_ok-b.ensures c.pair.invariant (c.requires.first ∙ sym long) (c.requires.second ∙ sym long) c.requires.no_first
