use Rattle.std.proofs.Common.{◌+◌, List, [], ◌∷◌, ◌++◌, get_or, subst, sym, arith}
use Rattle.std.proofs.lemmas.List.{with_items_is}
use Rattle.dc_net.specs.KeyStrip.{AllTookRow}
use Rattle.dc_net.specs.RoundKeys.{RoundKeysState, AreRoundKeys, KeysAt}
use Rattle.dc_net.specs.declared.key_strip.KeyStrip.{KeyStrip}
use Rattle.dc_net.proofs.KeyStrips.{AreRoundKeys-more, KeysAt-more}
use Rattle.dc_net.proofs.round_keys.RoundKeys.take.Goals as goal

pub invariant_of-self : goal.invariant_of-self
invariant_of-self g c =
    let k = c.self.inside in
    let state : RoundKeysState = record { width = k.width; places = k.places; taken = k.taken; total = k.total; strips = k.strips.items } in
    let kept = with_items_is c.self.inside.strips c.take_by_all.new.strips (let long = c.take_by_all.auto.strips in let len = c.deref_mut.ensures.len in omega arith) in
    let took = subst (λ (xs : List KeyStrip). AllTookRow c.args.row.now xs c.take_by_all.new.strips) c.deref_mut.ensures.value c.take_by_all.ensures in
    subst (λ (xs : List KeyStrip). AreRoundKeys (record { width = k.width; places = k.places; taken = k.taken + 1; total = k.total; strips = xs })) (sym kept)
    (AreRoundKeys-more state c.args.row.now c.take_by_all.new.strips c.self.invariant took)

pub returns-clause-stands : goal.returns-clause-stands
returns-clause-stands g c = λ place keys station received at.
    let k = c.self.inside in
    let state : RoundKeysState = record { width = k.width; places = k.places; taken = k.taken; total = k.total; strips = k.strips.items } in
    let kept = with_items_is c.self.inside.strips c.take_by_all.new.strips (let long = c.take_by_all.auto.strips in let len = c.deref_mut.ensures.len in omega arith) in
    let took = subst (λ (xs : List KeyStrip). AllTookRow c.args.row.now xs c.take_by_all.new.strips) c.deref_mut.ensures.value c.take_by_all.ensures in
    let before = subst (λ (m : RoundKeysState). KeysAt m place keys station received) (sym c.self.view_is) at in
    subst
    (λ (xs : List KeyStrip). KeysAt (record { width = k.width; places = k.places; taken = k.taken + 1; total = k.total; strips = xs }) place keys station
    (received ++ get_or c.args.row.now place [] ∷ []))
    (sym kept) (KeysAt-more state c.args.row.now c.take_by_all.new.strips place keys station received c.self.invariant took before)
