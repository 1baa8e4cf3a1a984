use Rattle.std.proofs.Common.{◌+◌, ◌<◌, ℕ, List, length, get_or, subst, sym, ap, ◌∙◌}
use Rattle.std.proofs.lemmas.List.{length_push}
use Rattle.dc_net.specs.RoundKeys.{IsNewStrip}
use Rattle.dc_net.specs.declared.key_strip.KeyStrip.{KeyStrip}
use Rattle.dc_net.proofs.KeyStrips.{new_more}
use Rattle.dc_net.proofs.round_keys.strips_of.Goals as goal

pub loop-number-preserved : goal.loop-number-preserved
loop-number-preserved c =
    let so_far = c.loop-number.invariant in
    let strips = c.loop-number.strips.items in
    let strip = c.in_ok-strip_of.field-0 in
    record {
      many = ap (λ (xs : List KeyStrip). length xs) c.push_reserved.ensures.items ∙ length_push strips strip ∙ ap (λ (n : ℕ). n + 1) so_far.many;
      room = c.push_reserved.ensures.capacity ∙ so_far.room;
      each = subst
          (λ (xs : List KeyStrip). (q : ℕ) (d : KeyStrip) → q < length xs → IsNewStrip (get_or xs q d) c.args.file.now c.args.stations.now c.args.width q)
          (sym {A = List KeyStrip} c.push_reserved.ensures.items)
          (new_more strips strip c.args.file.now c.args.stations.now c.args.width so_far.each
          (subst (λ (n : ℕ). IsNewStrip strip c.args.file.now c.args.stations.now c.args.width n) (sym so_far.many) c.in_ok-strip_of.ensures));
    }
