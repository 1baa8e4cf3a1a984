use Rattle.std.proofs.Common.{◌≡◌, ℕ, ◌+◌, List, [], ◌∷◌, ◌++◌, length, take, sym, ◌∙◌, ap, subst}
use Rattle.std.proofs.lemmas.List.{take_more}
use Rattle.dc_spec.specs.Words.{word_sub}
use Rattle.dc_station_rules.specs.Stations.{plain_word}
use Rattle.dc_station.specs.StandsFor.{ReceiverStandsFor, SenderStandsFor}
use Rattle.dc_twin.proofs.Rows.{items_more}
use Rattle.dc_twin.proofs.station_demands.station_demands.Goals as goal

pub loop-w-init : goal.loop-w-init
loop-w-init c = record {
  receives = c.in_ok-receiver.ensures;
  sends = c.in_ok-sender.ensures.stands c.args.own.now;
  own = c.in_ok-sender.ensures.own c.args.own.now;
  other_sends = c.in_ok-other_sender.ensures.stands c.args.other.now;
  other_own = c.in_ok-other_sender.ensures.own c.args.other.now;
  demands = c.in_ok-demands.ensures.items;
}

pub loop-w-preserved : goal.loop-w-preserved
loop-w-preserved c =
    let received = c.args.received.now in
    let t = c.loop-w.w-index in
    let n = length c.args.received.now in
    let front = take c.loop-w.w-index c.args.received.now in
    let inv = c.loop-w.invariant in
    let more : take (c.loop-w.w-index + 1) c.args.received.now ≡ take c.loop-w.w-index c.args.received.now ++ c.w-item.result ∷ [] =
    take_more c.args.received.now c.loop-w.w-index c.w-item.result c.loop-w-test.true
    ∙ ap (λ (w : List ℕ). take c.loop-w.w-index c.args.received.now ++ w ∷ []) (sym c.w-item.is) in
    let receives = c.receive.ensures.stands n front inv.receives in
    let sends = c.take.ensures.stands n front c.w-item.result inv.sends receives in
    let other_sends = c.take-in-loop-w.ensures.stands n front c.w-item.result inv.other_sends receives in
    record {
      receives = subst (λ (ws : List (List ℕ)). ReceiverStandsFor c.receive.new.self n ws) (sym more) receives;
      sends = subst (λ (ws : List (List ℕ)). SenderStandsFor c.take.new.self c.args.own.now n ws) (sym more) sends;
      own = c.take.ensures.own;
      other_sends = subst (λ (ws : List (List ℕ)). SenderStandsFor c.take-in-loop-w.new.self c.args.other.now n ws) (sym more) other_sends;
      other_own = c.take-in-loop-w.ensures.own;
      demands = items_more (λ k. word_sub (plain_word c.args.own.now (take k c.args.received.now)) (plain_word c.args.other.now (take k c.args.received.now))) c.loop-w.w-index _ _ _
          inv.demands
          (c.sub.ensures ∙ ap (λ (v : List ℕ). word_sub v c.plain-other_plain.result) (c.plain-plain.ensures n front inv.sends inv.receives)
          ∙ ap (λ (v : List ℕ). word_sub (plain_word c.args.own.now front) v) (c.plain-other_plain.ensures n front inv.other_sends inv.receives))
          c.in_ok-push.ensures.items;
    }
