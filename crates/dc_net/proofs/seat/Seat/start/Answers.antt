use Rattle.std.proofs.Common.{◌≡◌, ℕ, List, [], subst, sym, ap, ◌∙◌, arith}
use Rattle.dc_spec.specs.Pads.{Keys}
use Rattle.dc_station.specs.StandsFor.{ReceiverStandsFor, SenderStandsFor}
use Rattle.dc_key_rules.specs.PairKeys.{key_part}
use Rattle.dc_net.specs.WordList.{column}
use Rattle.dc_net.proofs.Columns.{column_none}
use Rattle.dc_net.proofs.seat.Seat.start.Goals as goal

-- where the words of the net are none, those of a station are none
nothing_heard : (words heard : List (List ℕ)) (n j : ℕ) → words ≡ heard → heard ≡ [] → [] ≡ column n j words
nothing_heard words heard n j same none = sym (column_none words n j (same ∙ none))

pub invariant_of-result : goal.invariant_of-result
invariant_of-result c =
    let e = nothing_heard c.of.result.value.words c.args.heard.now.words c.args.seats c.args.place (ap (λ l. l.words) c.of.ensures) c.requires.heard in
    let words : c.file.inside.words ≡ c.args.file.now.words = ap (λ (k : Keys). k.words) c.file.view_is in
    record {
      receives = subst (λ (xs : List (List ℕ)). ReceiverStandsFor c.in_ok-receiver.receiver c.args.file.now.words xs) e
          (subst (λ (total : ℕ). ReceiverStandsFor c.in_ok-receiver.receiver total []) words c.in_ok-receiver.ensures);
      sends = subst (λ (xs : List (List ℕ)). SenderStandsFor c.in_ok-sender.sender c.args.stream.now c.args.file.now.words xs) e
          (subst (λ (total : ℕ). SenderStandsFor c.in_ok-sender.sender c.args.stream.now total []) words (c.in_ok-sender.ensures.stands c.args.stream.now));
      own = c.in_ok-sender.ensures.own c.args.stream.now;
      keyed = λ left. c.requires.key (omega arith) ∙ ap (λ (xs : List (List ℕ)). key_part c.args.file.now.pairs c.args.station xs) e;
    }
