use Rattle.std.proofs.Common.{ℕ, ◌+◌, ◌-◌, List, length, get_or, subst, sym, ap, ◌∙◌, arith}
use Rattle.std.proofs.lemmas.List.{get_or_default}
use Rattle.dc_spec.specs.Words.{zero_word}
use Rattle.dc_net.specs.WordList.{Kept}
use Rattle.dc_net.specs.Seat.{SeatState, SeatStandsFor, TakesNext, with_heard}
use Rattle.dc_net.specs.WordList.{column}
use Rattle.dc_net.proofs.Seats.{SeatStandsFor-more}
use Rattle.dc_net.proofs.seat.Seat.take.Goals as goal

pub invariant_of-self : goal.invariant_of-self
invariant_of-self c =
    let seat : SeatState = record {
      stream = c.self.inside.stream.now;
      keys = c.self.inside.file.now;
      station = c.self.inside.station;
      received = column c.self.inside.seats c.self.inside.place c.self.inside.heard.value.words;
      place = c.self.inside.place;
      seats = c.self.inside.seats;
    } in
    let heard = c.args.heard.now.words in
    let takes : TakesNext heard c.args.keys.now seat = subst (λ (s : SeatState). TakesNext heard c.args.keys.now s) (sym c.self.view_is) c.requires in
    let next = takes.hears in
    let stands = SeatStandsFor-more heard seat c.index-words-words.result _ c.receive.new.self _ c.take.new.self _ c.word-self-inside.result c.self.invariant next
    (c.index-words-words.is
    ∙ ap (λ (xs : List (List ℕ)). get_or xs (length xs - c.self.inside.seats + c.self.inside.place) c.index-words-words.result) c.as_slice-words.ensures
    ∙ get_or_default heard (length heard - c.self.inside.seats + c.self.inside.place) c.index-words-words.result zero_word
    (let e = next.count in let p = next.place in omega arith))
    (c.receive.ensures.stands) (c.take.ensures.own) (c.take.ensures.stands)
    (λ left. c.word-self-inside.ensures seat.keys seat.station (with_heard heard seat).received takes.keyed left) in
    subst (λ (k : Kept). SeatStandsFor c.receive.new.self c.take.new.self c.word-self-inside.result (with_heard k.words seat)) (sym c.of.ensures) stands
