use Rattle.std.proofs.Common.{ℕ, List, length, map, subst, sym, ap, ◌∙◌, arith, All}
use Rattle.dc_net_rules.specs.Runs.{honest_stations, rounds_of}
use Rattle.dc_net_rules.proofs.RoundLemmas.{length-rounds_of}
use Rattle.dc_net.specs.WordList.{Kept}
use Rattle.dc_net.specs.Rows.{AreWordsOf}
use Rattle.dc_net.specs.Seat.{SeatState, seat_word, with_heard, TakesNext}
use Rattle.dc_net.specs.Run.{honest_word}
use Rattle.dc_net.proofs.Playing.{playable}
use Rattle.dc_net.proofs.SeatRounds.{seat_words, length-seats, row_there, length-last_row, last_row-at, AreKeyed-more, all_take, seats_taken}
use Rattle.dc_net.proofs.running.play_round.Goals as goal

pub record-requires-clause-count : goal.record-requires-clause-count
record-requires-clause-count g c = ap (λ (seats : List SeatState). length seats) c.requires.seats
    ∙ length-seats c.args.net.now (rounds_of c.args.net.now c.args.round)

pub record-requires-clause-playable : goal.record-requires-clause-playable
record-requires-clause-playable g c = playable c.args.net.now c.args.round c.requires.checked c.note_script.ensures.script c.note_script.ensures.members c.requires.round

pub record-requires-clause-honest : goal.record-requires-clause-honest
record-requires-clause-honest g c =
    let words = c.as_slice.ensures ∙ c.in_ok-honest.ensures ∙ ap (λ (seats : List SeatState). map seat_word seats) c.requires.seats in
    subst (λ (ws : List (List ℕ)). AreWordsOf (honest_word c.args.net.now (rounds_of c.args.net.now c.args.round)) (honest_stations c.args.net.now) ws)
    (sym words)
    (seat_words c.args.net.now c.args.round c.requires.checked c.requires.round)

pub overflow_sub-heard : goal.overflow_sub-heard
overflow_sub-heard g c =
    let heard = c.as_slice-heard.ensures ∙ ap (λ (l : Kept). l.words) c.record.ensures.delivered in
    let count = ap (λ (seats : List SeatState). length seats) c.requires.seats ∙ length-seats c.args.net.now (rounds_of c.args.net.now c.args.round) in
    let there = row_there c.args.net.now c.args.round c.as_slice-heard.result.now heard in
    omega arith

pub take-requires-clause-one_each : goal.take-requires-clause-one_each
take-requires-clause-one_each g c = λ κs lives.
    let heard = c.as_slice-heard.ensures ∙ ap (λ (l : Kept). l.words) c.record.ensures.delivered in
    let count = ap (λ (seats : List SeatState). length seats) c.requires.seats ∙ length-seats c.args.net.now (rounds_of c.args.net.now c.args.round) in
    let there = row_there c.args.net.now c.args.round c.as_slice-heard.result.now heard in
    length-last_row c.as_slice-heard.result.now (length c.args.seats.now) (omega arith) ∙ count ∙ sym c.requires.keyed.places

pub take-requires-clause-left : goal.take-requires-clause-left
take-requires-clause-left g c = λ κs lives.
    let long = length-rounds_of c.args.net.now c.args.round in
    let taken = c.requires.keyed.taken in let total = c.requires.keyed.total in let low = c.requires.round in omega arith

pub take_all-requires : goal.take_all-requires
take_all-requires g c =
    let heard = c.as_slice-heard.ensures ∙ ap (λ (l : Kept). l.words) c.record.ensures.delivered in
    let count = ap (λ (seats : List SeatState). length seats) c.requires.seats ∙ length-seats c.args.net.now (rounds_of c.args.net.now c.args.round) in
    let there = row_there c.args.net.now c.args.round c.as_slice-heard.result.now heard in
    let keyed = AreKeyed-more c.args.net.now c.args.round c.as_slice-heard.result.now _ c.args.keys.now c.take.new.self c.requires.checked c.requires.round heard
    (λ j place. last_row-at c.as_slice-heard.result.now (length c.args.seats.now) (length (honest_stations c.args.net.now)) j count (omega arith) (omega arith))
    c.requires.keyed c.take.ensures.places c.take.ensures.taken c.take.ensures.total c.take.ensures.stands in
    subst (λ (seats : List SeatState). All (TakesNext c.record.new.self.delivered.words c.take.new.self) seats) (sym c.requires.seats)
    (all_take c.args.net.now c.args.round c.record.new.self.delivered.words c.take.new.self c.requires.checked c.requires.round
    (ap (λ (l : Kept). l.words) c.record.ensures.delivered) keyed)

pub returns-clause-keyed : goal.returns-clause-keyed
returns-clause-keyed g c =
    let heard = c.as_slice-heard.ensures ∙ ap (λ (l : Kept). l.words) c.record.ensures.delivered in
    let count = ap (λ (seats : List SeatState). length seats) c.requires.seats ∙ length-seats c.args.net.now (rounds_of c.args.net.now c.args.round) in
    let there = row_there c.args.net.now c.args.round c.as_slice-heard.result.now heard in
    AreKeyed-more c.args.net.now c.args.round c.as_slice-heard.result.now _ c.args.keys.now c.take.new.self c.requires.checked c.requires.round heard
    (λ j place. last_row-at c.as_slice-heard.result.now (length c.args.seats.now) (length (honest_stations c.args.net.now)) j count (omega arith) (omega arith))
    c.requires.keyed c.take.ensures.places c.take.ensures.taken c.take.ensures.total c.take.ensures.stands

pub returns-clause-seats : goal.returns-clause-seats
returns-clause-seats g c =
    c.take_all.ensures ∙ ap (λ (seats : List SeatState). map (with_heard c.record.new.self.delivered.words) seats) c.requires.seats
    ∙ seats_taken c.args.net.now c.args.round c.record.new.self.delivered.words c.requires.checked c.requires.round
    (ap (λ (l : Kept). l.words) c.record.ensures.delivered)
