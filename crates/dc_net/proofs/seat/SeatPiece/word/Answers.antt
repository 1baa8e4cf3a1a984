use Rattle.std.proofs.Common.{◌≡◌, ◌<◌, length, ap, ◌∙◌, arith}
use Rattle.dc_spec.specs.Pads.{Keys}
use Rattle.dc_net.specs.WordList.{column}
use Rattle.dc_net.specs.Seat.{SeatState, seat_word}
use Rattle.dc_net.proofs.Seats.{word_of_seat}
use Rattle.dc_net.proofs.seat.SeatPiece.word.Goals as goal

pub returns-then-received-file : goal.returns-then-received-file
returns-then-received-file c =
    let seat : SeatState = record {
      stream = c.self.inside.stream.now;
      keys = c.self.inside.file.now;
      station = c.self.inside.station;
      received = column c.self.inside.seats c.self.inside.place c.self.inside.heard.value.words;
      place = c.self.inside.place;
      seats = c.self.inside.seats;
    } in
    let stands = c.self.invariant in
    let words : c.file.inside.words ≡ seat.keys.words = ap (λ (k : Keys). k.words) c.file.view_is in
    let within : length seat.received < seat.keys.words = omega (arith, c.received.ensures.received, stands.receives.counted) in
    word_of_seat seat c.plain-plain.result c.self.inside.key c.add.result within
    (c.plain-plain.ensures seat.keys.words seat.received stands.sends stands.receives)
    (stands.keyed within) c.add.ensures
    ∙ ap seat_word c.self.view_is
