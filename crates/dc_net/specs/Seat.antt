-- An honest station in a run.
use Rattle.std.specs.Prelude.{ℕ, ◌≡◌, ◌+◌, ◌*◌, ◌<◌, List, length, slice_index_or, nat_lt, if◌then◌else◌}
use Rattle.dc_spec.specs.Words.{zero_word}
use Rattle.dc_spec.specs.Entries.{Stream}
use Rattle.dc_spec.specs.Pads.{Keys}
use Rattle.dc_net_rules.specs.Runs.{station_word}
use Rattle.dc_station.specs.State.{ReceiverState, SenderState, IsSenderOf}
use Rattle.dc_station.specs.StandsFor.{ReceiverStandsFor, SenderStandsFor}
use Rattle.dc_key_rules.specs.PairKeys.{key_part}
use Rattle.dc_net.specs.RoundKeys.{RoundKeysState, KeysAt}
use Rattle.dc_net.specs.WordList.{column}

-- a station's stream, the pads of the net, its number, the words that it received, and its place
-- among so many honest stations
pub record SeatState : Type 0 where
  pub stream : Stream
  pub keys : Keys
  pub station : ℕ
  pub received : List (List ℕ)
  pub place : ℕ
  pub seats : ℕ

-- the parts of a seat stand for its stream, its pads and the words that it received; where there is
-- a round more, it has what its keys add to its word
pub record SeatStandsFor (receiver : ReceiverState) (sender : SenderState) (key : List ℕ) (seat : SeatState) : Type 0 where
  pub receives : ReceiverStandsFor receiver seat.keys.words seat.received
  pub sends : SenderStandsFor sender seat.stream seat.keys.words seat.received
  pub own : IsSenderOf sender seat.stream
  pub keyed : length seat.received < seat.keys.words → key ≡ key_part seat.keys.pairs seat.station seat.received

-- the word of a seat; after the last round of the session it is the zero word
abbrev pub seat_word : SeatState → List ℕ
seat_word seat =
    if nat_lt (length seat.received) seat.keys.words
    then station_word seat.stream seat.keys.pairs seat.station seat.received
    else zero_word

-- all words that honest stations heard, of which the seat has received all but the one of the last
-- round
pub record HearsNext (heard : List (List ℕ)) (seat : SeatState) : Type 0 where
  pub place : seat.place < seat.seats
  pub session : length seat.received < seat.keys.words
  pub count : length heard ≡ length seat.received * seat.seats + seat.seats
  pub before : (k : ℕ) → k < length seat.received
      → slice_index_or seat.received k zero_word ≡ slice_index_or heard (k * seat.seats + seat.place) zero_word

-- the seat with the word of the last round
abbrev pub with_heard : List (List ℕ) → SeatState → SeatState
with_heard heard seat = record seat { received = column seat.seats seat.place heard }

-- the word of the last round is there, and the keys at the seat's place have taken it
pub record TakesNext (heard : List (List ℕ)) (keys : RoundKeysState) (seat : SeatState) : Type 0 where
  pub hears : HearsNext heard seat
  pub keyed : KeysAt keys seat.place seat.keys seat.station (with_heard heard seat).received
