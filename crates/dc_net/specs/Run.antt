-- A run round by round: the seats of the honest stations, and what is recorded.
use Rattle.std.specs.Prelude.{ℕ, ◌+◌, ◌*◌, ◌≡◌, ◌<◌, if◌then◌else◌, List, ◌++◌, length, map, flat_map, slice_index, All}
use Rattle.std.specs.List.{range_with_len}
use Rattle.dc_spec.specs.Words.{zero_word}
use Rattle.dc_spec.specs.Lists.{is_among}
use Rattle.dc_spec.specs.Scripts.{Said, each, delivered_words, stations_of, Turn, word_by_rule}
use Rattle.dc_spec.specs.Net.{Net}
use Rattle.dc_net_rules.specs.Runs.{Round, word_of_station, station_stream, honest_stations, history, published, station_word}
use Rattle.dc_net.specs.Rows.{members_of, IsWithin}
use Rattle.dc_net.specs.RoundKeys.{RoundKeysState, KeysAt}
use Rattle.dc_net.specs.Seat.{SeatState}
use Rattle.dc_net.specs.declared.book.Book.{Book}

-- the seat of an honest station, by its place among them, after these rounds
abbrev pub seat_at : Net → List Round → ℕ → SeatState
seat_at net played j =
    let i = slice_index (honest_stations net) j in
    record {
      stream = station_stream net i;
      keys = net.keys;
      station = i;
      received = history played i;
      place = j;
      seats = length (honest_stations net);
    }

-- the seats of all honest stations
abbrev pub seats_after : Net → List Round → List SeatState
seats_after net played = map (seat_at net played) (range_with_len 0 (length (honest_stations net)))

-- the keys of all honest stations after these rounds, by their places among them
pub record AreKeyed (net : Net) (played : List Round) (keys : RoundKeysState) : Type 0 where
  pub places : keys.places ≡ length (honest_stations net)
  pub taken : keys.taken ≡ length played
  pub total : keys.total ≡ net.words
  pub each : (j : ℕ) → j < length (honest_stations net)
      → KeysAt keys j net.keys (slice_index (honest_stations net) j) (history played (slice_index (honest_stations net) j))

-- the words that the honest stations received in a round
abbrev pub heard_row : Net → Round → List (List ℕ)
heard_row net round = map (word_of_station round.received) (honest_stations net)

-- what is recorded of these rounds, in room for all rounds of the session; room for a word of each
-- member
pub record IsRecorded (net : Net) (played : List Round) (book : Book) : Type 0 where
  pub words : book.words ≡ record { words = published played; room = net.words * net.stations }
  pub sums : book.sums ≡ record { words = map (λ round. round.sum) played; room = net.words }
  pub delivered : book.delivered
      ≡ record { words = flat_map (heard_row net) played; room = net.words * length (honest_stations net) }
  pub said : book.said.room ≡ length net.coalition

-- the word of an honest station in the round after these
abbrev pub honest_word : Net → List Round → ℕ → List ℕ
honest_word net played i = station_word (station_stream net i) net.keys.pairs i (history played i)

-- a row of words by station, with zero words for the members of the coalition
abbrev pub first_row : List ℕ → ℕ → (ℕ → List ℕ) → List (List ℕ)
first_row coalition n f =
    map (λ i. if is_among coalition i then zero_word else f i) (range_with_len 0 n)

-- a row of words by station, in which the members say words by rules, over the words before it and
-- the row without the members
abbrev pub said_row : List ℕ → ℕ → List Said → List (List ℕ) → (ℕ → List ℕ) → List (List ℕ)
said_row coalition n says before f =
    let honest = first_row coalition n f in map (λ i.
    if is_among coalition i then word_by_rule says (before ++ honest) n i
    else word_of_station honest i
    ) (range_with_len 0 n)

-- what a run asks of the script's turn in a round that so many words precede: each member says a
-- word, each honest station that is dealt a word is in order, and terms name words that are there
pub record IsPlayable (net : Net) (before : ℕ) (turn : Turn) : Type 0 where
  pub as_many : length turn.says ≡ length net.coalition
  pub members : stations_of turn.says ≡ members_of net.coalition net.stations
  pub says : All (IsWithin (before + net.stations) net.stations) turn.says
  pub honest : (dealt : List Said) → turn.delivery ≡ each dealt → stations_of dealt ≡ honest_stations net
  pub dealt : All (IsWithin (before + net.stations) net.stations) (delivered_words turn.delivery)
