-- The run of a net: round after round the words of all stations, their sum, and what each station
-- receives.
use Rattle.std.specs.Prelude.{ℕ, zero, suc, ◌≡◌, not, if◌then◌else◌, List, [], ◌∷◌, ◌++◌, length, map, filter, flat_map, slice_index_or, None, unwrap_or, IsTrue, All, Bool}
use Rattle.std.specs.List.{range_with_len, list_all}
use Rattle.std.specs.Str.{bytes_eq}
use Rattle.dc_spec.specs.Words.{zero_word, word_add, word_sum}
use Rattle.dc_spec.specs.Entries.{Stream}
use Rattle.dc_spec.specs.Scripts.{Delivery, all_sum, each, Turn, word_by_rule}
use Rattle.dc_spec.specs.Pads.{Pair}
use Rattle.dc_spec.specs.Net.{Net, Run}
use Rattle.dc_station_rules.specs.Stations.{plain_word, log_of, sent_of, pending_counts}
use Rattle.dc_spec.specs.Lists.{is_among}
use Rattle.dc_key_rules.specs.PairKeys.{key_part}

-- a round that was played: the words of all stations, their sum, and the words received, by station
-- (for a member of the coalition that word is not used)
pub record Round : Type 0 where
  pub words : List (List ℕ)
  pub sum : List ℕ
  pub received : List (List ℕ)

-- the word of a station in a list by station; past the end it is the zero word
abbrev pub word_of_station : List (List ℕ) → ℕ → List ℕ
word_of_station words i = slice_index_or words i zero_word

-- the stream of a station; the empty stream where the net has none for it
abbrev pub station_stream : Net → ℕ → Stream
station_stream net i =
    unwrap_or (slice_index_or net.streams i None) (record { shorts = []; longs = []; coins = [] })

-- the script's round of this number; past the end nobody says a word and all receive the sum
abbrev pub script_turn : Net → ℕ → Turn
script_turn net t = slice_index_or net.script.rounds t (record { says = []; delivery = all_sum })

-- the honest stations of a net, in rising order
abbrev pub honest_stations : Net → List ℕ
honest_stations net = filter (λ i. not (is_among net.coalition i)) (range_with_len 0 net.stations)

-- the words that a station received in the rounds that were played
abbrev pub history : List Round → ℕ → List (List ℕ)
history rounds i = map (λ round. word_of_station round.received i) rounds

-- all words of the rounds that were played, those of a round by station
abbrev pub published : List Round → List (List ℕ)
published rounds = flat_map (λ round. round.words) rounds

-- the word of an honest station after the words that it received: its plain word and the keys of
-- its pairs
abbrev pub station_word : Stream → List Pair → ℕ → List (List ℕ) → List ℕ
station_word stream pairs i received =
    word_add (plain_word stream received) (key_part pairs i received)

-- the words of the honest stations in the round after those played, by station; a member's place has
-- the zero word
abbrev pub honest_words : Net → List Round → List (List ℕ)
honest_words net played = map (λ i.
    if is_among net.coalition i then zero_word
    else station_word (station_stream net i) net.keys.pairs i (history played i)
    ) (range_with_len 0 net.stations)

-- the words of all stations in that round: a member's word is the script's, over all words of earlier
-- rounds and the honest words of this one
abbrev pub next_words : Net → List Round → List (List ℕ)
next_words net played =
    let honest = honest_words net played in map (λ i.
    if is_among net.coalition i
    then word_by_rule (script_turn net (length played)).says (published played ++ honest) net.stations i
    else word_of_station honest i
    ) (range_with_len 0 net.stations)

-- what a station receives in a round: the sum, or the word that the script delivers to it, over all
-- words up to and including this round
abbrev pub heard : Net → Delivery → List (List ℕ) → List ℕ → ℕ → List ℕ
heard net all_sum words sum i = sum
heard net (each dealt) words sum i = word_by_rule dealt words net.stations i

-- the round after those played
abbrev pub next_round : Net → List Round → Round
next_round net played =
    let words = next_words net played in
    let sum = word_sum words in
    let delivery = (script_turn net (length played)).delivery in
    record {
      words = words;
      sum = sum;
      received = map (heard net delivery (published played ++ words) sum) (range_with_len 0 net.stations);
    }

-- the first so many rounds of a net
unfoldable pub rounds_of : Net → ℕ → List Round
rounds_of net zero = []
rounds_of net (suc t) = let played = rounds_of net t in played ++ next_round net played ∷ []

-- all rounds of a net
abbrev pub all_rounds : Net → List Round
all_rounds net = rounds_of net net.words

-- what the rounds of a net record
abbrev pub recorded : Net → List Round → Run
recorded net played =
    let stations = honest_stations net in
    record {
      words = published played;
      sums = map (λ round. round.sum) played;
      delivered = flat_map (λ round. map (word_of_station round.received) stations) played;
      logs = map (λ i. log_of (history played i)) stations;
      sents = map (λ i. sent_of (station_stream net i) (history played i)) stations;
      pending = map (λ i. pending_counts (station_stream net i) (history played i)) stations;
    }

-- the run of a net
abbrev pub run_of : Net → Run
run_of net = recorded net (all_rounds net)

-- an honest station of a net
abbrev pub IsHonest : Net → ℕ → Type 0
IsHonest net i = IsTrue (is_among (honest_stations net) i)

-- all honest stations received the same word in a round
abbrev pub IsAlikeIn : Net → Round → Type 0
IsAlikeIn net round =
    (i j : ℕ) → IsHonest net i → IsHonest net j
    → word_of_station round.received i ≡ word_of_station round.received j

-- and in each round
abbrev pub IsAlike : Net → Type 0
IsAlike net = All (IsAlikeIn net) (all_rounds net)

-- whether all honest stations received the same word in a round
abbrev pub is_alike_in : Net → Round → Bool
is_alike_in net round =
    list_all (λ i. list_all (λ j.
    bytes_eq (word_of_station round.received i) (word_of_station round.received j)
    ) (honest_stations net)) (honest_stations net)

-- and in each round, as a test
abbrev pub is_alike : Net → Bool
is_alike net = list_all (is_alike_in net) (all_rounds net)

-- each delivery of the script is the sum
abbrev pub DeliversSums : Net → Type 0
DeliversSums net = All (λ turn. turn.delivery ≡ all_sum) net.script.rounds
