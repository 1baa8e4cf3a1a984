-- Live sessions that play a net: the words that a hub accepted, beside those of the net's run.
use Rattle.std.specs.Prelude.{ℕ, ◌+◌, ◌*◌, ◌<◌, ◌≡◌, if◌then◌else◌, List, ◌++◌, map, flat_map, slice_get, unwrap_or, IsTrue}
use Rattle.std.specs.List.{range_with_len}
use Rattle.dc_spec.specs.Lists.{is_among}
use Rattle.dc_spec.specs.Words.{zero_word}
use Rattle.dc_spec.specs.Scripts.{word_by_rule}
use Rattle.dc_spec.specs.Net.{Net}
use Rattle.dc_hub_rules.specs.Hubs.{Arrival, accepted, accepted_sum, complete_rounds}
use Rattle.dc_net_rules.specs.Runs.{station_stream, station_word, script_turn, IsHonest, DeliversSums, run_of}

-- the accepted word of a station in a round; the zero word where there is none
abbrev pub accepted_word : ℕ → List Arrival → ℕ → ℕ → List ℕ
accepted_word n arrivals i t = unwrap_or (accepted n arrivals i t) zero_word

-- the accepted words of a round, by station
abbrev pub round_accepted : ℕ → List Arrival → ℕ → List (List ℕ)
round_accepted n arrivals t = map (λ i. accepted_word n arrivals i t) (range_with_len 0 n)

-- the accepted words of the first so many rounds, those of a round by station
abbrev pub accepted_words : ℕ → List Arrival → ℕ → List (List ℕ)
accepted_words n arrivals rounds = flat_map (round_accepted n arrivals) (range_with_len 0 rounds)

-- the sums of the accepted words of the first so many rounds
abbrev pub accepted_sums : ℕ → List Arrival → ℕ → List (List ℕ)
accepted_sums n arrivals rounds = map (accepted_sum n arrivals) (range_with_len 0 rounds)

-- the accepted words of the honest stations in a round, by station; a member's place has the zero
-- word
abbrev pub honest_accepted : Net → List Arrival → ℕ → List (List ℕ)
honest_accepted net arrivals t = map (λ i.
    if is_among net.coalition i then zero_word else accepted_word net.stations arrivals i t
    ) (range_with_len 0 net.stations)

-- the word of a member by the net's script, over the accepted words: all of earlier rounds, and those
-- of the honest stations in this one
abbrev pub member_word : Net → List Arrival → ℕ → ℕ → List ℕ
member_word net arrivals i t =
    word_by_rule (script_turn net t).says
    (accepted_words net.stations arrivals t ++ honest_accepted net arrivals t) net.stations i

-- a live session of a net in which every delivery is the sum: all rounds are complete, in each round
-- each honest station gave its word over the sums of the rounds before, and each member the word of
-- the script
pub record IsLiveRun (net : Net) (arrivals : List Arrival) : Type 0 where
  pub sums : DeliversSums net
  pub complete : complete_rounds net.stations net.words arrivals ≡ net.words
  pub honest : (i t : ℕ) → IsHonest net i → t < net.words
      → accepted_word net.stations arrivals i t
      ≡ station_word (station_stream net i) net.keys.pairs i (accepted_sums net.stations arrivals t)
  pub members : (i t : ℕ) → i < net.stations → IsTrue (is_among net.coalition i) → t < net.words
      → accepted_word net.stations arrivals i t ≡ member_word net arrivals i t

-- the accepted word of each station in each round is that of the net's run
abbrev pub AcceptsRun : Net → List Arrival → Type 0
AcceptsRun net arrivals =
    (i t : ℕ) → i < net.stations → t < net.words
    → slice_get (run_of net).words (t * net.stations + i) ≡ accepted net.stations arrivals i t
