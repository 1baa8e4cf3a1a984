-- The definitions of the net on worked examples.
use Rattle.std.proofs.Common.{◌≡◌, ℕ, List, [], ◌∷◌, map, replicate, slice_set, sum_by, Option, Some, None, refl, if◌then◌else◌, ◌==◌, true, false}
use Rattle.std.specs.List.{range_with_len}
use Rattle.dc_spec.specs.Words.{word_of, zero_word}
use Rattle.dc_spec.specs.Entries.{Entry, short, long, Stream}
use Rattle.dc_spec.specs.Scripts.{Turn}
use Rattle.dc_spec.specs.Pads.{Pair}
use Rattle.dc_spec.specs.Net.{Net, Run}
use Rattle.dc_station_rules.proofs.Computing.{computing}
use Rattle.dc_graph_rules.specs.Graphs.{reached, key_graph, is_joined}
use Rattle.dc_graph_rules.specs.Forests.{distance, spreads, chain, parents}
use Rattle.dc_key_rules.specs.PairKeys.{key_word, symbols}
use Rattle.dc_hub_rules.specs.Hubs.{Arrival, waiting, complete, no_station, over, old, ahead, repeated, replies, round_start}
use Rattle.dc_net_rules.specs.Runs.{rounds_of, run_of, is_alike}
use Rattle.dc_spec.specs.Symbols.{power_below}
use Rattle.dc_steering_rules.specs.Steerings.{changes_up_to, first_difference, steering_of, steered_net}
use Rattle.dc_net_rules.specs.Bags.{value, text, count_in}
use Rattle.dc_spec.specs.Frames.{hello, send}
use Rattle.dc_net_rules.specs.SessionTexts.{says}
use Rattle.dc_twin_rules.specs.Twins.{admits, inverse, shifts, twin}
use Rattle.dc_cases.proofs.SharedValues.{two_ends, small_value, nothing, of_values, first_version, said, dealing, zero_pair, some_pair, ring, exchange, split_pair, three_stations}

-- the pair whose second pad 17 alone is 1
abbrev shifting_pair : Pair
shifting_pair = record { u = 0; v = 1; a = replicate 48 0; b = slice_set (replicate 48 0) 17 1 }

-- the first word's key depends on nothing received
key_of_first_word : key_word shifting_pair [] 0 ≡ zero_word
unfolding word_of
key_of_first_word = refl

-- the next key repeats the received symbols one place later
key_of_second_word : key_word shifting_pair (symbols (range_with_len 1 16 ∷ [])) 1 ≡ range_with_len 0 16
unfolding word_of
key_of_second_word = refl

-- and begins with the last symbol of the word before, across the end of a word
key_of_third_word : key_word shifting_pair (symbols (range_with_len 1 16 ∷ range_with_len 101 16 ∷ [])) 2 ≡ 16 ∷ range_with_len 101 15
unfolding word_of
key_of_third_word = refl

-- a pair whose second pad 1 alone is 1 takes the symbol before each, but none of the word's own round, though that was received too
key_without_own_round : key_word (record { u = 0; v = 1; a = replicate 32 0; b = slice_set (replicate 32 0) 1 1 }) (symbols (range_with_len 1 16 ∷ range_with_len 101 16 ∷ [])) 1 ≡ 16 ∷ replicate 15 0
unfolding word_of
key_without_own_round = refl

-- the ring without the coalition is the path 0, 1, 2
parents_in_ring : parents (key_graph ring) ≡ None ∷ Some 0 ∷ Some 1 ∷ None ∷ []
unfolding reached spreads chain
parents_in_ring = refl

-- the sums are those of the plain words: both values at once, then the smaller one
sums_of_ring : (run_of ring).sums ≡ zero_word ∷ two_ends 2 14 ∷ two_ends 1 5 ∷ zero_word ∷ []
unfolding computing rounds_of
sums_of_ring = refl

-- exchanging the streams shifts both edges of the path in the two rounds where the plain words differ
shifts_of_ring : shifts ring exchange ≡ record { u = 0; v = 1; words = zero_word ∷ two_ends 0 65533 ∷ two_ends 1 5 ∷ zero_word ∷ [] } ∷ record {
  u = 1;
  v = 2;
  words = zero_word ∷ two_ends 0 65533
      ∷ two_ends 1 5 ∷ zero_word ∷ [];
} ∷ []
unfolding computing rounds_of reached spreads chain
shifts_of_ring = refl

-- the stations 0 and 2 are in one part, so exchanging them is admitted; the member stays in place, and no station stands twice
admitted_in_ring : map (admits ring) (exchange ∷ (3 ∷ 1 ∷ 2 ∷ 0 ∷ []) ∷ (0 ∷ 1 ∷ 1 ∷ 3 ∷ []) ∷ (0 ∷ 1 ∷ 2 ∷ []) ∷ []) ≡ true ∷ false ∷ false ∷ false ∷ []
unfolding reached
admitted_in_ring = refl

-- all honest stations of the ring receive the sums
pub ring_is_alike : is_alike ring ≡ true
unfolding computing rounds_of
ring_is_alike = refl

-- the twin's words are those of the net
words_of_twin : (run_of (twin ring exchange)).words ≡ (run_of ring).words
unfolding computing rounds_of reached spreads chain
words_of_twin = refl

-- the permutation that moves no stream leaves the net as it is
twin_by_identity : twin ring (0 ∷ 1 ∷ 2 ∷ 3 ∷ []) ≡ ring
unfolding computing rounds_of reached spreads chain
twin_by_identity = refl

-- the twin of the twin by the inverse permutation is the first net
twin_of_twin : twin (twin ring exchange) (inverse exchange) ≡ ring
unfolding computing rounds_of reached spreads chain
twin_of_twin = refl

-- on a path whose middle station is in the coalition the ends are not joined
not_joined_past_coalition : is_joined (record { stations = 3; edges = (0, 1) ∷ (1, 2) ∷ []; coalition = 1 ∷ [] }) 0 2 ≡ false
unfolding reached
not_joined_past_coalition = refl

-- the changes that turn the second sum into the word with 7 and 9
steering_of_split_pair : steering_of split_pair 0 1 (two_ends 7 9 ∷ []) ≡ record {
  round = 0;
  symbol = 15;
  first = slice_set (slice_set (replicate 32 0) 16 14) 31 18;
  second =
      slice_set (slice_set (replicate 32 0) 1 65530) 16 65528;
}
unfolding computing rounds_of power_below changes_up_to
steering_of_split_pair = refl

-- with the steered keys station 1 alone sends other words, and the second sum is the wanted one
words_of_steered : (run_of (steered_net split_pair 0 1 (two_ends 7 9 ∷ []))).words ≡ zero_word ∷ zero_word ∷ zero_word ∷ zero_word ∷ two_ends 7 9 ∷ zero_word ∷ []
unfolding computing rounds_of power_below changes_up_to
words_of_steered = refl

-- stations that received the same symbols have no first difference: its place is past the end
never_differed : first_difference (1 ∷ 2 ∷ []) (1 ∷ 2 ∷ []) ≡ 2
never_differed = refl

-- an arrival of a hub of two stations
abbrev arrival : ℕ → ℕ → ℕ → Arrival
arrival i t x = record { station = i; round = t; word = two_ends 1 x }

-- the hub refuses a second word, a round ahead, a round that is over and a station that there is not
hub_answers : replies 2 2 (arrival 0 0 3 ∷ arrival 0 0 4 ∷ arrival 1 1 4 ∷ arrival 1 0 5 ∷ arrival 0 0 3 ∷ arrival 2 1 3 ∷ []) ≡ waiting 1 ∷ repeated (two_ends 1 3) ∷ ahead 0
    ∷ complete (two_ends 2 8) ∷ old 1 ∷ no_station 2 ∷ []
unfolding word_of round_start
hub_answers = refl

-- in the other order the same sum comes out, and after the last round every arrival of a station is over
hub_answers_in_other_order : replies 2 2 (arrival 1 0 5 ∷ arrival 0 0 3 ∷ arrival 0 1 1 ∷ arrival 1 1 2 ∷ arrival 0 1 3 ∷ arrival 2 1 3 ∷ []) ≡ waiting 0 ∷ complete (two_ends 2 8) ∷ waiting 1
    ∷ complete (two_ends 2 3) ∷ over ∷ no_station 2 ∷ []
unfolding word_of round_start
hub_answers_in_other_order = refl

-- a triangle whose last station is in the coalition
abbrev triangle : List (Option Stream) → List Turn → ℕ → Net
triangle streams script words = record {
  stations = 3;
  edges = (0, 1) ∷ (0, 2) ∷ (1, 2) ∷ [];
  coalition = 2 ∷ [];
  keys = record { stations = 3; words = words; pairs = some_pair words 0 1 9 ∷ zero_pair words 0 2 ∷ zero_pair words 1 2 ∷ [] };
  streams = streams;
  script = first_version script;
  words = words;
}

-- a stream of one message and the coin 5
abbrev of_message : ℕ → Option Stream
of_message x = Some (record { shorts = []; longs = (x ∷ []) ∷ []; coins = 5 ∷ [] })

-- of a run the sums, the logs, the sent entries and how many are pending
abbrev outcome : Run → List (List ℕ) × List (List Entry) × List (List Entry) × List (ℕ × ℕ)
outcome run = (run.sums, run.logs, run.sents, run.pending)

-- the coalition hides one of two marks of field 5
abbrev hidden_mark : Net
hidden_mark = triangle (of_message 1 ∷ of_message 2 ∷ None ∷ []) (said 2 (word_of (λ l. if l == 5 then 65536 else 0)) ∷ said 2 zero_word ∷ said 2 zero_word ∷ said 2 zero_word ∷ []) 4

-- so both messages collide in one burst, which is void, and nothing is sent
run_of_hidden_mark : outcome (run_of hidden_mark) ≡ (
  word_of (λ l. if l == 5 then 1 else 0) ∷ (2 ∷ 0 ∷ 2 ∷ 3 ∷ replicate 12 0) ∷ zero_word ∷ zero_word ∷ [],
  [] ∷ [] ∷ [],
  [] ∷ [] ∷ [],
  (0, 1)
      ∷ (0, 1) ∷ [],
)
unfolding computing rounds_of
run_of_hidden_mark = refl

-- the coalition disturbs the first split of an epoch of two values with this word
abbrev disturbed_split : List ℕ → Net
disturbed_split w = triangle (of_values (1 ∷ []) ∷ of_values (3 ∷ []) ∷ None ∷ []) (said 2 zero_word ∷ said 2 zero_word ∷ said 2 w ∷ said 2 zero_word ∷ said 2 zero_word ∷ []) 5

-- a left part of count 0 makes the epoch void, and the next cycle begins
run_of_empty_split : outcome (run_of (disturbed_split (two_ends 65536 65536))) ≡ (
  zero_word ∷ two_ends 2 4 ∷ zero_word ∷ zero_word ∷ two_ends 2 4 ∷ [],
  [] ∷ [] ∷ [],
  [] ∷ [] ∷ [],
  (1, 0) ∷ (1, 0)
      ∷ [],
)
unfolding computing rounds_of
run_of_empty_split = refl

-- so does a left part of a count above the whole's
run_of_large_split : outcome (run_of (disturbed_split (two_ends 2 0))) ≡ (zero_word ∷ two_ends 2 4 ∷ two_ends 3 1 ∷ zero_word ∷ two_ends 2 4 ∷ [], [] ∷ [] ∷ [], [] ∷ [] ∷ [], (1, 0) ∷ (1, 0) ∷ [])
unfolding computing rounds_of
run_of_large_split = refl

-- two honest stations with the value 5, to which the coalition deals different words of an epoch
abbrev dealt_values : Net
dealt_values = record split_pair { streams = of_values (5 ∷ []) ∷ of_values (5 ∷ []) ∷ None ∷ []; script = first_version (dealing zero_word zero_word ∷ dealing (two_ends 1 5) (two_ends 1 6) ∷ []) }

-- each logs what it received, and the value counts as sent at the one station that received it
run_of_dealt_values : outcome (run_of dealt_values) ≡ (
  zero_word ∷ two_ends 2 10 ∷ [],
  (short (small_value 5) 1 ∷ []) ∷ (short (small_value 6) 1 ∷ []) ∷ [],
  (short (small_value 5) 1 ∷ []) ∷ [] ∷ [],
  (0, 0) ∷ (1, 0) ∷ [],
)
unfolding computing rounds_of
run_of_dealt_values = refl

-- so the two do not receive alike
dealt_values_differ : is_alike dealt_values ≡ false
unfolding computing rounds_of
dealt_values_differ = refl

-- the received words, round by round and station by station
delivered_values : (run_of dealt_values).delivered ≡ zero_word ∷ zero_word ∷ two_ends 1 5 ∷ two_ends 1 6 ∷ []
unfolding computing rounds_of
delivered_values = refl

-- every station's log has the value 1 once and the value 3 twice, and each station sent its own
run_of_three_stations : outcome (run_of three_stations) ≡ (
  zero_word ∷ two_ends 3 7 ∷ two_ends 1 1 ∷ two_ends 2 6 ∷ zero_word ∷ [],
  replicate 3 (short (small_value 1) 1 ∷ short (small_value 3) 2
      ∷ []),
  (short (small_value 1) 1 ∷ []) ∷ (short (small_value 3) 1 ∷ []) ∷ (short (small_value 3) 1 ∷ []) ∷ [],
  replicate 3 (0, 0),
)
unfolding computing rounds_of
run_of_three_stations = refl

-- the value 3 stands as often in each log as in the sent entries of all stations together
count_in_three_stations : sum_by (count_in (value (small_value 3))) (run_of three_stations).sents ∷ map (count_in (value (small_value 3))) (run_of three_stations).logs ≡ 2 ∷ 2 ∷ 2 ∷ 2 ∷ []
unfolding computing rounds_of
count_in_three_stations = refl

-- a value and a message of the same bytes are two messages
count_by_kind : map (λ m. count_in m (long (5 ∷ []) ∷ short (5 ∷ []) 3 ∷ [])) (value (5 ∷ []) ∷ text (5 ∷ []) ∷ []) ≡ 3 ∷ 1 ∷ []
count_by_kind = refl

-- a station that has received one of two words has sent its greeting and both its words
session_of_one_word : says 0 2 2 (zero_pair 2 0 1 ∷ []) nothing (zero_word ∷ []) ≡ hello 0 2 2 ∷ send 0 zero_word ∷ send 1 zero_word ∷ []
unfolding computing rounds_of
session_of_one_word = refl

-- each of its words has the key of its own round, and after the last word that it receives it sends no further one
session_of_both_words : says 0 2 2 (record { u = 0; v = 1; a = range_with_len 1 32; b = replicate 32 0 } ∷ []) nothing (zero_word ∷ zero_word ∷ []) ≡ hello 0 2 2 ∷ send 0 (range_with_len 1 16)
    ∷ send 1 (range_with_len 17 16) ∷ []
unfolding computing rounds_of
session_of_both_words = refl

-- on the path 0, 1, 2 the ends are two steps apart
distance_on_path : distance (key_graph ring) 0 2 ≡ 2
unfolding spreads
distance_on_path = refl
