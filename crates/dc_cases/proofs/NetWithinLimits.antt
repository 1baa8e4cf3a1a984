-- The ring with its exchange meets all premises of the laws of twins: none of them is empty.
use Rattle.std.proofs.Common.{◌≡◌, ℕ, zero, suc, ◌<◌, ◌≤◌, true, List, [], ◌∷◌, length, get_or, All, Option, Some, None, lit≤, lit<, refl, subst, arith}
use Rattle.std.proofs.lemmas.List.Elements.{All-nil, All-cons}
use Rattle.std.proofs.lemmas.Option.{none-some}
use Rattle.dc_spec.specs.Words.{zero_word}
use Rattle.dc_spec.specs.Entries.{Stream}
use Rattle.dc_spec.specs.Scripts.{Turn}
use Rattle.dc_spec.specs.Values.{IsValue}
use Rattle.dc_spec.proofs.Options.{some-inj}
use Rattle.dc_formats.specs.KeyFile.{IsKeys, IsPair, AreEndsRising}
use Rattle.dc_formats.specs.StreamFile.{IsStream, IsMessage}
use Rattle.dc_formats.specs.ScriptFile.{IsTurn, IsScript}
use Rattle.dc_station_rules.proofs.Computing.{computing}
use Rattle.dc_graph_rules.specs.Graphs.{key_graph, IsKeyGraph, reached}
use Rattle.dc_net_rules.specs.Nets.{IsNet}
use Rattle.dc_net_rules.specs.Runs.{IsAlike}
use Rattle.dc_net_rules.specs.Agreement.{Agrees}
use Rattle.dc_net_rules.proofs.Alike.{alike_is_computed}
use Rattle.dc_twin_rules.specs.Twins.{Admits, admits}
use Rattle.dc_twin_rules.proofs.Admitting.{admits_is_computed}
use Rattle.dc_cases.proofs.SharedValues.{of_values, said, constant, zero_pair, some_pair, small_value, ring, exchange}
use Rattle.dc_cases.proofs.WithinLimits.{below_by_test, number_at, zero_is_word, constant_fits, one_said, summing_turn}
use Rattle.dc_cases.proofs.WorkedNetRows.{ring_is_alike}

-- what holds of four items
all_four : {X : Type 0} (P : X → Type 0) (a b c d : X) → P a → P b → P c → P d → All P (a ∷ b ∷ c ∷ d ∷ [])
all_four P a b c d at_a at_b at_c at_d = All-cons P a (b ∷ c ∷ d ∷ []) at_a (All-cons P b (c ∷ d ∷ []) at_b (All-cons P c (d ∷ []) at_c (All-cons P d [] at_d (All-nil P))))

-- four ends in order
four_rising : AreEndsRising ((0, 1) ∷ (0, 3) ∷ (1, 2) ∷ (2, 3) ∷ [])
four_rising zero d within = record { lesser = lit≤ tt; greater = λ same. lit< tt }
four_rising (suc zero) d within = record { lesser = lit≤ tt; greater = λ same. absurd (omega arith) }
four_rising (suc (suc zero)) d within = record { lesser = lit≤ tt; greater = λ same. absurd (omega arith) }
four_rising (suc (suc (suc i))) d within = absurd (omega arith)

-- edges of four stations
graph_fits : IsKeyGraph (key_graph ring)
graph_fits = all_four (λ (e : ℕ × ℕ). (e.0 < e.1) × (e.1 < 4)) (0, 1) (0, 3) (1, 2) (2, 3) (lit< tt, lit< tt) (lit< tt, lit< tt) (lit< tt, lit< tt) (lit< tt, lit< tt)

-- pairs with pads
zero_fits : (u v : ℕ) → u < v → v < 4 → IsPair 4 4 (zero_pair 4 u v)
zero_fits u v up low = record {
  ends = up;
  within = low;
  first_pads = refl;
  second_pads = refl;
  first_symbols = below_by_test 65537 (zero_pair 4 u v).a refl;
  second_symbols = below_by_test 65537 (zero_pair 4 u v).b refl;
  no_first = refl;
}

first_pair : IsPair 4 4 (some_pair 4 0 1 5)
first_pair = record {
  ends = lit< tt;
  within = lit< tt;
  first_pads = refl;
  second_pads = refl;
  first_symbols = below_by_test 65537 (some_pair 4 0 1 5).a refl;
  second_symbols = below_by_test 65537 (some_pair 4 0 1 5).b refl;
  no_first = refl;
}

second_pair : IsPair 4 4 (some_pair 4 1 2 8)
second_pair = record {
  ends = lit< tt;
  within = lit< tt;
  first_pads = refl;
  second_pads = refl;
  first_symbols = below_by_test 65537 (some_pair 4 1 2 8).a refl;
  second_symbols = below_by_test 65537 (some_pair 4 1 2 8).b refl;
  no_first = refl;
}

keys_fit : IsKeys ring.keys
keys_fit = record {
  some_stations = lit≤ tt;
  most_stations = lit≤ tt;
  some_words = lit≤ tt;
  most_words = lit≤ tt;
  most_symbols = lit≤ tt;
  are_pairs = all_four (IsPair 4 4) (some_pair 4 0 1 5) (zero_pair 4 0 3) (some_pair 4 1 2 8) (zero_pair 4 2 3) first_pair (zero_fits 0 3 (lit< tt) (lit< tt)) second_pair
      (zero_fits 2 3 (lit< tt) (lit< tt));
  rising = four_rising;
}

-- four rounds in which the member says the zero word
turn_fits : (r : ℕ) → IsTurn r (said 3 zero_word)
turn_fits r = summing_turn r (constant 3 zero_word ∷ []) (one_said r (constant 3 zero_word) (constant_fits r 3 zero_word (lit< tt) zero_is_word))

four_turns : (r : ℕ) (d : Turn) → r < 4 → IsTurn r (get_or (said 3 zero_word ∷ said 3 zero_word ∷ said 3 zero_word ∷ said 3 zero_word ∷ []) r d)
four_turns zero d lt = turn_fits 0
four_turns (suc zero) d lt = turn_fits 1
four_turns (suc (suc zero)) d lt = turn_fits 2
four_turns (suc (suc (suc zero))) d lt = turn_fits 3
four_turns (suc (suc (suc (suc r)))) d lt = absurd (omega arith)

script_of_ring : IsScript ring.script
script_of_ring = record {
  some_version = lit≤ tt;
  most_version = lit≤ tt;
  first_version = λ e. refl;
  most_rounds = lit≤ tt;
  most_terms = lit≤ tt;
  are_turns = four_turns;
}

-- streams of one value or none
values_fit : (values : List (List ℕ)) → length values ≤ 4096 → All IsValue values → IsStream (record { shorts = values; longs = []; coins = [] })
values_fit values few are = record {
  most_shorts = few;
  are_values = are;
  most_longs = lit≤ tt;
  are_messages = All-nil IsMessage;
  most_coins = lit≤ tt;
  are_fields = All-nil (λ c. c < 16);
}

one_value : (x : ℕ) → IsValue (small_value x) → IsStream (record { shorts = small_value x ∷ []; longs = []; coins = [] })
one_value x is = values_fit (small_value x ∷ []) (lit≤ tt) (All-cons IsValue (small_value x) [] is (All-nil IsValue))

place_fits : (stream : Stream) → IsStream stream → (s : Stream) → Some stream ≡ Some s → IsStream s
place_fits stream is s e = subst IsStream (some-inj e) is

value_of_5 : IsValue (small_value 5)
value_of_5 = record { fifteen = refl; bytes = λ i. number_at 256 (small_value 5) i (omega arith) (below_by_test 256 (small_value 5) refl) }

value_of_9 : IsValue (small_value 9)
value_of_9 = record { fifteen = refl; bytes = λ i. number_at 256 (small_value 9) i (omega arith) (below_by_test 256 (small_value 9) refl) }

streams_fit : All (λ place. (s : Stream) → place ≡ Some s → IsStream s) ring.streams
streams_fit = all_four (λ (place : Option Stream). (s : Stream) → place ≡ Some s → IsStream s) (of_values (5 ∷ [])) (of_values []) (of_values (9 ∷ [])) None
    (place_fits _ (one_value 5 value_of_5)) (place_fits _ (values_fit [] (lit≤ tt) (All-nil IsValue))) (place_fits _ (one_value 9 value_of_9)) (λ s e. absurd (none-some s e))

ring_agrees : Agrees ring
unfolding computing
ring_agrees = refl

-- the ring is a net
ring_fits : IsNet ring
ring_fits = record {
  graph = graph_fits;
  edges_rise = four_rising;
  keys = keys_fit;
  script = script_of_ring;
  streams = refl;
  are_streams = streams_fit;
  members = All-cons (λ m. m < 4) 3 [] (lit< tt) (All-nil (λ m. m < 4));
  agrees = ring_agrees;
}

-- all its honest stations receive alike
ring_alike : IsAlike ring
ring_alike = (alike_is_computed ring).0 ring_is_alike

-- and it admits the exchange
exchange_admitted : admits ring exchange ≡ true
unfolding reached
exchange_admitted = refl

ring_admits : Admits ring exchange
ring_admits = (admits_is_computed ring exchange graph_fits).0 exchange_admitted
