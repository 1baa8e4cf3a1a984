-- Forests and twins of small nets: which neighbour is the parent, which stations are below, and how the shifts of edges are signed.
use Rattle.std.proofs.Common.{◌≡◌, ℕ, List, [], ◌∷◌, replicate, Option, Some, None, refl}
use Rattle.dc_spec.specs.Words.{word_of, zero_word}
use Rattle.dc_spec.specs.Entries.{Stream}
use Rattle.dc_spec.specs.Scripts.{all_sum}
use Rattle.dc_spec.specs.Pads.{Pair}
use Rattle.dc_spec.specs.Net.{Net}
use Rattle.dc_graph_rules.specs.Graphs.{KeyGraph, reached}
use Rattle.dc_graph_rules.specs.Forests.{spreads, chain, parents, children, stations_below, below_sums}
use Rattle.dc_net_rules.specs.Runs.{rounds_of, run_of}
use Rattle.dc_twin_rules.specs.Twins.{inverse, moved, shifts, twin}
use Rattle.dc_station_rules.proofs.Computing.{computing}
use Rattle.dc_cases.proofs.SharedValues.{two_ends, of_values, first_version, some_pair}

-- a ring of four honest stations in which station 3 has two neighbours that are one step from the root
abbrev square : KeyGraph
square = record { stations = 4; edges = (0, 1) ∷ (0, 2) ∷ (1, 3) ∷ (2, 3) ∷ []; coalition = [] }

-- its parent is the lesser of them
parents_in_square : parents square ≡ None ∷ Some 0 ∷ Some 0 ∷ Some 1 ∷ []
unfolding reached spreads chain
parents_in_square = refl

-- so it is a child of 1 and not of 2
children_in_square : children (parents square) 1 ≡ 3 ∷ []
unfolding reached spreads chain
children_in_square = refl

-- a ring whose last station is in the coalition is a path of the others
abbrev open_ring : KeyGraph
open_ring = record { stations = 4; edges = (0, 1) ∷ (0, 3) ∷ (1, 2) ∷ (2, 3) ∷ []; coalition = 3 ∷ [] }

-- below station 1 are it itself and the end of the path
below_in_open_ring : stations_below (parents open_ring) 1 ≡ 1 ∷ 2 ∷ []
unfolding reached spreads chain
below_in_open_ring = refl

-- sums below the stations of the path, and the zero word at the member
sums_in_open_ring : below_sums open_ring (two_ends 0 1 ∷ two_ends 0 2 ∷ two_ends 0 4 ∷ two_ends 0 8 ∷ []) ≡ two_ends 0 7 ∷ two_ends 0 6 ∷ two_ends 0 4 ∷ zero_word ∷ []
unfolding word_of reached spreads chain
sums_in_open_ring = refl

-- three honest stations with these edges, keys and streams, which all receive the sums
abbrev three_stations : List (ℕ × ℕ) → ℕ → List Pair → List (Option Stream) → Net
three_stations edges words pairs streams = record {
  stations = 3;
  edges = edges;
  coalition = [];
  keys = record { stations = 3; words = words; pairs = pairs };
  streams = streams;
  script = first_version (replicate words (record { says = []; delivery = all_sum }));
  words = words;
}

-- the path 0, 1, 2 of stations with the values 1, 2 and 3
abbrev path : Net
path = three_stations ((0, 1) ∷ (1, 2) ∷ []) 2 (some_pair 2 0 1 5 ∷ some_pair 2 1 2 8 ∷ []) (of_values (1 ∷ []) ∷ of_values (2 ∷ []) ∷ of_values (3 ∷ []) ∷ [])

-- station 0 becomes 1, station 1 becomes 2, and station 2 becomes 0
abbrev cycle : List ℕ
cycle = 1 ∷ 2 ∷ 0 ∷ []

inverse_of_cycle : inverse cycle ≡ 2 ∷ 0 ∷ 1 ∷ []
inverse_of_cycle = refl

-- each stream goes to the station that its own becomes
streams_of_cycle : (moved path cycle).streams ≡ of_values (3 ∷ []) ∷ of_values (1 ∷ []) ∷ of_values (2 ∷ []) ∷ []
streams_of_cycle = refl

-- the demands of the root word are -2, 1 and 1, and each child is the larger end
shifts_of_cycle : shifts path cycle ≡ record { u = 0; v = 1; words = zero_word ∷ two_ends 0 65535 ∷ [] } ∷ record { u = 1; v = 2; words = zero_word ∷ two_ends 0 65536 ∷ [] } ∷ []
unfolding computing rounds_of reached spreads chain
shifts_of_cycle = refl

-- the path 0, 2, 1, where station 1 is a child of the larger station 2
abbrev bent_path : Net
bent_path = three_stations ((0, 2) ∷ (1, 2) ∷ []) 4 (some_pair 4 0 2 5 ∷ some_pair 4 1 2 8 ∷ []) (of_values (5 ∷ []) ∷ of_values (9 ∷ []) ∷ of_values [] ∷ [])

-- stations 0 and 1 exchanged
abbrev exchange : List ℕ
exchange = 1 ∷ 0 ∷ 2 ∷ []

-- the sum below station 1 is added to the edge where it is the smaller end, and taken from the edge where station 2 is the larger end
shifts_of_bent_path : shifts bent_path exchange ≡ record { u = 0; v = 2; words = zero_word ∷ two_ends 0 65533 ∷ two_ends 1 5 ∷ zero_word ∷ [] } ∷ record {
  u = 1;
  v = 2;
  words = zero_word
      ∷ two_ends 0 4 ∷ two_ends 65536 65532 ∷ zero_word ∷ [];
} ∷ []
unfolding computing rounds_of reached spreads chain
shifts_of_bent_path = refl

-- so the twin's words are those of the net
words_of_bent_twin : (run_of (twin bent_path exchange)).words ≡ (run_of bent_path).words
unfolding computing rounds_of reached spreads chain
words_of_bent_twin = refl
