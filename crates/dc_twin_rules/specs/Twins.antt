-- The twin of a net: the streams are permuted, and the first pads of the edges of the forest are
-- changed. This file says what the twin is, and claims nothing of its run.
use Rattle.std.specs.Prelude.{ℕ, ◌<◌, ◌≡◌, ◌≢◌, ◌==◌, ◌&&◌, if◌then◌else◌, not, true, nat_lt, Bool, List, [], ◌∷◌, length, map, find, filter_map, take, slice_index, slice_index_or, nat_eq, Option, Some, None, option_map, All, AllPairs}
use Rattle.std.specs.List.{range_with_len, list_all, position_or_len}
use Rattle.std.specs.Option.{option_map_or}
use Rattle.dc_spec.specs.Words.{zero_word, word_sub}
use Rattle.dc_spec.specs.Pads.{Pair}
use Rattle.dc_spec.specs.Net.{Net}
use Rattle.dc_graph_rules.specs.Graphs.{key_graph, AreJoined, is_joined}
use Rattle.dc_spec.specs.Lists.{is_among}
use Rattle.dc_graph_rules.specs.Forests.{is_parent, parents, below_sums}
use Rattle.dc_key_rules.specs.PairKeys.{symbols, pads_add}
use Rattle.dc_station_rules.specs.Stations.{plain_word}
use Rattle.dc_net_rules.specs.Runs.{Round, word_of_station, station_stream, history, all_rounds}

-- a permutation of so many stations, as a list: item i is the image of station i
pub record IsPermutationOf (n : ℕ) (p : List ℕ) : Type 0 where
  pub count : length p ≡ n
  pub stations : All (λ image. image < n) p
  pub distinct : AllPairs (λ i j. i ≢ j) p

-- a net admits a permutation that moves each station within its part; a member of the coalition is
-- alone in its part
pub record Admits (net : Net) (p : List ℕ) : Type 0 where
  pub permutation : IsPermutationOf net.stations p
  pub joined : (i : ℕ) → i < net.stations → AreJoined (key_graph net) i (slice_index p i)

-- whether no number is twice in a list
abbrev pub are_distinct : List ℕ → Bool
are_distinct [] = true
are_distinct (x ∷ xs) = not (is_among xs x) && are_distinct xs

-- whether a list is a permutation of so many stations
abbrev pub is_permutation_of : ℕ → List ℕ → Bool
is_permutation_of n p = (length p == n) && (list_all (λ image. nat_lt image n) p && are_distinct p)

-- whether a net admits a permutation
abbrev pub admits : Net → List ℕ → Bool
admits net p =
    is_permutation_of net.stations p
    && list_all (λ i. is_joined (key_graph net) i (slice_index p i)) (range_with_len 0 net.stations)

-- the permutation that undoes p
abbrev pub inverse : List ℕ → List ℕ
inverse p = map (λ image. position_or_len (nat_eq image) p) (range_with_len 0 (length p))

-- the net in which station p(i) has the stream of station i
abbrev pub moved : Net → List ℕ → Net
moved net p = record net { streams = map (λ i. slice_index_or net.streams i None) (inverse p) }

-- the demand of a station after the words that it received: its plain word, minus the one that its
-- new stream gives
abbrev pub demand : Net → List ℕ → ℕ → List (List ℕ) → List ℕ
demand net p i received =
    word_sub (plain_word (station_stream net i) received)
    (plain_word (station_stream (moved net p) i) received)

-- the demands of one round by station, each over the words that the station received in earlier
-- rounds
abbrev pub demands_in : Net → List ℕ → List Round → ℕ → List (List ℕ)
demands_in net p played t =
    map (λ i. demand net p i (take t (history played i))) (range_with_len 0 net.stations)

-- the demands by round and station
abbrev pub demands : Net → List ℕ → List (List (List ℕ))
demands net p =
    let played = all_rounds net in map (demands_in net p played) (range_with_len 0 net.words)

-- the words that are added to the first pads of an edge u < v
pub record Shift : Type 0 where
  pub u : ℕ
  pub v : ℕ
  pub words : List (List ℕ)

-- the child of an edge of the forest: the end whose parent is the other end; another edge has none
abbrev pub child_end : List (Option ℕ) → Pair → Option ℕ
child_end ps pair =
    if is_parent ps pair.v pair.u then Some pair.u
    else if is_parent ps pair.u pair.v then Some pair.v
    else None

-- the shift of an edge of the forest: in each round the sum of the demands below its child, or
-- where the child is the larger end, minus that sum
abbrev pub tree_shift : List (List (List ℕ)) → Pair → ℕ → Shift
tree_shift sums pair child =
    record {
      u = pair.u;
      v = pair.v;
      words = map (λ below. if child == pair.u then word_of_station below child
          else word_sub zero_word (word_of_station below child)) sums;
    }

-- the shifts of all edges of the forest, in the order of the pairs
abbrev pub shifts : Net → List ℕ → List Shift
shifts net p =
    let ps = parents (key_graph net) in
    let sums = map (below_sums (key_graph net)) (demands net p) in
    filter_map (λ pair. option_map (tree_shift sums pair) (child_end ps pair)) net.keys.pairs

-- a pair with the shift of its edge added to its first pads; a pair without a shift stays as it is
abbrev pub shifted_pair : List Shift → Pair → Pair
shifted_pair changes pair =
    option_map_or (λ s. record pair { a = pads_add pair.a (symbols s.words) })
    (find (λ s. (s.u == pair.u) && (s.v == pair.v)) changes) pair

-- the twin of a net: the same graph, coalition and script, the streams permuted, the first pads of
-- the edges of the forest shifted
abbrev pub twin : Net → List ℕ → Net
twin net p =
    let pairs = map (shifted_pair (shifts net p)) net.keys.pairs in
    record (moved net p) { keys = record net.keys { pairs = pairs } }
