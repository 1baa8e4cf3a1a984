-- The forest of the honest parts as it is kept, station by station, and the order that its sums are
-- made in.
use Rattle.std.specs.Prelude.{ℕ, ◌+◌, ◌==◌, ◌&&◌, ◌<◌, ◌≤◌, ◌≡◌, if◌then◌else◌, Bool, false, List, length, map, find, sum_by, slice_index, slice_index_or, slice_set, All, Option, Some, None}
use Rattle.std.specs.List.{range_with_len}
use Rattle.std.specs.Option.{option_map_or}
use Rattle.dc_spec.specs.Limits.{most_stations}
use Rattle.dc_spec.specs.Words.{IsWord, zero_word, word_add}
use Rattle.dc_spec.specs.Lists.{is_among}
use Rattle.dc_graph_rules.specs.Graphs.{KeyGraph, IsKeyGraph}
use Rattle.dc_graph_rules.specs.Forests.{root, parent}
use Rattle.dc_graph.specs.declared.place.Place.{Place}
use Rattle.dc_graph.specs.declared.walk.Found.{Found}
use Rattle.dc_graph.specs.Walk.{edge_at, root_of, distance_of}

-- what a key graph says of a station: whether it is a member, the root of its part, its parent
abbrev pub place_in : KeyGraph → ℕ → Place
place_in g v = record { is_member = is_among g.coalition v; root = root g v; parent = parent g v }

-- the forest of a key graph: the place of each of its stations
pub record IsForestOf (g : KeyGraph) (forest : List Place) : Type 0 where
  pub graph : IsKeyGraph g
  pub places : forest ≡ map (place_in g) (range_with_len 0 g.stations)

-- the parents of all stations of a forest
abbrev pub parents_in : List Place → List (Option ℕ)
parents_in forest = map (λ p. p.parent) forest

-- whether the stations of a forest are members
abbrev pub members_in : List Place → List Bool
members_in forest = map (λ p. p.is_member) forest

-- an order of the stations of a forest: each station once, so that a sum over the order is the one
-- over the stations, and no station before its parent
pub record IsOrder (forest : List Place) (order : List ℕ) : Type 0 where
  pub few : length forest ≤ most_stations
  pub are_stations : All (λ v. v < length forest) order
  pub each_once : (f : ℕ → ℕ) → sum_by f order ≡ sum_by f (range_with_len 0 (length forest))
  pub parent_before : (i j : ℕ) → j < length order
      → slice_index_or (parents_in forest) (slice_index order j) None ≡ Some (slice_index order i)
      → i < length order → i < j
  pub parents_within : (v u : ℕ) → slice_index_or (parents_in forest) v None ≡ Some u → u < length forest

-- whether u has an edge with v and is one step nearer to the root
abbrev pub is_step_nearer : ℕ → List Bool → List (Option Found) → ℕ → ℕ → Bool
is_step_nearer n table found v u =
    edge_at n table u v && (distance_of found u + 1 == distance_of found v)

-- the place of a station by what a walk found
abbrev pub place_found : ℕ → List Bool → List Bool → List (Option Found) → ℕ → Place
place_found n members table found v = record {
  is_member = slice_index_or members v false;
  root = root_of found v;
  parent = find (is_step_nearer n table found v) (range_with_len 0 n);
}

-- for each station its demand, or the zero word where it is a member
pub record AreOwnWords (forest : List Place) (demands own_words : List (List ℕ)) : Type 0 where
  pub count : length own_words ≡ length forest
  pub own : (v : ℕ) → v < length forest → slice_index_or own_words v zero_word
      ≡ (if slice_index_or (members_in forest) v false then zero_word else slice_index_or demands v zero_word)
  pub are_words : (v : ℕ) → v < length own_words → IsWord (slice_index_or own_words v zero_word)

-- these words, with the word of a station added to the word of its parent, if it has one
abbrev pub with_parent : Option ℕ → ℕ → List (List ℕ) → List (List ℕ)
with_parent o v sums =
    option_map_or (λ u. slice_set sums u (word_add (slice_index_or sums u zero_word) (slice_index_or sums v zero_word))) o sums
