-- A breadth-first walk of the honest parts: what it knows after some stations were looked at.
use Rattle.std.specs.Prelude.{ℕ, ◌+◌, ◌*◌, ◌<◌, ◌≤◌, ◌≡◌, List, length, sum_by, slice_index, slice_index_or, Bool, true, false, is_some, Option, None, if◌then◌else◌}
use Rattle.std.specs.List.{range_with_len}
use Rattle.std.specs.Option.{option_map_or}
use Rattle.dc_graph_rules.specs.Graphs.{KeyGraph, are_neighbours}
use Rattle.dc_graph.specs.declared.walk.Found.{Found}

-- whether a table with a flag for each two stations has the flag of these two
abbrev pub edge_at : ℕ → List Bool → ℕ → ℕ → Bool
edge_at n table u v = slice_index_or table (u * n + v) false

-- a table as wide as the stations need, with both flags of an edge or none
pub record IsEdgeTable (n : ℕ) (table : List Bool) : Type 0 where
  pub wide : length table ≡ n * n
  pub both_ways : (u v : ℕ) → u < n → v < n → edge_at n table u v ≡ true → edge_at n table v u ≡ true

-- the table of the honest edges of a key graph
pub record IsTableOf (g : KeyGraph) (table : List Bool) : Type 0 where
  pub wide : length table ≡ g.stations * g.stations
  pub flags : (u v : ℕ) → u < g.stations → v < g.stations
      → edge_at g.stations table u v ≡ are_neighbours g u v

-- whether the walk found a station
abbrev pub is_found : List (Option Found) → ℕ → Bool
is_found found v = is_some (slice_index_or found v None)

-- the root that it found it from
abbrev pub root_of : List (Option Found) → ℕ → ℕ
root_of found v = option_map_or (λ p. p.root) (slice_index_or found v None) 0

-- and how many edges it went from there
abbrev pub distance_of : List (Option Found) → ℕ → ℕ
distance_of found v = option_map_or (λ p. p.distance) (slice_index_or found v None) 0

-- a station found from another along an edge, no further than one edge from it
pub record IsNextTo (found : List (Option Found)) (u w : ℕ) : Type 0 where
  pub seen : is_found found w ≡ true
  pub root : root_of found w ≡ root_of found u
  pub distance : distance_of found w ≤ distance_of found u + 1

-- a station that another was found from, one edge nearer to the root
pub record IsFoundFrom (edge : ℕ → ℕ → Bool) (found : List (Option Found)) (v u : ℕ) : Type 0 where
  pub seen : is_found found u ≡ true
  pub is_edge : edge u v ≡ true
  pub root : root_of found u ≡ root_of found v
  pub distance : distance_of found u + 1 ≡ distance_of found v

-- a walk that found the stations of the order, one after the other, and looked at the edges of the
-- first ones, as many as head
pub record IsWalk (edge : ℕ → ℕ → Bool) (n head : ℕ) (order : List ℕ) (found : List (Option Found)) : Type 0 where
  pub wide : length found ≡ n
  pub listed : (k : ℕ) → k < length order → is_found found (slice_index order k) ≡ true
  pub each_once : (f : ℕ → ℕ) →
      sum_by f order ≡ sum_by (λ v. if is_found found v then f v else 0) (range_with_len 0 n)
  pub short : (v : ℕ) → is_found found v ≡ true → distance_of found v < length order
  pub begins : (v : ℕ) → is_found found v ≡ true → distance_of found v ≡ 0 → root_of found v ≡ v
  pub goes_on : (v : ℕ) → is_found found v ≡ true → 0 < distance_of found v → (u : ℕ) × IsFoundFrom edge found v u
  pub least : (v : ℕ) → is_found found v ≡ true → root_of found v ≤ v
  pub before : (v u : ℕ) → is_found found v ≡ true → u ≤ root_of found v → is_found found u ≡ true
  pub closed : (k w : ℕ) → k < head → w < n → edge (slice_index order k) w ≡ true
      → IsNextTo found (slice_index order k) w
  pub rising : (j k : ℕ) → j ≤ k → k < length order
      → root_of found (slice_index order j) ≡ root_of found (slice_index order k)
      → distance_of found (slice_index order j) ≤ distance_of found (slice_index order k)
  pub queue : (k : ℕ) → head ≤ k → k < length order
      → IsNextTo found (slice_index order head) (slice_index order k)
