-- A key graph as it is kept: its edges in rising order.
use Rattle.std.specs.Prelude.{ℕ, ◌+◌, ◌<◌, ◌≤◌, ◌≡◌, List, length, slice_index_or, All}
use Rattle.dc_spec.specs.Limits.{most_stations}
use Rattle.dc_graph_rules.specs.Graphs.{KeyGraph}

-- so many stations, and the pairs that share pads
pub record PlainGraph : Type 0 where
  pub stations : ℕ
  pub edges : List (ℕ × ℕ)

-- the key graph with the stations of a coalition
abbrev pub with_coalition : PlainGraph → List ℕ → KeyGraph
with_coalition g members = record { stations = g.stations; edges = g.edges; coalition = members }

-- the smaller ends do not fall, and where they are equal the greater ends rise
pub record IsEdgeBefore (e f : ℕ × ℕ) : Type 0 where
  pub lesser : e.0 ≤ f.0
  pub greater : e.0 ≡ f.0 → e.1 < f.1

-- each edge is before the next
abbrev pub AreRisingEdges : List (ℕ × ℕ) → Type 0
AreRisingEdges es = (i : ℕ) (d : ℕ × ℕ) → i + 1 < length es → IsEdgeBefore (slice_index_or es i d) (slice_index_or es (i + 1) d)

-- two different of so many stations, the smaller one first
pub record IsEdge (stations : ℕ) (e : ℕ × ℕ) : Type 0 where
  pub ends : e.0 < e.1
  pub within : e.1 < stations

-- 1 to 256 stations, edges between them, each once, rising
pub record IsGraph (g : PlainGraph) : Type 0 where
  pub some_stations : 1 ≤ g.stations
  pub most_stations : g.stations ≤ most_stations
  pub are_edges : All (IsEdge g.stations) g.edges
  pub rising : AreRisingEdges g.edges

-- the members of a coalition: stations, each once, rising
pub record AreMembers (members : List ℕ) : Type 0 where
  pub stations : All (λ m. m < most_stations) members
  pub rising : (i : ℕ) → i + 1 < length members → slice_index_or members i 0 < slice_index_or members (i + 1) 0
