-- What a manifest holds.
use Rattle.std.specs.Prelude.{ℕ, ◌*◌, ◌<◌, ◌≤◌, ◌≡◌, List, length, Option, All}
use Rattle.dc_spec.specs.Limits.{most_words, most_pads}
use Rattle.dc_graph.specs.Graph.{PlainGraph, IsGraph, AreMembers}

-- the key graph, the members of the coalition in rising order, how many words a session has, and the names of the
-- files: the key file, a stream for each station (empty where the station has none), and the script, if there is one
pub record Content : Type 0 where
  pub graph : PlainGraph
  pub coalition : List ℕ
  pub words : ℕ
  pub keys : List ℕ
  pub streams : List (List ℕ)
  pub script : Option (List ℕ)

-- the limits that every manifest keeps
pub record IsContent (m : Content) : Type 0 where
  pub graph : IsGraph m.graph
  pub coalition : AreMembers m.coalition
  pub members : All (λ i. i < m.graph.stations) m.coalition
  pub some_words : 1 ≤ m.words
  pub most_words : m.words ≤ most_words
  pub streams : length m.streams ≡ m.graph.stations
  pub pads : length m.graph.edges * (32 * m.words) ≤ most_pads
