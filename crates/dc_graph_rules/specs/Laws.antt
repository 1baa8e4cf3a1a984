-- Laws of the key graph and its forest.
use Rattle.std.specs.Prelude.{ℕ, ◌+◌, ◌<◌, ◌≤◌, Some, None, ◌≡◌, ◌≢◌, ◌↔◌, IsTrue, List, map, slice_index_or}
use Rattle.dc_spec.specs.Words.{IsWord, zero_word, word_sub, word_sum}
use Rattle.dc_graph_rules.specs.Graphs.{KeyGraph, IsKeyGraph, are_neighbours, AreJoined, part, is_joined}
use Rattle.dc_graph_rules.specs.Forests.{IsDistance, distance, root, parent, parents, children, below_sum}

-- the test whether two stations are joined is right: it holds exactly where a walk leads from one
-- to the other
abbrev pub JoinedByWalks : Type 0
JoinedByWalks =
    (g : KeyGraph) → IsKeyGraph g → (u w : ℕ) → u < g.stations
    → IsTrue (is_joined g u w) ↔ AreJoined g u w

-- the computed distance of joined stations is the least number of honest edges of a walk between
-- them
abbrev pub DistanceIsLeast : Type 0
DistanceIsLeast =
    (g : KeyGraph) → IsKeyGraph g → (u w : ℕ) → u < g.stations → AreJoined g u w
    → IsDistance g u w (distance g u w)

-- the root of a part is in the part, and no station of the part is less
abbrev pub RootIsLeast : Type 0
RootIsLeast =
    (g : KeyGraph) → IsKeyGraph g → (u w : ℕ) → u < g.stations → AreJoined g u w
    → AreJoined g u (root g u) × (root g u ≤ w)

-- u is the least neighbour of v that is one step nearer to the root
pub record IsLeastNearer (g : KeyGraph) (v u : ℕ) : Type 0 where
  pub neighbour : IsTrue (are_neighbours g u v)
  pub nearer : distance g (root g v) u + 1 ≡ distance g (root g v) v
  pub least : (w : ℕ) → w < u → IsTrue (are_neighbours g w v)
      → distance g (root g v) w + 1 ≢ distance g (root g v) v

-- each parent is the least neighbour one step nearer to the root, and only roots have none (a
-- member is alone in its part, and so its root)
abbrev pub ParentsAreLeastNearer : Type 0
ParentsAreLeastNearer =
    (g : KeyGraph) → IsKeyGraph g → (v : ℕ) → v < g.stations
    → ((u : ℕ) → parent g v ≡ Some u → IsLeastNearer g v u) × (parent g v ≡ None ↔ root g v ≡ v)

-- the sum of words below a station, minus the sums below its children, is the station's own word
abbrev pub SumsMeetDemands : Type 0
SumsMeetDemands =
    (g : KeyGraph) → IsKeyGraph g → (demands : List (List ℕ)) (v : ℕ) → v < g.stations
    → IsWord (slice_index_or demands v zero_word) →
    word_sub (below_sum (parents g) demands v)
    (word_sum (map (below_sum (parents g) demands) (children (parents g) v)))
    ≡ slice_index_or demands v zero_word

-- the sum of words below the root of a part is the sum of the words of the whole part
abbrev pub RootSumIsPartSum : Type 0
RootSumIsPartSum =
    (g : KeyGraph) → IsKeyGraph g → (demands : List (List ℕ)) (v : ℕ) → v < g.stations →
    below_sum (parents g) demands (root g v)
    ≡ word_sum (map (λ w. slice_index_or demands w zero_word) (part g v))
