-- The key graph without the coalition's keys: honest edges, walks along them, and the parts that
-- they join.
use Rattle.std.specs.Prelude.{ℕ, zero, suc, ◌<◌, ◌≡◌, Bool, ◌&&◌, ◌||◌, not, List, [], ◌∷◌, filter, nat_eq, IsTrue, All}
use Rattle.std.specs.List.{range_with_len, list_any}
use Rattle.dc_spec.specs.Net.{Net}
use Rattle.dc_spec.specs.Lists.{is_among}

-- the number of stations, the pairs of stations that share pads, and the stations of the coalition
pub record KeyGraph : Type 0 where
  pub stations : ℕ
  pub edges : List (ℕ × ℕ)
  pub coalition : List ℕ

-- each edge has its smaller end first, and both ends are stations
abbrev pub IsKeyGraph : KeyGraph → Type 0
IsKeyGraph g = All (λ e. (e.0 < e.1) × (e.1 < g.stations)) g.edges

-- the key graph of a net
abbrev pub key_graph : Net → KeyGraph
key_graph net = record { stations = net.stations; edges = net.edges; coalition = net.coalition }

-- whether two stations have an edge, in either order
abbrev pub has_edge : List (ℕ × ℕ) → ℕ → ℕ → Bool
has_edge edges u v =
    list_any (λ e. (nat_eq e.0 u && nat_eq e.1 v) || (nat_eq e.0 v && nat_eq e.1 u)) edges

-- whether two stations have an honest edge: an edge with no end in the coalition
abbrev pub are_neighbours : KeyGraph → ℕ → ℕ → Bool
are_neighbours g u v =
    has_edge g.edges u v && not (is_among g.coalition u || is_among g.coalition v)

-- the stations of the list lead from u to w, each one along an honest edge from the one before
abbrev pub IsWalk : KeyGraph → ℕ → List ℕ → ℕ → Type 0
IsWalk g u [] w = u ≡ w
IsWalk g u (v ∷ vs) w = IsTrue (are_neighbours g u v) × IsWalk g v vs w

-- a walk leads from one station to the other
abbrev pub AreJoined : KeyGraph → ℕ → ℕ → Type 0
AreJoined g u w = (walk : List ℕ) × IsWalk g u walk w

-- these stations, and those that are one step from them, in rising order
abbrev pub one_step_more : KeyGraph → List ℕ → List ℕ
one_step_more g from =
    filter (λ w. list_any (λ v. nat_eq v w || are_neighbours g v w) from)
    (range_with_len 0 g.stations)

-- the stations that a walk of at most so many steps from u reaches
unfoldable pub reached : KeyGraph → ℕ → ℕ → List ℕ
reached g u zero = u ∷ []
reached g u (suc steps) = one_step_more g (reached g u steps)

-- the part of a station: all stations joined with it, in rising order
abbrev pub part : KeyGraph → ℕ → List ℕ
part g u = reached g u g.stations

-- whether two stations are joined
abbrev pub is_joined : KeyGraph → ℕ → ℕ → Bool
is_joined g u w = is_among (part g u) w
