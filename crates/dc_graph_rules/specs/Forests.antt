-- The forest of the honest parts: distances along honest edges, roots, parents, and the sums of
-- demands below a station.
use Rattle.std.specs.Prelude.{ℕ, zero, suc, ◌+◌, ◌==◌, ◌&&◌, not, if◌then◌else◌, List, [], ◌∷◌, map, filter, find, count_by, nat_eq, Bool, slice_index, slice_index_or, Option, None, length, ◌≡◌, ◌≤◌, false}
use Rattle.std.specs.List.{range_with_len}
use Rattle.std.specs.Option.{option_map_or}
use Rattle.dc_spec.specs.Words.{zero_word, word_sum}
use Rattle.dc_graph_rules.specs.Graphs.{KeyGraph, are_neighbours, IsWalk, one_step_more, part}
use Rattle.dc_spec.specs.Lists.{is_among}

-- a walk of so many honest edges leads from u to w, and none of fewer does
pub record IsDistance (g : KeyGraph) (u w steps : ℕ) : Type 0 where
  pub walk : List ℕ
  pub is_walk : IsWalk g u walk w
  pub count : length walk ≡ steps
  pub least : (other : List ℕ) → IsWalk g u other w → steps ≤ length other

-- the stations that a walk from these reaches by no step, by at most one, and so on
unfoldable pub spreads : KeyGraph → List ℕ → ℕ → List (List ℕ)
spreads g from zero = []
spreads g from (suc more) = from ∷ spreads g (one_step_more g from) more

-- how many of these lists do not have a station
abbrev pub lacking : List (List ℕ) → ℕ → ℕ
lacking lists v = count_by (λ xs. not (is_among xs v)) lists

-- the distance of two joined stations: v is not among the stations reached from u by 0, 1, .. d - 1
-- steps, and is among those reached by d steps and more, so the lists without v are as many as d
abbrev pub distance : KeyGraph → ℕ → ℕ → ℕ
distance g u v = lacking (spreads g (u ∷ []) g.stations) v

-- the root of a station's part: its least station, which is the first of the list
abbrev pub root : KeyGraph → ℕ → ℕ
root g v = slice_index (part g v) 0

-- the parent of a station: its least neighbour that is one step nearer to the root; roots and
-- members have none
abbrev pub parent : KeyGraph → ℕ → Option ℕ
parent g v =
    let near = spreads g (root g v ∷ []) g.stations in
    let is_nearer : ℕ → Bool = λ u. are_neighbours g u v && (lacking near u + 1 == lacking near v) in
    find is_nearer (range_with_len 0 g.stations)

-- the parents of all stations
abbrev pub parents : KeyGraph → List (Option ℕ)
parents g = map (parent g) (range_with_len 0 g.stations)

-- a station, its parent, the parent of that, and so on, up to so many steps
unfoldable pub chain : List (Option ℕ) → ℕ → ℕ → List ℕ
chain ps zero v = v ∷ []
chain ps (suc steps) v = v ∷ option_map_or (chain ps steps) (slice_index_or ps v None) []

-- the stations below v, by the parents of all: v and the stations from which parents lead to v
abbrev pub stations_below : List (Option ℕ) → ℕ → List ℕ
stations_below ps v =
    filter (λ w. is_among (chain ps (length ps) w) v) (range_with_len 0 (length ps))

-- whether u is the parent of a station
abbrev pub is_parent : List (Option ℕ) → ℕ → ℕ → Bool
is_parent ps u child = option_map_or (nat_eq u) (slice_index_or ps child None) false

-- the children of v: the stations whose parent is v
abbrev pub children : List (Option ℕ) → ℕ → List ℕ
children ps v = filter (is_parent ps v) (range_with_len 0 (length ps))

-- the sum of the demands of the stations below v
abbrev pub below_sum : List (Option ℕ) → List (List ℕ) → ℕ → List ℕ
below_sum ps demands v =
    word_sum (map (λ w. slice_index_or demands w zero_word) (stations_below ps v))

-- the sums below all stations, the zero word at each member
abbrev pub below_sums : KeyGraph → List (List ℕ) → List (List ℕ)
below_sums g demands =
    let ps = parents g in
    map (λ v. if is_among g.coalition v then zero_word else below_sum ps demands v)
    (range_with_len 0 g.stations)
