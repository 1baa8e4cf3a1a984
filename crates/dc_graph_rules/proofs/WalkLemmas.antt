-- What shows that numbers given to the stations are their roots and distances.
use Rattle.std.proofs.Common.{◌≡◌, ℕ, zero, suc, ◌+◌, ◌<◌, ◌≤◌, Bool, true, false, ◌&&◌, ◌==◌, List, [], ◌∷◌, ◌++◌, find, length, slice_index, refl, sym, ◌∙◌, ap, subst, arith, length-append}
use Rattle.std.specs.List.{range_with_len}
use Rattle.dc_spec.specs.Lists.{is_among}
use Rattle.dc_spec.proofs.Booleans.{or_first, or_second, test-same}
use Rattle.dc_spec.proofs.ListLemmas.{below_range}
use Rattle.std.proofs.Common.{eqb-true, eq-eqb, nat_eq}
use Rattle.dc_graph_rules.specs.Graphs.{KeyGraph, IsKeyGraph, are_neighbours, IsWalk, AreJoined, part, is_joined}
use Rattle.dc_graph_rules.specs.Forests.{distance, root, parent}
use Rattle.dc_graph_rules.proofs.GraphLemmas.{walk_on, neighbour_below, joined-walks, start_reached}
use Rattle.dc_graph_rules.proofs.ForestLemmas.{part-neighbours}
use Rattle.dc_graph_rules.proofs.DistanceLemmas.{distance-least, root-least, part-joined}

-- a station one edge nearer to the same root
pub record IsNearer (g : KeyGraph) (roots far : ℕ → ℕ) (v u : ℕ) : Type 0 where
  pub within : u < g.stations
  pub edge : are_neighbours g u v ≡ true
  pub same : roots u ≡ roots v
  pub nearer : far u + 1 ≡ far v

-- each station has a root and a distance: at distance 0 it is its own root, at a greater one a
-- neighbour is nearer, neighbours differ by at most one step, and no root is above its stations
pub record AreDistances (g : KeyGraph) (roots far : ℕ → ℕ) : Type 0 where
  pub begins : (v : ℕ) → v < g.stations → far v ≡ 0 → roots v ≡ v
  pub goes_on : (v : ℕ) → v < g.stations → 0 < far v → (u : ℕ) × IsNearer g roots far v u
  pub closed : (u w : ℕ) → u < g.stations → w < g.stations → are_neighbours g u w ≡ true → (roots w ≡ roots u) × (far w ≤ far u + 1)
  pub least : (v : ℕ) → v < g.stations → roots v ≤ v

-- along a walk the root stays, and each edge adds at most one to the distance
along : (g : KeyGraph) → IsKeyGraph g → (roots far : ℕ → ℕ) → AreDistances g roots far → (u : ℕ) (walk : List ℕ) (w : ℕ) → u < g.stations → IsWalk g u walk w →
    (roots w ≡ roots u) × (far w ≤ far u + length walk)
along g good roots far are u [] w low walks = (ap roots (sym walks), (let same : far u ≡ far w = ap far walks in omega arith))
along g good roots far are u (v ∷ vs) w low walks =
    let inside = neighbour_below g good u v walks.0 in
    let step = are.closed u v low inside walks.0 in
    let rest = along g good roots far are v vs w inside walks.1 in
    let near = step.1 in
    let more = rest.1 in
    (rest.0 ∙ step.0, omega arith)

-- a walk from its root leads to each station, with as many edges as its distance says
record IsReached (g : KeyGraph) (roots far : ℕ → ℕ) (v : ℕ) : Type 0 where
  walk : List ℕ
  is_walk : IsWalk g (roots v) walk v
  count : length walk ≡ far v
  within : roots v < g.stations
  begins : far (roots v) ≡ 0

reach : (g : KeyGraph) → IsKeyGraph g → (roots far : ℕ → ℕ) → AreDistances g roots far → (d v : ℕ) → v < g.stations → far v ≡ d → IsReached g roots far v
reach g good roots far are zero v low at =
    let own = are.begins v low at in
    record { walk = []; is_walk = own; count = sym at; within = (let less = are.least v low in omega arith); begins = ap far own ∙ at }
reach g good roots far are (suc d) v low at =
    let up = are.goes_on v low (omega arith) in
    let one = up.1.nearer in
    let before = reach g good roots far are d up.0 up.1.within (omega arith) in
    let walks : IsWalk g (roots v) before.walk up.0 = subst (λ r. IsWalk g r before.walk up.0) up.1.same before.is_walk in
    let long = length-append before.walk (v ∷ []) in
    let count = before.count in
    record {
      walk = before.walk ++ v ∷ [];
      is_walk = walk_on g (roots v) before.walk up.0 v walks up.1.edge;
      count = omega arith;
      within = subst (λ (r : ℕ). r < g.stations) up.1.same before.within;
      begins = subst (λ r. far r ≡ 0) up.1.same before.begins;
    }

-- a station stands in its own part
in_own_part : (g : KeyGraph) (v : ℕ) → v < g.stations → is_among (part g v) v ≡ true
in_own_part g v low = start_reached g v g.stations low

-- such numbers are the root of the part and the distance from it
pub roots_and_distances : (g : KeyGraph) → IsKeyGraph g → (roots far : ℕ → ℕ) → AreDistances g roots far → (v : ℕ) → v < g.stations → (roots v ≡ root g v) × (far v ≡ distance g (root g v) v)
roots_and_distances g good roots far are v low =
    let there = reach g good roots far are (far v) v low refl in
    let same : part g (roots v) ≡ part g v = part-joined g good (roots v) there.walk v there.within there.is_walk in
    let back : AreJoined g v (roots v) = (joined-walks g good v (roots v) low).0 (subst (λ (xs : List ℕ). is_among xs (roots v) ≡ true) same (in_own_part g (roots v) there.within)) in
    let first = root-least g good v (roots v) low back in
    let below = first.1 in
    let inside = there.within in
    let on = along g good roots far are v first.0.0 (root g v) low first.0.1 in
    let least = are.least (root g v) (omega arith) in
    let kept = on.0 in
    let own : roots v ≡ root g v = omega arith in
    let near : IsWalk g (root g v) there.walk v = subst (λ r. IsWalk g r there.walk v) own there.is_walk in
    let steps = distance-least g good (root g v) v (omega arith) (there.walk, near) in
    let most = steps.least there.walk near in
    let over = along g good roots far are (root g v) steps.walk v (omega arith) steps.is_walk in
    let far_of = over.1 in
    let long = there.count in
    let taken = steps.count in
    let start : far (root g v) ≡ 0 = subst (λ r. far r ≡ 0) own there.begins in
    (own, omega arith)

-- equal tests find the same
pub find_same : (p q : ℕ → Bool) (xs : List ℕ) → ((x : ℕ) → is_among xs x ≡ true → p x ≡ q x) → find p xs ≡ find q xs
find_same p q [] same = refl
find_same p q (x ∷ xs) same = rw (same x (or_first (nat_eq x x) (is_among xs x) (eq-eqb x x refl)), find_same p q xs (λ y there. same y (or_second (nat_eq y x) (is_among xs y) there))) refl

-- the parent is found by the numbers
pub parent_found : (g : KeyGraph) → IsKeyGraph g → (roots far : ℕ → ℕ) → AreDistances g roots far → (v : ℕ) → v < g.stations →
    find (λ u. are_neighbours g u v && (far u + 1 == far v)) (range_with_len 0 g.stations) ≡ parent g v
parent_found g good roots far are v low =
    find_same (λ u. are_neighbours g u v && (far u + 1 == far v)) (λ u. are_neighbours g u v && (distance g (root g v) u + 1 == distance g (root g v) v)) (range_with_len 0 g.stations)
    (λ u there.
    let bound : u < 0 + g.stations = below_range 0 g.stations u there in
    let inside : u < g.stations = omega arith in
    (elim (are_neighbours g u v) as (λ b. are_neighbours g u v ≡ b → (b && (far u + 1 == far v)) ≡ (b && (distance g (root g v) u + 1 == distance g (root g v) v))) [
      | true ↦ λ edge. (let same : root g u ≡ root g v = ap (λ xs. slice_index xs 0) (part-neighbours g good u v inside low edge) in
          let here = roots_and_distances g good roots far are u inside in
          let at : far u ≡ distance g (root g v) u = here.1 ∙ ap (λ r. distance g r u) same in
          let own = roots_and_distances g good roots far are v low in
          rw at (ap (λ d. distance g (root g v) u + 1 == d) own.1))
      | false ↦ λ none. refl
    ]) refl)

-- two stations are joined exactly where they have one root
pub joined_by_roots : (g : KeyGraph) → IsKeyGraph g → (u v : ℕ) → u < g.stations → v < g.stations → nat_eq (root g u) (root g v) ≡ is_joined g u v
joined_by_roots g good u v low_u low_v =
    let to_root = λ (w : ℕ) (low : w < g.stations). (root-least g good w w low ((joined-walks g good w w low).0 (in_own_part g w low))).0 in
    let of_u = to_root u low_u in
    let of_v = to_root v low_v in
    let same_u : part g u ≡ part g (root g u) = part-joined g good u of_u.0 (root g u) low_u of_u.1 in
    let same_v : part g v ≡ part g (root g v) = part-joined g good v of_v.0 (root g v) low_v of_v.1 in
    test-same _ _
    (λ one. let at : root g u ≡ root g v = eqb-true (root g u) (root g v) one in
    let whole : part g v ≡ part g u = same_v ∙ ap (part g) (sym at) ∙ sym same_u in
    subst (λ (xs : List ℕ). is_among xs v ≡ true) whole (in_own_part g v low_v))
    (λ h. let walk = (joined-walks g good u v low_u).0 h in
    eq-eqb (root g u) (root g v) (ap (λ xs. slice_index xs 0) (part-joined g good u walk.0 v low_u walk.1)))
