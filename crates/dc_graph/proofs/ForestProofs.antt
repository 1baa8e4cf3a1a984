-- What a whole walk found is the forest of the key graph, and its order one for the sums.
use Rattle.std.proofs.Common.{◌≡◌, ℕ, ◌+◌, ◌-◌, ◌*◌, ◌<◌, ◌≤◌, ◌==◌, ◌&&◌, ◌||◌, not, Bool, true, false, cond, nat_eq, find, List, [], ◌∷◌, length, map, sum_by, slice_index, slice_index_or, Option, Some, None, refl, sym, ap, subst, ◌∙◌, arith, inl, inr, eqb-true, eq-eqb}
use Rattle.std.proofs.Math.ListN.{length-set}
use Rattle.std.proofs.lemmas.Bool.{cases_lt, and_parts}
use Rattle.std.proofs.lemmas.List.FromFn.{length-map-range_with_len, get_or-map-range_with_len}
use Rattle.std.proofs.lemmas.List.Elements.{All-from_get_or, All-weaker}
use Rattle.std.proofs.lemmas.List.{ext_get_or, drop_all}
use Rattle.std.specs.List.{range_with_len}
use Rattle.dc_spec.specs.Lists.{is_among}
use Rattle.dc_spec.proofs.Booleans.{or_first, or_second}
use Rattle.dc_spec.proofs.ListLemmas.{below_range, found_passes}
use Rattle.dc_spec.proofs.SumLemmas.{sum_by-same}
use Rattle.dc_spec.specs.Words.{IsWord, zero_word, word_add}
use Rattle.dc_graph_rules.specs.Graphs.{KeyGraph, IsKeyGraph, has_edge, are_neighbours, is_joined}
use Rattle.dc_graph_rules.specs.Forests.{root, parent, parents, below_sum, below_sums}
use Rattle.dc_graph_rules.proofs.ForestLemmas.{rank_in, parents_ranked, neighbours-comm}
use Rattle.dc_graph_rules.proofs.BelowLemmas.{honest_sums}
use Rattle.dc_graph_rules.proofs.UpwardLemmas.{IsUpward, ArePartial, begins_upwards, upwards_step, upwards_done}
use Rattle.dc_graph_rules.proofs.WalkLemmas.{AreDistances, roots_and_distances, find_same, parent_found, joined_by_roots}
use Rattle.dc_graph.specs.declared.place.Place.{Place}
use Rattle.dc_graph.specs.declared.walk.Found.{Found}
use Rattle.dc_graph.specs.Graph.{PlainGraph, IsGraph, IsEdge, with_coalition}
use Rattle.dc_graph.specs.Walk.{edge_at, IsEdgeTable, IsTableOf, is_found, root_of, distance_of, IsNextTo, IsWalk}
use Rattle.dc_graph.specs.Forest.{place_in, IsForestOf, parents_in, members_in, IsOrder, is_step_nearer, place_found, AreOwnWords, with_parent}
use Rattle.dc_graph.proofs.WalkSteps.{all_found, found_below, place_found_at, order_within}

-- what a walk to the end found, over the table of the honest edges
pub record IsWhole (g : KeyGraph) (table : List Bool) (order : List ℕ) (found : List (Option Found)) : Type 0 where
  pub graph : IsKeyGraph g
  pub table_of : IsTableOf g table
  pub walk : IsWalk (edge_at g.stations table) g.stations g.stations order found
  pub whole : g.stations ≤ length order

-- the numbers that it found are roots and distances
distances_found : (g : KeyGraph) (table : List Bool) (order : List ℕ) (found : List (Option Found)) → IsWhole g table order found → AreDistances g (root_of found) (distance_of found)
distances_found g table order found is =
    let n = g.stations in
    let seen = all_found (edge_at n table) n n order found is.walk is.whole in
    record {
      begins = λ v low at. is.walk.begins v (seen v low) at;
      goes_on = λ v low far.
          let from = is.walk.goes_on v (seen v low) far in
          let inside = found_below found n from.0 is.walk.wide from.1.seen in
          (from.0, record { within = inside; edge = sym (is.table_of.flags from.0 v inside low) ∙ from.1.is_edge; same = from.1.root; nearer = from.1.distance });
      closed = λ u w low_u low_w edge.
          let at = place_found_at (edge_at n table) n n order found is.walk u low_u (seen u low_u) in
          let long = order_within (edge_at n table) n n order found is.walk in
          let within = at.1 in
          let flag : edge_at n table (slice_index order at.0) w ≡ true = ap (λ x. edge_at n table x w) at.2 ∙ is.table_of.flags u w low_u low_w ∙ edge in
          let next : IsNextTo found u w = subst (λ x. IsNextTo found x w) at.2 (is.walk.closed at.0 w (omega arith) low_w flag) in
          (next.root, next.distance);
      least = λ v low. is.walk.least v (seen v low);
    }

-- a list made by equal functions
map_same : {X : Type 0} (f h : ℕ → X) (xs : List ℕ) → ((x : ℕ) → is_among xs x ≡ true → f x ≡ h x) → map f xs ≡ map h xs
map_same f h [] same = refl
map_same f h (x ∷ xs) same = rw (same x (or_first (nat_eq x x) (is_among xs x) (eq-eqb x x refl)), map_same f h xs (λ y there. same y (or_second (nat_eq y x) (is_among xs y) there))) refl

place_of_parts : Bool → ℕ → Option ℕ → Place
place_of_parts m r p = record { is_member = m; root = r; parent = p }

-- each place is the one that the key graph says
pub places_found : (g : KeyGraph) (members table : List Bool) (order : List ℕ) (found : List (Option Found)) → IsWhole g table order found →
    members ≡ map (is_among g.coalition) (range_with_len 0 g.stations) →
    map (place_found g.stations members table found) (range_with_len 0 g.stations) ≡ map (place_in g) (range_with_len 0 g.stations)
unfolding place_of_parts
places_found g members table order found is flags =
    let n = g.stations in
    let are = distances_found g table order found is in
    map_same (place_found n members table found) (place_in g) (range_with_len 0 n) (λ v there.
    let bound : v < 0 + n = below_range 0 n v there in
    let low : v < n = omega arith in
    let member : slice_index_or members v false ≡ is_among g.coalition v = ap (λ ms. slice_index_or ms v false) flags ∙ get_or-map-range_with_len (is_among g.coalition) 0 n v v false low (omega arith) in
    let own : root_of found v ≡ root g v = (roots_and_distances g is.graph (root_of found) (distance_of found) are v low).0 in
    let up : find (is_step_nearer n table found v) (range_with_len 0 n) ≡ parent g v =
    find_same (is_step_nearer n table found v) (λ u. are_neighbours g u v && (distance_of found u + 1 == distance_of found v)) (range_with_len 0 n)
    (λ u near. let under : u < 0 + n = below_range 0 n u near in ap (λ b. b && (distance_of found u + 1 == distance_of found v)) (is.table_of.flags u v (omega arith) low))
    ∙ parent_found g is.graph (root_of found) (distance_of found) are v low in
    ap (λ m. place_of_parts m (root_of found v) (find (is_step_nearer n table found v) (range_with_len 0 n))) member
    ∙ ap (λ r. place_of_parts (is_among g.coalition v) r (find (is_step_nearer n table found v) (range_with_len 0 n))) own
    ∙ ap (λ p. place_of_parts (is_among g.coalition v) (root g v) p) up)

-- the parents of a list of places
map_parents : (g : KeyGraph) (xs : List ℕ) → map (λ p. p.parent) (map (place_in g) xs) ≡ map (parent g) xs
map_parents g [] = refl
map_parents g (x ∷ xs) = ap (λ ps. parent g x ∷ ps) (map_parents g xs)

pub parents_of_forest : (g : KeyGraph) (forest : List Place) → IsForestOf g forest → parents_in forest ≡ parents g
parents_of_forest g forest is = ap parents_in is.places ∙ map_parents g (range_with_len 0 g.stations)

pub stations_of_forest : (g : KeyGraph) (forest : List Place) → IsForestOf g forest → length forest ≡ g.stations
stations_of_forest g forest is = ap length is.places ∙ length-map-range_with_len (place_in g) 0 g.stations

-- the place of a station of a forest
pub place_at : (g : KeyGraph) (forest : List Place) → IsForestOf g forest → (v : ℕ) (d : Place) → v < length forest → slice_index_or forest v d ≡ place_in g v
place_at g forest is v d low =
    let long = stations_of_forest g forest is in
    ap (λ ps. slice_index_or ps v d) is.places ∙ get_or-map-range_with_len (place_in g) 0 g.stations v v d (omega arith) (omega arith)

-- two stations of a forest are joined where their roots are equal
pub joined_at : (g : KeyGraph) (forest : List Place) → IsForestOf g forest → (u v : ℕ) (d e : Place) → u < length forest → v < length forest →
    nat_eq (slice_index_or forest u d).root (slice_index_or forest v e).root ≡ is_joined g u v
joined_at g forest is u v d e low_u low_v =
    let long = stations_of_forest g forest is in
    ap (λ p. nat_eq p.root (slice_index_or forest v e).root) (place_at g forest is u d low_u)
    ∙ ap (λ p. nat_eq (root g u) p.root) (place_at g forest is v e low_v)
    ∙ joined_by_roots g is.graph u v (omega arith) (omega arith)

-- a walk's order is an order for sums
pub order_of_walk : (g : KeyGraph) → g.stations ≤ 256 → (table : List Bool) (order : List ℕ) (found : List (Option Found)) → IsWhole g table order found → (forest : List Place) → IsForestOf g forest → IsOrder forest order
order_of_walk g some table order found is forest of_g =
    let n = g.stations in
    let long = stations_of_forest g forest of_g in
    let ps = parents_of_forest g forest of_g in
    let count = length-map-range_with_len (parent g) 0 n in
    let are = distances_found g table order found is in
    let seen = all_found (edge_at n table) n n order found is.walk is.whole in
    record {
      few = omega arith;
      are_stations = All-from_get_or (λ v. v < length forest) order 0 (λ k low. let inside = found_below found n (slice_index order k) is.walk.wide (is.walk.listed k low) in omega arith);
      each_once = λ f. is.walk.each_once f ∙ sum_by-same (λ v. cond (is_found found v) (f v) 0) f (range_with_len 0 n) (λ v there. let bound : v < 0 + n = below_range 0 n v there in
          ap (λ b. cond b (f v) 0) (seen v (omega arith))) ∙ ap (λ m. sum_by f (range_with_len 0 m)) (sym long);
      parent_before = λ i j low is_parent within.
          let u = slice_index order i in
          let v = slice_index order j in
          let low_u = found_below found n u is.walk.wide (is.walk.listed i within) in
          let low_v = found_below found n v is.walk.wide (is.walk.listed j low) in
          let listed : slice_index_or (parents g) v None ≡ parent g v = get_or-map-range_with_len (parent g) 0 n v v None low_v (omega arith) in
          let up : parent g v ≡ Some u = sym listed ∙ ap (λ qs. slice_index_or qs v None) (sym ps) ∙ is_parent in
          let found_up = parent_found g is.graph (root_of found) (distance_of found) are v low_v ∙ up in
          let passes = (found_passes (λ u. are_neighbours g u v && (distance_of found u + 1 == distance_of found v)) (range_with_len 0 n) u found_up).0 in
          let tests = and_parts (are_neighbours g u v) (distance_of found u + 1 == distance_of found v) passes in
          let nearer : distance_of found u + 1 ≡ distance_of found v = eqb-true (distance_of found u + 1) (distance_of found v) tests.1 in
          let roots = (are.closed u v low_u low_v tests.0).0 in
          elim (cases_lt i j) [
            | inl less ↦ less
            | inr high ↦ absurd (let up_order = is.walk.rising j i high within roots in omega arith)
          ];
      parents_within = λ v u is_parent. let falls = ((parents_ranked g is.graph).falls v u (ap (λ qs. slice_index_or qs v None) (sym ps) ∙ is_parent)).1 in omega arith;
    }

-- a key graph with a coalition is one
key_graph_of : (g : PlainGraph) (members : List ℕ) → IsGraph g → IsKeyGraph (with_coalition g members)
key_graph_of g members good = All-weaker (IsEdge g.stations) (λ e. (e.0 < e.1) × (e.1 < g.stations)) (λ e is. (is.ends, is.within)) g.edges good.are_edges

-- the table of the honest edges
pub table_is : (g : PlainGraph) (cs : List ℕ) (n : ℕ) (es : List (ℕ × ℕ)) (members table : List Bool) → n ≡ g.stations → es ≡ g.edges → members ≡ map (is_among cs) (range_with_len 0 g.stations) →
    length table ≡ n * n →
    ((u v : ℕ) → u < n → v < n → edge_at n table u v ≡ (has_edge es u v && not (slice_index_or members u false || slice_index_or members v false))) → IsTableOf (with_coalition g cs) table
table_is g cs n es members table same same_edges flags wide set =
    let member : (v : ℕ) → v < g.stations → slice_index_or members v false ≡ is_among cs v = λ v low.
    ap (λ ms. slice_index_or ms v false) flags ∙ get_or-map-range_with_len (is_among cs) 0 g.stations v v false low (omega arith) in
    record {
      wide = wide ∙ ap (λ m. m * m) same;
      flags = λ u v low_u low_v.
          ap (λ m. edge_at m table u v) (sym same) ∙ set u v (omega arith) (omega arith)
          ∙ ap (λ xs. has_edge xs u v && not (slice_index_or members u false || slice_index_or members v false)) same_edges
          ∙ ap (λ b. has_edge g.edges u v && not (b || slice_index_or members v false)) (member u low_u)
          ∙ ap (λ b. has_edge g.edges u v && not (is_among cs u || b)) (member v low_v);
    }

-- it has both flags of an edge or none
pub edge_table_of : (g : KeyGraph) (n : ℕ) (table : List Bool) → n ≡ g.stations → IsTableOf g table → IsEdgeTable n table
edge_table_of g n table same is = record {
  wide = is.wide ∙ ap (λ m. m * m) (sym same);
  both_ways = λ u v low_u low_v edge.
      let of_n = λ (x y : ℕ) (low_x : x < n) (low_y : y < n). ap (λ m. edge_at m table x y) same ∙ is.flags x y (omega arith) (omega arith) in
      of_n v u low_v low_u ∙ neighbours-comm g u v (sym (of_n u v low_u low_v) ∙ edge);
}

-- what the parts of the forest are made from
pub record IsMade (g : PlainGraph) (cs : List ℕ) (n : ℕ) (table : List Bool) (order : List ℕ) (found : List (Option Found)) : Type 0 where
  pub graph : IsGraph g
  pub same : n ≡ g.stations
  pub table_of : IsTableOf (with_coalition g cs) table
  pub walk : IsWalk (edge_at n table) n n order found
  pub whole : n ≤ length order

whole_of : (g : PlainGraph) (cs : List ℕ) (n : ℕ) (table : List Bool) (order : List ℕ) (found : List (Option Found)) → IsMade g cs n table order found → IsWhole (with_coalition g cs) table order found
whole_of g cs n table order found made = record {
  graph = key_graph_of g cs made.graph;
  table_of = made.table_of;
  walk = subst (λ m. IsWalk (edge_at m table) m m order found) made.same made.walk;
  whole = subst (λ m. m ≤ length order) made.same made.whole;
}

pub forest_made : (g : PlainGraph) (cs : List ℕ) (n : ℕ) (members table : List Bool) (order : List ℕ) (found : List (Option Found)) (places : List Place) → IsMade g cs n table order found →
    members ≡ map (is_among cs) (range_with_len 0 n) → places ≡ map (place_found n members table found) (range_with_len 0 n) → IsForestOf (with_coalition g cs) places
forest_made g cs n members table order found places made flags is = record {
  graph = key_graph_of g cs made.graph;
  places = is ∙ ap (λ m. map (place_found m members table found) (range_with_len 0 m)) made.same
      ∙ places_found (with_coalition g cs) members table order found (whole_of g cs n table order found made) (flags ∙ ap (λ m. map (is_among cs) (range_with_len 0 m)) made.same);
}

pub order_made : (g : PlainGraph) (cs : List ℕ) (n : ℕ) (table : List Bool) (order : List ℕ) (found : List (Option Found)) (places : List Place) → IsMade g cs n table order found →
    IsForestOf (with_coalition g cs) places → IsOrder places order
order_made g cs n table order found places made is = order_of_walk (with_coalition g cs) made.graph.most_stations table order found (whole_of g cs n table order found made) places is

-- an order of a forest leads upwards
upward_of : (g : KeyGraph) (forest : List Place) → IsForestOf g forest → (order : List ℕ) → IsOrder forest order → IsUpward (parents g) order
upward_of g forest is order in_order =
    let long = stations_of_forest g forest is in
    let count = length-map-range_with_len (parent g) 0 g.stations in
    let same : length forest ≡ length (parents g) = omega arith in
    record {
      each_once = λ f. in_order.each_once f ∙ ap (λ m. sum_by f (range_with_len 0 m)) same;
      parent_before = λ i j low is_parent within. in_order.parent_before i j low (ap (λ ps. slice_index_or ps (slice_index order j) None) (parents_of_forest g forest is) ∙ is_parent) within;
    }

pub upwards_begin : (g : KeyGraph) (forest : List Place) → IsForestOf g forest → (order : List ℕ) (sums : List (List ℕ)) → length sums ≡ length forest →
    ((v : ℕ) → v < length sums → IsWord (slice_index_or sums v zero_word)) → ArePartial (parents g) sums order (length order - 0) sums
upwards_begin g forest is order sums count words =
    let long = stations_of_forest g forest is in
    let all = length-map-range_with_len (parent g) 0 g.stations in
    record {
      count = omega arith;
      partial = λ v low. begins_upwards (parents g) sums order (length order - 0) v (drop_all (length order - 0) order (omega arith)) (words v (omega arith));
    }

pub upwards_goes_on : (g : KeyGraph) (forest : List Place) → IsForestOf g forest → (order : List ℕ) → IsOrder forest order → (words : List (List ℕ)) (k v : ℕ) (sums : List (List ℕ)) → k < length order →
    slice_index order (length order - 1 - k) ≡ v → v < length forest → ArePartial (parents g) words order (length order - k) sums →
    ArePartial (parents g) words order (length order - (k + 1)) (with_parent (slice_index_or (parents_in forest) v None) v sums)
upwards_goes_on g forest is order in_order words k v sums low at within so_far =
    let long = stations_of_forest g forest is in
    let all = length-map-range_with_len (parent g) 0 g.stations in
    let i = length order - (k + 1) in
    let next : length order - k ≡ i + 1 = omega arith in
    let here : length order - 1 - k ≡ i = omega arith in
    subst (λ (ps : List (Option ℕ)). ArePartial (parents g) words order i (with_parent (slice_index_or ps v None) v sums)) (sym (parents_of_forest g forest is))
    (upwards_step (parents g) (rank_in g) (parents_ranked g is.graph) words order (upward_of g forest is order in_order) i v sums (omega arith) (ap (slice_index order) (sym here) ∙ at) (omega arith)
    (subst (λ (j : ℕ). ArePartial (parents g) words order j sums) next so_far))

pub upwards_end : (g : KeyGraph) (forest : List Place) → IsForestOf g forest → (order : List ℕ) → IsOrder forest order → (words : List (List ℕ)) (k : ℕ) (sums : List (List ℕ)) → length order ≤ k →
    ArePartial (parents g) words order (length order - k) sums → (v : ℕ) → v < length forest → slice_index_or sums v zero_word ≡ below_sum (parents g) words v
upwards_end g forest is order in_order words k sums past all v low =
    let long = stations_of_forest g forest is in
    let count = length-map-range_with_len (parent g) 0 g.stations in
    let none : length order - k ≡ 0 = omega arith in
    upwards_done (parents g) (rank_in g) (parents_ranked g is.graph) words order (upward_of g forest is order in_order) sums (subst (λ (j : ℕ). ArePartial (parents g) words order j sums) none all) v (omega arith)

-- sums below, of the own words of the stations
pub sums_done : (g : KeyGraph) (forest : List Place) → IsForestOf g forest → (demands own sums : List (List ℕ)) → AreOwnWords forest demands own → length sums ≡ length own →
    ((v : ℕ) → v < length own → slice_index_or sums v zero_word ≡ below_sum (parents g) own v) → sums ≡ below_sums g demands
sums_done g forest is demands own sums words as_many each =
    let n = g.stations in
    let long = stations_of_forest g forest is in
    let of_own = words.count in
    let due : ℕ → List ℕ = λ v. cond (is_among g.coalition v) zero_word (below_sum (parents g) demands v) in
    let all = length-map-range_with_len due 0 n in
    let own_words : (v : ℕ) → v < n → slice_index_or own v zero_word ≡ cond (is_among g.coalition v) zero_word (slice_index_or demands v zero_word) = λ v low.
    words.own v (omega arith) ∙ ap (λ b. cond b zero_word (slice_index_or demands v zero_word)) (member v low) in
    ext_get_or zero_word sums (map due (range_with_len 0 n)) (omega arith) (λ v low.
    each v (omega arith) ∙ honest_sums g is.graph demands own own_words v (omega arith) ∙ sym (get_or-map-range_with_len due 0 n v v zero_word (omega arith) (omega arith)))
  where
    map_members : (xs : List ℕ) → map (λ p. p.is_member) (map (place_in g) xs) ≡ map (is_among g.coalition) xs
    map_members [] = refl
    map_members (x ∷ xs) = ap (λ ms. is_among g.coalition x ∷ ms) (map_members xs)

    member : (v : ℕ) → v < g.stations → slice_index_or (members_in forest) v false ≡ is_among g.coalition v
    member v low = ap (λ ms. slice_index_or ms v false) (ap members_in is.places ∙ map_members (range_with_len 0 g.stations)) ∙ get_or-map-range_with_len (is_among g.coalition) 0 g.stations v v false low (omega arith)

-- as many words as before
pub length_with_parent : (o : Option ℕ) (v : ℕ) (sums : List (List ℕ)) → length (with_parent o v sums) ≡ length sums
length_with_parent None v sums = refl
length_with_parent (Some u) v sums = length-set sums u (word_add (slice_index_or sums u zero_word) (slice_index_or sums v zero_word))
