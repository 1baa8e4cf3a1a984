-- Edges of the forest, and their pairs in the key file.
use Rattle.std.proofs.Common.{◌≡◌, ℕ, ◌+◌, ◌*◌, ◌<◌, ◌≤◌, ◌⊎◌, ◌==◌, ◌&&◌, ◌||◌, not, Bool, true, false, List, [], length, map, get_or, slice_index, slice_index_or, nat_eq, Option, Some, None, refl, sym, ◌∙◌, ap, subst, inl, inr, arith, eqb-true, true≢false, eq-or-lt_of_le}
use Rattle.std.specs.List.{All, AllPairs, list_any}
use Rattle.std.specs.List.Sorted.{IsStrictlyIncreasing}
use Rattle.std.specs.Option.{option_map_or}
use Rattle.std.proofs.Math.ListN.{get_or-map as get_or-map_default}
use Rattle.std.proofs.lemmas.Bool.{and_from, and_parts, cases_Bool}
use Rattle.std.proofs.lemmas.List.{get_or-map, length-map}
use Rattle.std.proofs.lemmas.List.Elements.{All-weaker}
use Rattle.std.proofs.lemmas.List.Folds.{Any-from_list_any, list_any_none}
use Rattle.std.proofs.lemmas.List.FromFn.{get_or-map-range_with_len, length-map-range_with_len}
use Rattle.std.proofs.lemmas.List.Kept.{AllPairs-from_increasing}
use Rattle.dc_spec.specs.Pads.{Pair, Keys}
use Rattle.dc_spec.specs.Net.{Net}
use Rattle.dc_spec.specs.Lists.{is_among}
use Rattle.dc_spec.proofs.Booleans.{nat_eq-comm, or_cases}
use Rattle.dc_spec.proofs.ListLemmas.{any_weaker}
use Rattle.dc_spec.proofs.Options.{map-none}
use Rattle.dc_formats.specs.KeyFile.{IsPair, IsKeys, AreEndsBefore}
use Rattle.dc_graph_rules.specs.Graphs.{KeyGraph, IsKeyGraph, key_graph, has_edge, are_neighbours}
use Rattle.dc_graph_rules.specs.Forests.{parent, parents, is_parent}
use Rattle.dc_graph_rules.proofs.ForestLemmas.{parents_ranked}
use Rattle.dc_graph_rules.proofs.ParentLemmas.{parents-least}
use Rattle.dc_net_rules.specs.Agreement.{key_missing}
use Rattle.dc_net_rules.specs.Nets.{IsNet}
use Rattle.dc_net_rules.proofs.Agreeing.{none_found, all_agree}

-- what the test of a parent says
pub some_parent : (o : Option ℕ) (u : ℕ) → option_map_or (nat_eq u) o false ≡ true → o ≡ Some u
some_parent None u h = absurd (true≢false (sym h))
some_parent (Some x) u h = ap (λ (z : ℕ). Some z) (sym (eqb-true u x h))

pub parent-at : (g : KeyGraph) (c : ℕ) → c < g.stations → slice_index_or (parents g) c None ≡ parent g c
parent-at g c low = get_or-map-range_with_len (parent g) 0 g.stations c c None low (omega arith)

pub length-parents : (g : KeyGraph) → length (parents g) ≡ g.stations
length-parents g = length-map-range_with_len (parent g) 0 g.stations

-- a parent is a neighbour
pub parent-neighbours : (g : KeyGraph) → IsKeyGraph g → (u c : ℕ) → c < g.stations → is_parent (parents g) u c ≡ true → are_neighbours g u c ≡ true
parent-neighbours g good u c low h = ((parents-least g good c low).0 u (sym (parent-at g c low) ∙ some_parent (slice_index_or (parents g) c None) u h)).neighbour

-- no two stations are each other's parents
pub parents-apart : (g : KeyGraph) → IsKeyGraph g → (u c : ℕ) → is_parent (parents g) u c ≡ true → is_parent (parents g) c u ≡ false
parents-apart g good u c h = elim (cases_Bool (is_parent (parents g) c u)) [
  | inl other ↦ (let ranked = parents_ranked g good in
      let one = (ranked.falls c u (some_parent (slice_index_or (parents g) c None) u h)).0 in
      let two = (ranked.falls u c (some_parent (slice_index_or (parents g) u None) c other)).0 in
      absurd (omega arith))
  | inr none ↦ none
]

not_false : (b : Bool) → not b ≡ false → b ≡ true
not_false true h = refl
not_false false h = absurd (true≢false h)

-- an honest edge has its pair, the smaller end first
pub edge-pair : (net : Net) → IsNet net → (i w : ℕ) → are_neighbours (key_graph net) i w ≡ true →
    ((i < w) × (list_any (λ (q : Pair). (q.u == i) && (q.v == w)) net.keys.pairs ≡ true)) ⊎ ((w < i) × (list_any (λ (q : Pair). (q.u == w) && (q.v == i)) net.keys.pairs ≡ true))
edge-pair net is i w joined =
    let edge = (and_parts (has_edge net.edges i w) (not (is_among net.coalition i || is_among net.coalition w)) joined).0 in
    let found = Any-from_list_any (λ (e : ℕ × ℕ). (nat_eq e.0 i && nat_eq e.1 w) || (nat_eq e.0 w && nat_eq e.1 i)) net.edges edge in
    let rises : (found.1.0 < found.1.1) × (found.1.1 < net.stations) = subst (λ (e : ℕ × ℕ). (e.0 < e.1) × (e.1 < net.stations)) found.3 (is.graph found.0 found.1 found.2) in
    let up = rises.0 in
    let fails = none_found (λ (e : ℕ × ℕ). not (list_any (λ (q : Pair). (q.u == e.0) && (q.v == e.1)) net.keys.pairs)) net.edges
    (map-none (λ (e : ℕ × ℕ). key_missing e.0 e.1) _ (all_agree net is.agrees).missing) found.0 found.1 found.2 in
    let there : list_any (λ (q : Pair). (q.u == found.1.0) && (q.v == found.1.1)) net.keys.pairs ≡ true =
    subst (λ (e : ℕ × ℕ). list_any (λ (q : Pair). (q.u == e.0) && (q.v == e.1)) net.keys.pairs ≡ true) found.3 (not_false _ fails) in
    elim (or_cases (nat_eq found.1.0 i && nat_eq found.1.1 w) (nat_eq found.1.0 w && nat_eq found.1.1 i) found.4) [
      | inl same ↦ (let parts = and_parts (nat_eq found.1.0 i) (nat_eq found.1.1 w) same in
          let at_u : found.1.0 ≡ i = eqb-true found.1.0 i parts.0 in
          let at_v : found.1.1 ≡ w = eqb-true found.1.1 w parts.1 in
          inl (
            omega arith,
            subst (λ (a : ℕ). list_any (λ (q : Pair). (q.u == a) && (q.v == w)) net.keys.pairs ≡ true) at_u
                (subst (λ (b : ℕ). list_any (λ (q : Pair). (q.u == found.1.0) && (q.v == b)) net.keys.pairs ≡ true) at_v there),
          ))
      | inr same ↦ (let parts = and_parts (nat_eq found.1.0 w) (nat_eq found.1.1 i) same in
          let at_u : found.1.0 ≡ w = eqb-true found.1.0 w parts.0 in
          let at_v : found.1.1 ≡ i = eqb-true found.1.1 i parts.1 in
          inr (
            omega arith,
            subst (λ (a : ℕ). list_any (λ (q : Pair). (q.u == a) && (q.v == i)) net.keys.pairs ≡ true) at_u
                (subst (λ (b : ℕ). list_any (λ (q : Pair). (q.u == found.1.0) && (q.v == b)) net.keys.pairs ≡ true) at_v there),
          ))
    ]

-- whether a station is the smaller end of a pair with another, and whether it is the larger one
abbrev pub is_smaller_end : List Pair → ℕ → ℕ → Bool
is_smaller_end pairs i w = list_any (λ q. (q.u == i) && nat_eq w q.v) pairs

abbrev pub is_larger_end : List Pair → ℕ → ℕ → Bool
is_larger_end pairs i w = list_any (λ q. (q.v == i) && nat_eq w q.u) pairs

no_smaller : (pairs : List Pair) → All (λ q. q.u < q.v) pairs → (i w : ℕ) → w < i → is_smaller_end pairs i w ≡ false
no_smaller pairs up i w less = list_any_none (λ q. (q.u == i) && nat_eq w q.v) pairs (All-weaker (λ q. q.u < q.v) (λ q. ((q.u == i) && nat_eq w q.v)
    ≡ false) (λ q rises. none q rises (cases_Bool ((q.u == i) && nat_eq w q.v))) pairs up)
  where
    none : (q : Pair) → q.u < q.v → ((((q.u == i) && nat_eq w q.v) ≡ true) ⊎ (((q.u == i) && nat_eq w q.v) ≡ false)) → ((q.u == i) && nat_eq w q.v) ≡ false
    none q rises (inl yes_it) = (let parts = and_parts (q.u == i) (nat_eq w q.v) yes_it in let a : q.u ≡ i = eqb-true q.u i parts.0 in let b : w
        ≡ q.v = eqb-true w q.v parts.1 in absurd (omega arith))
    none q rises (inr no_it) = no_it

no_larger : (pairs : List Pair) → All (λ q. q.u < q.v) pairs → (i w : ℕ) → i < w → is_larger_end pairs i w ≡ false
no_larger pairs up i w less = list_any_none (λ q. (q.v == i) && nat_eq w q.u) pairs (All-weaker (λ q. q.u < q.v) (λ q. ((q.v == i) && nat_eq w q.u)
    ≡ false) (λ q rises. none q rises (cases_Bool ((q.v == i) && nat_eq w q.u))) pairs up)
  where
    none : (q : Pair) → q.u < q.v → ((((q.v == i) && nat_eq w q.u) ≡ true) ⊎ (((q.v == i) && nat_eq w q.u) ≡ false)) → ((q.v == i) && nat_eq w q.u) ≡ false
    none q rises (inl yes_it) = (let parts = and_parts (q.v == i) (nat_eq w q.u) yes_it in let a : q.v ≡ i = eqb-true q.v i parts.0 in let b : w
        ≡ q.u = eqb-true w q.u parts.1 in absurd (omega arith))
    none q rises (inr no_it) = no_it

pub rising-pairs : (k : Keys) → IsKeys k → All (λ q. q.u < q.v) k.pairs
rising-pairs k is = All-weaker (IsPair k.stations k.words) (λ q. q.u < q.v) (λ q good. good.ends) k.pairs is.are_pairs

-- a station has one pair with each neighbour, as the one end or the other
pub one-end : (net : Net) → IsNet net → (i w : ℕ) → are_neighbours (key_graph net) i w ≡ true →
    ((is_smaller_end net.keys.pairs i w ≡ true) × (is_larger_end net.keys.pairs i w ≡ false)) ⊎ ((is_smaller_end net.keys.pairs i w ≡ false) × (is_larger_end net.keys.pairs i w ≡ true))
one-end net is i w joined =
    let up = rising-pairs net.keys is.keys in
    elim (edge-pair net is i w joined) [
      | inl here ↦ inl (
        any_weaker (λ (q : Pair). (q.u == i) && (q.v == w)) (λ (q : Pair). (q.u == i) && nat_eq w q.v) net.keys.pairs
            (λ q h. (let parts = and_parts (q.u == i) (q.v == w) h in and_from (q.u == i) (nat_eq w q.v) parts.0 (nat_eq-comm w q.v ∙ parts.1))) here.1,
        no_larger net.keys.pairs up i w here.0,
      )
      | inr here ↦ inr (
        no_smaller net.keys.pairs up i w here.0,
        any_weaker (λ (q : Pair). (q.u == w) && (q.v == i)) (λ (q : Pair). (q.v == i) && nat_eq w q.u) net.keys.pairs
            (λ q h. (let parts = and_parts (q.u == w) (q.v == i) h in and_from (q.v == i) (nat_eq w q.u) parts.1 (nat_eq-comm w q.u ∙ parts.0))) here.1,
      )
    ]

-- ends in order, as one number
code_less : (a b c d : ℕ) → a ≤ c → (a ≡ c → b < d) → b < 256 → a * 256 + b < c * 256 + d
code_less a b c d le strict small = elim (eq-or-lt_of_le le) [
  | inl same ↦ (let less = strict same in omega arith)
  | inr less ↦ omega arith
]

-- no two pairs have the same ends
pub pairs-apart : (k : Keys) → IsKeys k → AllPairs (λ x y. x.u ≡ y.u → x.v ≡ y.v → ⊥) k.pairs
pairs-apart k is =
    let code : Pair → ℕ = λ q. q.u * 256 + q.v in
    let ends : Pair → ℕ × ℕ = λ q. (q.u, q.v) in
    let none : Pair = record { u = 0; v = 0; a = []; b = [] } in
    let size = length-map k.pairs code in
    let count = length-map k.pairs ends in
    let rises : IsStrictlyIncreasing (map code k.pairs) = λ j within.
    (let low : j < length k.pairs = omega arith in
    let next : j + 1 < length k.pairs = omega arith in
    let x = get_or k.pairs j none in
    let y = get_or k.pairs (j + 1) none in
    let before : AreEndsBefore (x.u, x.v) (y.u, y.v) = subst (λ (e : ℕ × ℕ). AreEndsBefore e (y.u, y.v)) (get_or-map ends k.pairs j none (0, 0) low)
    (subst (λ (e : ℕ × ℕ). AreEndsBefore (get_or (map ends k.pairs) j (0, 0)) e) (get_or-map ends k.pairs (j + 1) none (0, 0) next) (is.rising j (0, 0) (omega arith))) in
    let first : slice_index (map code k.pairs) j ≡ x.u * 256 + x.v = get_or-map code k.pairs j none 0 low in
    let second : slice_index (map code k.pairs) (j + 1) ≡ y.u * 256 + y.v = get_or-map code k.pairs (j + 1) none 0 next in
    let within_x : x.v < k.stations = (is.are_pairs j none low).within in
    let most : k.stations ≤ 256 = is.most_stations in
    let less = code_less x.u x.v y.u y.v before.lesser before.greater (omega arith) in
    omega arith) in
    λ i j d less within same_u same_v.
    (let x = get_or k.pairs i d in
    let y = get_or k.pairs j d in
    let lt : get_or (map code k.pairs) i (code d) < get_or (map code k.pairs) j (code d) = AllPairs-from_increasing (map code k.pairs) rises i j (code d) less (omega arith) in
    let at_i : get_or (map code k.pairs) i (code d) ≡ x.u * 256 + x.v = get_or-map_default code k.pairs i d in
    let at_j : get_or (map code k.pairs) j (code d) ≡ y.u * 256 + y.v = get_or-map_default code k.pairs j d in
    let one : x.u ≡ y.u = same_u in
    let other : x.v ≡ y.v = same_v in
    absurd (omega arith))
