-- The demands of a part in which all stations have one history sum to zero.
use Rattle.std.proofs.Common.{◌≡◌, ℕ, ◌+◌, ◌%◌, ◌<◌, ◌||◌, not, Bool, true, false, cond, List, [], ◌∷◌, ◌++◌, sum_by, slice_index, refl, sym, ◌∙◌, ap, subst, arith, true≢false}
use Rattle.std.specs.List.{range_with_len}
use Rattle.std.proofs.lemmas.Bool.{and_parts, not-true}
use Rattle.dc_spec.specs.Lists.{is_among}
use Rattle.dc_spec.proofs.Booleans.{test-same}
use Rattle.dc_spec.proofs.ListLemmas.{kept_passes, passes_kept, below_range}
use Rattle.dc_spec.proofs.SumLemmas.{sum_by-filter, sum_by-same}
use Rattle.dc_graph_rules.specs.Graphs.{KeyGraph, IsKeyGraph, has_edge, IsWalk, AreJoined, part, is_joined}
use Rattle.dc_graph_rules.proofs.GraphLemmas.{joined-walks, walk_on}
use Rattle.dc_graph_rules.proofs.ForestLemmas.{neighbours-comm, reached_as_filter}
use Rattle.dc_twin_rules.specs.Twins.{IsPermutationOf, inverse}
use Rattle.dc_twin_rules.proofs.KeyedSums.{sum_by-mod_plus, all_range}
use Rattle.dc_twin_rules.proofs.Permuted.{sum-permuted, back-there}

-- where neither of two tests passes, the second does not
pub second_fails : (b c : Bool) → (b || c) ≡ false → c ≡ false
second_fails false c h = h
second_fails true c h = absurd (true≢false h)

-- no walk leads to a member
pub walk-honest : (g : KeyGraph) (u : ℕ) (walk : List ℕ) (w : ℕ) → is_among g.coalition u ≡ false → IsWalk g u walk w → is_among g.coalition w ≡ false
walk-honest g u [] w honest walks = subst (λ (z : ℕ). is_among g.coalition z ≡ false) walks honest
walk-honest g u (v ∷ vs) w honest walks =
    walk-honest g v vs w (second_fails (is_among g.coalition u) (is_among g.coalition v) (not-true _ (and_parts (has_edge g.edges u v) (not
    (is_among g.coalition u || is_among g.coalition v)) walks.0).1)) walks.1

-- walks one after the other, and back
walks-join : (g : KeyGraph) (u : ℕ) (xs : List ℕ) (v : ℕ) (ys : List ℕ) (w : ℕ) → IsWalk g u xs v → IsWalk g v ys w → IsWalk g u (xs ++ ys) w
walks-join g u [] v ys w first second = subst (λ (z : ℕ). IsWalk g z ys w) (sym first) second
walks-join g u (x ∷ xs) v ys w first second = (first.0, walks-join g x xs v ys w first.1 second)

pub joined-trans : (g : KeyGraph) (u v w : ℕ) → AreJoined g u v → AreJoined g v w → AreJoined g u w
joined-trans g u v w one other = (one.0 ++ other.0, walks-join g u one.0 v other.0 w one.1 other.1)

walk-back : (g : KeyGraph) (u : ℕ) (walk : List ℕ) (w : ℕ) → IsWalk g u walk w → AreJoined g w u
walk-back g u [] w walks = ([], sym walks)
walk-back g u (v ∷ vs) w walks = let later = walk-back g v vs w walks.1 in (later.0 ++ u ∷ [], walk_on g w later.0 v u later.1 (neighbours-comm g u v walks.0))

pub joined-sym : (g : KeyGraph) (u w : ℕ) → AreJoined g u w → AreJoined g w u
joined-sym g u w joined = walk-back g u joined.0 w joined.1

-- a permutation within parts keeps each part
part-kept : (g : KeyGraph) → IsKeyGraph g → (i j k : ℕ) → i < g.stations → AreJoined g j k → is_joined g i k ≡ is_joined g i j
part-kept g good i j k low joined = test-same (is_joined g i k) (is_joined g i j)
    (λ there. (joined-walks g good i j low).1 (joined-trans g i k j ((joined-walks g good i k low).0 there) (joined-sym g j k joined)))
    (λ there. (joined-walks g good i k low).1 (joined-trans g i j k ((joined-walks g good i j low).0 there) joined))

-- a sum over a part, as one over all stations
part-sum : (g : KeyGraph) (i : ℕ) → i < g.stations → (f : ℕ → ℕ) → sum_by f (part g i) ≡ sum_by (λ w. cond (is_joined g i w) (f w) 0) (range_with_len 0 g.stations)
part-sum g i low f =
    let of_i = reached_as_filter g i g.stations (omega arith) in
    let stations = range_with_len 0 g.stations in
    let same : (w : ℕ) → is_among stations w ≡ true → of_i.0 w ≡ is_joined g i w = λ w there. test-same (of_i.0 w) (is_joined g i w)
    (λ passes. subst (λ (xs : List ℕ). is_among xs w ≡ true) (sym of_i.1) (passes_kept of_i.0 stations w there passes))
    (λ joined. kept_passes of_i.0 stations w (subst (λ (xs : List ℕ). is_among xs w ≡ true) of_i.1 joined)) in
    ap (λ (xs : List ℕ). sum_by f xs) of_i.1 ∙ sum_by-filter f of_i.0 stations
    ∙ sum_by-same (λ w. cond (of_i.0 w) (f w) 0) (λ w. cond (is_joined g i w) (f w) 0) stations (λ w there. ap (λ (b : Bool). cond b (f w) 0) (same w there))

-- what each station of a part gains, less what the one before it in the permutation gains, is nothing in all
pub part-sum_zero : (g : KeyGraph) → IsKeyGraph g → (p : List ℕ) → IsPermutationOf g.stations p → ((j : ℕ) → j < g.stations → AreJoined g j (slice_index p j)) → (i : ℕ) → i < g.stations →
    (G d : ℕ → ℕ) →
    ((w : ℕ) → w < g.stations → is_joined g i w ≡ true → (d w + G (slice_index (inverse p) w)) % 65537 ≡ G w % 65537) → sum_by d (part g i) % 65537 ≡ 0
part-sum_zero g good p permutes joined i low G d is =
    let n = g.stations in
    let stations = range_with_len 0 n in
    let inside = λ (w : ℕ). is_joined g i w in
    let moved = λ (w : ℕ). cond (inside w) (G (slice_index (inverse p) w)) 0 in
    let both = sum_by-mod_plus (λ w. cond (inside w) (G w) 0) (λ w. cond (inside w) (d w) 0) moved stations
    (all_range (λ w. cond (inside w) (G w) 0 % 65537 ≡ (cond (inside w) (d w) 0 + moved w) % 65537) n (λ w less. one_by (inside w) (d w) (G (slice_index (inverse p) w)) (G w) (is w less))) in
    let turned : sum_by moved stations ≡ sum_by (λ w. cond (inside w) (G w) 0) stations = sym (sum-permuted n p permutes moved)
    ∙ sum_by-same (λ j. moved (slice_index p j)) (λ j. cond (inside j) (G j) 0) stations (λ j there. (let bound : j < 0 + n = below_range 0 n j there in let less : j < n = omega arith in
    ap (λ (b : Bool). cond b (G (slice_index (inverse p) (slice_index p j))) 0) (part-kept g good i j (slice_index p j) low (joined j less))
    ∙ ap (λ (k : ℕ). cond (inside j) (G k) 0) (back-there n p permutes j less))) in
    let whole = part-sum g i low d in
    omega arith
  where
    one_by : (b : Bool) (x y z : ℕ) → (b ≡ true → (x + y) % 65537 ≡ z % 65537) → cond b z 0 % 65537 ≡ (cond b x 0 + cond b y 0) % 65537
    one_by true x y z is = sym (is refl)
    one_by false x y z is = refl
