-- The view of a twin is that of its net: no pad that a member knows changes.
use Rattle.std.proofs.Common.{◌≡◌, ℕ, ◌<◌, ◌||◌, not, Bool, true, false, cond, List, [], ◌∷◌, ◌++◌, map, filter, get_or, option_map, Some, None, codes, refl, sym, ◌∙◌, ap, inl, inr, arith, true≢false}
use Rattle.std.specs.List.{All, flat_map, enumerate_from}
use Rattle.std.specs.Fmt.{decimal}
use Rattle.std.proofs.lemmas.Bool.{and_parts, cases_Bool, not-true}
use Rattle.std.proofs.lemmas.List.Elements.{All-head, All-tail}
use Rattle.std.proofs.Math.Bool.{or_comm}
use Rattle.dc_spec.specs.Text.{line}
use Rattle.dc_spec.specs.Lists.{is_among}
use Rattle.dc_spec.specs.Pads.{Pair}
use Rattle.dc_spec.specs.Scripts.{Turn}
use Rattle.dc_spec.specs.Net.{Net}
use Rattle.dc_graph_rules.specs.Graphs.{key_graph, has_edge}
use Rattle.dc_graph_rules.specs.Forests.{parents, is_parent}
use Rattle.dc_net_rules.specs.Nets.{IsNet}
use Rattle.dc_net_rules.specs.Runs.{Round, all_rounds, recorded, run_of, IsAlike}
use Rattle.dc_net_rules.proofs.Agreeing.{all_agree}
use Rattle.dc_run_texts.specs.Coalition.{members, is_known}
use Rattle.dc_run_texts.specs.View.{edge_line, pair_lines, round_text, view_text}
use Rattle.dc_twin_rules.specs.Twins.{Admits, tree_shift, twin}
use Rattle.dc_twin_rules.proofs.TreeEdges.{parent-neighbours}
use Rattle.dc_twin_rules.proofs.Shifting.{with_shift, shift_of, kept-u, kept-v}
use Rattle.dc_twin_rules.proofs.Changes.{changed, sums_of, twin-pairs}
use Rattle.dc_twin_rules.proofs.Rounds.{rounds-kept}

-- an edge of the forest has no end in the coalition
unknown-edge : (net : Net) → IsNet net → (u c : ℕ) → c < net.stations → is_parent (parents (key_graph net)) u c ≡ true → (is_among net.coalition u || is_among net.coalition c) ≡ false
unknown-edge net is u c low h = not-true _ (and_parts (has_edge net.edges u c) (not (is_among net.coalition u || is_among net.coalition c)) (parent-neighbours
    (key_graph net) is.graph u c low h)).1

-- so a pair that a member knows stays
known-stays : (net : Net) (p : List ℕ) → IsNet net → (q : Pair) → q.u < net.stations → q.v < net.stations → is_known net q ≡ true → changed net p q ≡ q
known-stays net p is q low_u low_v known =
    let ps = parents (key_graph net) in
    let not_u : is_parent ps q.v q.u ≡ false = elim (cases_Bool (is_parent ps q.v q.u)) [
      | inl here ↦ absurd (true≢false (sym known ∙ or_comm (is_among net.coalition q.u) (is_among net.coalition q.v) ∙ unknown-edge net is q.v q.u low_u here))
      | inr none ↦ none
    ] in
    let not_v : is_parent ps q.u q.v ≡ false = elim (cases_Bool (is_parent ps q.u q.v)) [
      | inl here ↦ absurd (true≢false (sym known ∙ unknown-edge net is q.u q.v low_v here))
      | inr none ↦ none
    ] in
    λ i. with_shift (option_map (tree_shift (sums_of net p) q) (cond (not_u i) (Some q.u) (cond (not_v i) (Some q.v) None))) q

-- a filter along changed items
filter-kept : (K : Pair → Bool) (c : Pair → Pair) (xs : List Pair) → ((q : Pair) → K (c q) ≡ K q) → All (λ q. K q ≡ true → c q ≡ q) xs → filter K (map c xs) ≡ filter K xs
filter-kept K c [] tests stay = refl
filter-kept K c (x ∷ xs) tests stay =
    ap (λ (b : Bool). cond b (c x ∷ filter K (map c xs)) (filter K (map c xs))) (tests x)
    ∙ by_case (K x) (All-head (λ q. K q ≡ true → c q ≡ q) x xs stay) (filter-kept K c xs tests (All-tail (λ q. K q ≡ true → c q ≡ q) x xs stay))
  where
    by_case : (b : Bool) → (b ≡ true → c x ≡ x) → filter K (map c xs) ≡ filter K xs → cond b (c x ∷ filter K (map c xs)) (filter K (map c xs)) ≡ cond b (x ∷ filter K xs) (filter K xs)
    by_case true same rest = λ i. same refl i ∷ rest i
    by_case false same rest = rest

known-kept : (net : Net) (p : List ℕ) → IsNet net → filter (is_known net) (twin net p).keys.pairs ≡ filter (is_known net) net.keys.pairs
known-kept net p is =
    let of_keys : net.keys.stations ≡ net.stations = (all_agree net is.agrees).key_stations in
    let o = λ (q : Pair). shift_of (parents (key_graph net)) (sums_of net p) q in
    ap (λ (pairs : List Pair). filter (is_known net) pairs) (twin-pairs net p)
    ∙ filter-kept (is_known net) (changed net p) net.keys.pairs
    (λ q. (λ i. is_among net.coalition (kept-u (o q) q i) || is_among net.coalition (kept-v (o q) q i)))
    (λ k d low. (let pair = is.keys.are_pairs k d low in let up = pair.ends in let within = pair.within in known-stays net p is (get_or net.keys.pairs k d) (omega arith) (omega arith)))

-- the text of a net and the rounds, from the pairs that a member knows
text_from : Net → List Round → List Pair → List ℕ
text_from net played pairs = line (codes "view 1")
    ++ line (codes "net " ++ decimal net.stations ++ codes " " ++ decimal net.words)
    ++ (flat_map (λ (e : ℕ × ℕ). edge_line e.0 e.1) net.edges
    ++ flat_map (λ (i : ℕ). line (codes "member " ++ decimal i)) (members net)
    ++ flat_map (pair_lines net.words) pairs)
    ++ flat_map (λ (t : ℕ × Turn). round_text net (recorded net played) t.0 t.1.delivery) (enumerate_from 0 net.script.rounds)

text-kept : (net : Net) (p : List ℕ) → IsNet net → (played : List Round) → view_text (twin net p) (recorded (twin net p) played) ≡ view_text net (recorded net played)
unfolding view_text text_from
text-kept net p is played = ap (λ (pairs : List Pair). text_from net played pairs) (known-kept net p is)

-- the view of a twin
pub view-kept : (net : Net) (p : List ℕ) → IsNet net → IsAlike net → Admits net p → view_text (twin net p) (run_of (twin net p)) ≡ view_text net (run_of net)
view-kept net p is alike admits = ap (λ (played : List Round). view_text (twin net p) (recorded (twin net p) played)) (rounds-kept net p is alike admits) ∙ text-kept net p is (all_rounds net)
