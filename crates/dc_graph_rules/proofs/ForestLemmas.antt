-- The forest: the sum below a station is its own demand plus the sums below its children.
use Rattle.std.proofs.Common.{◌≡◌, ℕ, zero, suc, ◌+◌, ◌-◌, ◌%◌, ◌<◌, ◌≤◌, Bool, true, false, cond, ◌||◌, ◌&&◌, not, ◌==◌, List, [], ◌∷◌, map, filter, sum_by, length, slice_index_or, slice_index, nat_eq, nat_lt, ltb-true, ltb-false, Option, Some, None, refl, sym, ◌∙◌, ap, subst, inl, inr, arith, eqb-true, true≢false, zero-le}
use Rattle.std.proofs.Math.ListN.{get_or-eq_default}
use Rattle.std.proofs.lemmas.Bool.{and_parts, cases_Bool}
use Rattle.std.proofs.lemmas.List.Sums.{count_by-le-length}
use Rattle.std.proofs.lemmas.List.FromFn.{length-map-range_with_len, get_or-map-range_with_len}
use Rattle.std.specs.List.{range_with_len, list_any}
use Rattle.std.specs.Option.{option_map_or}
use Rattle.dc_spec.specs.Words.{IsWord, zero_word, word_sub, word_sum}
use Rattle.dc_spec.proofs.WordLemmas.{symbol-word_of, word_from_symbols}
use Rattle.dc_graph_rules.specs.Graphs.{KeyGraph, IsKeyGraph, has_edge, are_neighbours, one_step_more, reached, part}
use Rattle.dc_spec.specs.Lists.{is_among}
use Rattle.dc_graph_rules.specs.Forests.{spreads, lacking, root, parent, parents, chain, stations_below, is_parent, children, below_sum}
use Rattle.std.proofs.lemmas.Bool.{and_from}
use Rattle.std.proofs.Math.Bool.{or_comm}
use Rattle.dc_spec.proofs.Booleans.{or_cases, nat_eq-comm, test-same}
use Rattle.dc_spec.proofs.ListLemmas.{kept_passes, passes_kept, below_range, nothing_found, found_passes, filter-same, any_weaker}
use Rattle.dc_graph_rules.proofs.GraphLemmas.{joined-walks}
use Rattle.dc_spec.proofs.SumLemmas.{sum_by-filter, sum_by-same, sum_by-plus, sum_by-zero, sum_by-guarded, sum_by-exchange, sum_by-single, sum_by-map, sum_by-mod, taken_away}

-- each parent is a station of lower rank, and no rank is above the number of stations
pub record AreRanked (ps : List (Option ℕ)) (rank : ℕ → ℕ) : Type 0 where
  pub falls : (w u : ℕ) → slice_index_or ps w None ≡ Some u → (rank u < rank w) × (u < length ps)
  pub most : (w : ℕ) → rank w ≤ length ps

-- the stations of a chain are of no higher rank than its first one
pub chain_ranks : (ps : List (Option ℕ)) (rank : ℕ → ℕ) → AreRanked ps rank → (k u z : ℕ) → is_among (chain ps k u) z ≡ true → rank z ≤ rank u
unfolding chain
chain_ranks ps rank ranked zero u z h = elim (or_cases (nat_eq z u) false h) [
  | inl same ↦ (let e : rank z ≡ rank u = ap rank (eqb-true z u same) in omega arith)
  | inr none ↦ absurd (true≢false (sym none))
]
chain_ranks ps rank ranked (suc k) u z h = elim (or_cases (nat_eq z u) (is_among (option_map_or (chain ps k) (slice_index_or ps u None) []) z) h) [
  | inl same ↦ (let e : rank z ≡ rank u = ap rank (eqb-true z u same) in omega arith)
  | inr later ↦ (elim (slice_index_or ps u None) as (λ o. slice_index_or ps u None ≡ o → is_among (option_map_or (chain ps k) o []) z ≡ true → rank z ≤ rank u) [
    | None ↦ λ e none. absurd (true≢false (sym none))
    | Some x ↦ λ e there. (let ih = chain_ranks ps rank ranked k x z there in let less = (ranked.falls u x e).0 in omega arith)
  ]) refl later
]

-- one of two tests that never both pass counts
pub either_counts : (q r : Bool) (x : ℕ) → (q ≡ true → r ≡ false) → cond (q || r) x 0 ≡ cond q x 0 + cond r x 0
either_counts true r x apart = rw (apart refl) (omega arith)
either_counts false r x apart = omega arith

-- the same behind a third test
either_counts_behind : (p q r : Bool) (x : ℕ) → (q ≡ true → r ≡ false) → cond p (cond (q || r) x 0) 0 ≡ cond q (cond p x 0) 0 + cond p (cond r x 0) 0
either_counts_behind true q r x apart = either_counts q r x apart
either_counts_behind false true r x apart = refl
either_counts_behind false false r x apart = refl

-- what the children of v count on a chain that begins at w: w where it is a child, and the children on the rest
children_count : (ps : List (Option ℕ)) (rest : List ℕ) (w v x : ℕ) → w < length ps → is_among rest w ≡ false →
    sum_by (λ c. cond (is_parent ps v c) (cond (nat_eq c w || is_among rest c) x 0) 0) (range_with_len 0 (length ps))
    ≡ cond (is_parent ps v w) x 0 + sum_by (λ c. cond (is_parent ps v c) (cond (is_among rest c) x 0) 0) (range_with_len 0 (length ps))
children_count ps rest w v x low missing =
    let stations = range_with_len 0 (length ps) in
    let apart = sum_by-same (λ c. cond (is_parent ps v c) (cond (nat_eq c w || is_among rest c) x 0) 0)
    (λ c. cond (nat_eq c w) (cond (is_parent ps v c) x 0) 0 + cond (is_parent ps v c) (cond (is_among rest c) x 0) 0) stations
    (λ c h. either_counts_behind (is_parent ps v c) (nat_eq c w) (is_among rest c) x (λ same. subst (λ (z : ℕ). is_among rest z ≡ false) (sym (eqb-true c w same)) missing)) in
    let both = sum_by-plus (λ c. cond (nat_eq c w) (cond (is_parent ps v c) x 0) 0) (λ c. cond (is_parent ps v c) (cond (is_among rest c) x 0) 0) stations in
    let first = sum_by-single (λ c. cond (is_parent ps v c) x 0) 0 (length ps) w zero-le (omega arith) in
    apart ∙ both ∙ ap (λ s. s + sum_by (λ c. cond (is_parent ps v c) (cond (is_among rest c) x 0) 0) stations) first

-- a test that lets nothing count
none_counts : (b : Bool) → cond {A = ℕ} b 0 0 ≡ 0
none_counts true = refl
none_counts false = refl

-- nothing counts on an empty rest
empty_rest : (ps : List (Option ℕ)) (v x : ℕ) → sum_by (λ c. cond (is_parent ps v c) (cond (is_among [] c) x 0) 0) (range_with_len 0 (length ps)) ≡ 0
empty_rest ps v x = sum_by-same (λ c. cond (is_parent ps v c) (cond (is_among [] c) x 0) 0) (λ c. 0) (range_with_len 0 (length ps))
    (λ c h. none_counts (is_parent ps v c)) ∙ sum_by-zero (range_with_len 0 (length ps))

-- a chain that ends at once meets v where it begins there, and none of its children
ended_chain : (ps : List (Option ℕ)) (w v x : ℕ) → w < length ps → slice_index_or ps w None ≡ None →
    cond (is_among (w ∷ []) v) x 0 ≡ cond (nat_eq v w) x 0 + sum_by (λ c. cond (is_parent ps v c) (cond (is_among (w ∷ []) c) x 0) 0) (range_with_len 0 (length ps))
ended_chain ps w v x low none =
    let head = either_counts (nat_eq v w) false x (λ same. refl) in
    let sums = children_count ps [] w v x low refl in
    let empty = empty_rest ps v x in
    let childless : cond (is_parent ps v w) x 0 ≡ 0 = ap (λ o. cond (option_map_or (nat_eq v) o false) x 0) none in
    omega arith

-- a chain that goes on at a parent meets v where it begins there, or where it meets a child of v
longer_chain : (ps : List (Option ℕ)) (rest : List ℕ) (w u v x : ℕ) → w < length ps → slice_index_or ps w None ≡ Some u → is_among rest w ≡ false →
    cond (is_among rest v) x 0 ≡ cond (nat_eq v u) x 0 + sum_by (λ c. cond (is_parent ps v c) (cond (is_among rest c) x 0) 0) (range_with_len 0 (length ps)) →
    cond (is_among (w ∷ rest) v) x 0 ≡ cond (nat_eq v w) x 0 + sum_by (λ c. cond (is_parent ps v c) (cond (is_among (w ∷ rest) c) x 0) 0) (range_with_len 0 (length ps))
longer_chain ps rest w u v x low is missing ih =
    let head = either_counts (nat_eq v w) (is_among rest v) x (λ same. subst (λ (z : ℕ). is_among rest z ≡ false) (sym (eqb-true v w same)) missing) in
    let sums = children_count ps rest w v x low missing in
    let child : cond (is_parent ps v w) x 0 ≡ cond (nat_eq v u) x 0 = ap (λ o. cond (option_map_or (nat_eq v) o false) x 0) is in
    omega arith

-- a chain meets v where it begins there, or where it meets a child of v
pub chain_meets : (ps : List (Option ℕ)) (rank : ℕ → ℕ) → AreRanked ps rank → (k w v x : ℕ) → w < length ps → rank w ≤ k →
    cond (is_among (chain ps k w) v) x 0 ≡ cond (nat_eq v w) x 0 + sum_by (λ c. cond (is_parent ps v c) (cond (is_among (chain ps k w) c) x 0) 0) (range_with_len 0 (length ps))
unfolding chain
chain_meets ps rank ranked zero w v x low fuel = (elim (slice_index_or ps w None) as (λ o. slice_index_or ps w None ≡ o → cond (is_among (w ∷ []) v) x 0 ≡ cond (nat_eq v w) x 0 + sum_by
    (λ c. cond (is_parent ps v c) (cond (is_among (w ∷ []) c) x 0) 0) (range_with_len 0 (length ps))) [
      | None ↦ λ e. ended_chain ps w v x low e
      | Some u ↦ λ e. absurd (let less = (ranked.falls w u e).0 in omega arith)
    ]) refl
chain_meets ps rank ranked (suc k) w v x low fuel = (elim (slice_index_or ps w None) as (λ o. slice_index_or ps w None ≡ o → cond (is_among (w ∷ option_map_or (chain ps k) o []) v) x 0
    ≡ cond (nat_eq v w) x 0 + sum_by (λ c. cond (is_parent ps v c) (cond (is_among (w ∷ option_map_or (chain ps k) o []) c) x 0) 0) (range_with_len 0 (length ps))) [
      | None ↦ λ e. ended_chain ps w v x low e
      | Some u ↦ λ e. (let less = (ranked.falls w u e).0 in
          longer_chain ps (chain ps k u) w u v x low e
          (elim (cases_Bool (is_among (chain ps k u) w)) [
            | inl there ↦ absurd (let high = chain_ranks ps rank ranked k u w there in omega arith)
            | inr missing ↦ missing
          ])
          (chain_meets ps rank ranked k u v x (ranked.falls w u e).1 (omega arith)))
    ]) refl

-- the sum below a station is its own number plus the sums below its children
pub below-children : (ps : List (Option ℕ)) (rank : ℕ → ℕ) → AreRanked ps rank → (f : ℕ → ℕ) (v : ℕ) → v < length ps →
    sum_by f (stations_below ps v) ≡ f v + sum_by (λ c. sum_by f (stations_below ps c)) (children ps v)
below-children ps rank ranked f v low =
    let n = length ps in
    let stations = range_with_len 0 n in
    let meets = λ (w c : ℕ). is_among (chain ps n w) c in
    let below = sum_by-filter f (λ w. meets w v) stations in
    let each = sum_by-same (λ w. cond (meets w v) (f w) 0) (λ w. cond (nat_eq w v) (f w) 0 + sum_by (λ c. cond (is_parent ps v c) (cond (meets w c) (f w) 0) 0) stations) stations
    (λ w h. let bound : w < 0 + n = below_range 0 n w h in let inside : w < n = omega arith in
    subst (λ (b : Bool). cond (meets w v) (f w) 0 ≡ cond b (f w) 0 + sum_by (λ c. cond (is_parent ps v c) (cond (meets w c) (f w) 0) 0) stations) (nat_eq-comm v w) (chain_meets ps rank ranked n w v
    (f w) inside (ranked.most w))) in
    let parts = sum_by-plus (λ w. cond (nat_eq w v) (f w) 0) (λ w. sum_by (λ c. cond (is_parent ps v c) (cond (meets w c) (f w) 0) 0) stations) stations in
    let own = sum_by-single f 0 n v zero-le (omega arith) in
    let turned = sum_by-exchange (λ w c. cond (is_parent ps v c) (cond (meets w c) (f w) 0) 0) stations stations in
    let guarded = sum_by-same (λ c. sum_by (λ w. cond (is_parent ps v c) (cond (meets w c) (f w) 0) 0) stations) (λ c. cond (is_parent ps v c) (sum_by f (stations_below ps c)) 0) stations
    (λ c h. sum_by-guarded (is_parent ps v c) (λ w. cond (meets w c) (f w) 0) stations ∙ ap (λ s. cond (is_parent ps v c) s 0) (sym (sum_by-filter f (λ w. meets w c) stations))) in
    let kids = sum_by-filter (λ c. sum_by f (stations_below ps c)) (is_parent ps v) stations in
    below ∙ each ∙ parts ∙ ap (λ s. s + sum_by (λ w. sum_by (λ c. cond (is_parent ps v c) (cond (meets w c) (f w) 0) 0) stations) stations) own ∙ ap (λ s. f v + s) (turned ∙ guarded ∙ sym kids)

-- an honest edge may be walked either way
pub neighbours-comm : (g : KeyGraph) (u w : ℕ) → are_neighbours g u w ≡ true → are_neighbours g w u ≡ true
neighbours-comm g u w h =
    let parts = and_parts (has_edge g.edges u w) (not (is_among g.coalition u || is_among g.coalition w)) h in
    and_from (has_edge g.edges w u) (not (is_among g.coalition w || is_among g.coalition u))
    (any_weaker (λ (e : ℕ × ℕ). (nat_eq e.0 u && nat_eq e.1 w) || (nat_eq e.0 w && nat_eq e.1 u)) (λ (e : ℕ × ℕ). (nat_eq e.0 w && nat_eq e.1 u) || (nat_eq e.0 u && nat_eq e.1 w)) g.edges
    (λ e. λ here. or_comm (nat_eq e.0 w && nat_eq e.1 u) (nat_eq e.0 u && nat_eq e.1 w) ∙ here) parts.0)
    (ap not (or_comm (is_among g.coalition w) (is_among g.coalition u)) ∙ parts.1)

-- the stations that some steps reach are the numbers below the count that pass some test
pub reached_as_filter : (g : KeyGraph) (u steps : ℕ) → 0 < steps → (p : ℕ → Bool) × (reached g u steps ≡ filter p (range_with_len 0 g.stations))
unfolding reached
reached_as_filter g u zero some = absurd (omega arith)
reached_as_filter g u (suc steps) some = ((λ w. list_any (λ v. nat_eq v w || are_neighbours g v w) (reached g u steps)), refl)

-- neighbours have the same part
pub part-neighbours : (g : KeyGraph) → IsKeyGraph g → (u w : ℕ) → u < g.stations → w < g.stations → are_neighbours g u w ≡ true → part g u ≡ part g w
part-neighbours g good u w low_u low_w edge =
    let of_u = reached_as_filter g u g.stations (omega arith) in
    let of_w = reached_as_filter g w g.stations (omega arith) in
    let stations = range_with_len 0 g.stations in
    let across = λ (a b : ℕ) (pa : ℕ → Bool) (pb : ℕ → Bool) (is_a : part g a ≡ filter pa stations) (is_b : part g b ≡ filter pb stations) (low_a : a < g.stations) (low_b : b < g.stations)
    (step : are_neighbours g b a ≡ true) (x : ℕ) (there : is_among stations x ≡ true) (h : pa x ≡ true).
    let walk = (joined-walks g good a x low_a).0 (subst (λ (xs : List ℕ). is_among xs x ≡ true) (sym is_a) (passes_kept pa stations x there h)) in
    kept_passes pb stations x (subst (λ (xs : List ℕ). is_among xs x ≡ true) is_b ((joined-walks g good b x low_b).1 (a ∷ walk.0, (step, walk.1)))) in
    of_u.1 ∙ filter-same of_u.0 of_w.0 stations (λ x there. test-same (of_u.0 x) (of_w.0 x)
    (across u w of_u.0 of_w.0 of_u.1 of_w.1 low_u low_w (neighbours-comm g u w edge) x there)
    (across w u of_w.0 of_u.0 of_w.1 of_u.1 low_w low_u edge x there)) ∙ sym of_w.1

-- so many lists of stations
length-spreads : (g : KeyGraph) (from : List ℕ) (more : ℕ) → length (spreads g from more) ≡ more
unfolding spreads
length-spreads g from zero = refl
length-spreads g from (suc more) = ap suc (length-spreads g (one_step_more g from) more)

-- the rank of a station: its distance from the root of its part
unfoldable pub rank_in : KeyGraph → ℕ → ℕ
rank_in g w = lacking (spreads g (root g w ∷ []) g.stations) w

-- a parent is a station one step nearer to the root of the same part
pub parent_nearer : (g : KeyGraph) → IsKeyGraph g → (w u : ℕ) → w < g.stations → parent g w ≡ Some u → (u < g.stations) × (rank_in g u + 1 ≡ rank_in g w)
unfolding rank_in
parent_nearer g good w u low is =
    let near = spreads g (root g w ∷ []) g.stations in
    let found = found_passes (λ u. are_neighbours g u w && (lacking near u + 1 == lacking near w)) (range_with_len 0 g.stations) u is in
    let bound : u < 0 + g.stations = below_range 0 g.stations u found.1 in
    let inside : u < g.stations = omega arith in
    let tests = and_parts (are_neighbours g u w) (lacking near u + 1 == lacking near w) found.0 in
    let same : root g w ≡ root g u = ap (λ xs. slice_index xs 0) (sym (part-neighbours g good u w inside low tests.0)) in
    (inside, subst (λ (r : ℕ). lacking (spreads g (r ∷ []) g.stations) u + 1 ≡ lacking near w) same (eqb-true (lacking near u + 1) (lacking near w) tests.1))

-- the parents of the honest parts fall in rank
falling : (g : KeyGraph) → IsKeyGraph g → (w u : ℕ) → slice_index_or (parents g) w None ≡ Some u → (rank_in g u < rank_in g w) × (u < length (parents g))
falling g good w u is = elim (cases_Bool (nat_lt w g.stations)) [
  | inl within ↦ (let low : w < g.stations = ltb-true w g.stations within in let count = length-map-range_with_len (parent g) 0 g.stations in
      let here : slice_index_or (parents g) w None ≡ parent g w = get_or-map-range_with_len (parent g) 0 g.stations w w None low (omega arith) in
      let nearer = parent_nearer g good w u low (sym here ∙ is) in
      let step = nearer.1 in let inside = nearer.0 in
      (omega arith, omega arith))
  | inr outside ↦ (let high : g.stations ≤ w = ltb-false w g.stations outside in let count = length-map-range_with_len (parent g) 0 g.stations in
      absurd (nothing_found u _ is (get_or-eq_default (parents g) None (omega arith))))
]

-- so they are ranked
pub parents_ranked : (g : KeyGraph) → IsKeyGraph g → AreRanked (parents g) (rank_in g)
unfolding rank_in
parents_ranked g good = record {
  falls = falling g good;
  most = λ w. (let count = length-map-range_with_len (parent g) 0 g.stations in let lists = length-spreads g (root g w ∷ []) g.stations in
      let most = count_by-le-length (λ xs. not (is_among xs w)) (spreads g (root g w ∷ []) g.stations) in omega arith);
}

-- the word below a station minus the words below its children is its own word
pub sums-meet_demands : (g : KeyGraph) → IsKeyGraph g → (demands : List (List ℕ)) (v : ℕ) → v < g.stations → IsWord (slice_index_or demands v zero_word) →
    word_sub (below_sum (parents g) demands v) (word_sum (map (below_sum (parents g) demands) (children (parents g) v))) ≡ slice_index_or demands v zero_word
sums-meet_demands g good demands v low good_word =
    let ps = parents g in
    let symbol = λ (l w : ℕ). slice_index (slice_index_or demands w zero_word) l in
    let below = λ (l c : ℕ). sum_by (symbol l) (stations_below ps c) in
    let count = length-map-range_with_len (parent g) 0 g.stations in
    let each : (l c : ℕ) → l < 16 → slice_index (below_sum ps demands c) l ≡ below l c % 65537 = λ l c inside.
    symbol-word_of (λ k. sum_by (λ w. slice_index w k) (map (λ w. slice_index_or demands w zero_word) (stations_below ps c)) % 65537) l inside
    ∙ ap (λ s. s % 65537) (sum_by-map (λ w. slice_index w l) (λ w. slice_index_or demands w zero_word) (stations_below ps c)) in
    let kids : (l : ℕ) → l < 16 → slice_index (word_sum (map (below_sum ps demands) (children ps v))) l ≡ sum_by (λ c. below l c % 65537) (children ps v) % 65537 = λ l inside.
    symbol-word_of (λ k. sum_by (λ w. slice_index w k) (map (below_sum ps demands) (children ps v)) % 65537) l inside
    ∙ ap (λ s. s % 65537) (sum_by-map (λ w. slice_index w l) (below_sum ps demands) (children ps v) ∙ sum_by-same (λ c. slice_index (below_sum ps demands c) l) (λ c. below l c % 65537)
    (children ps v) (λ c h. each l c inside)) in
    sym (word_from_symbols (λ l. (slice_index (below_sum ps demands v) l + (65537 - slice_index (word_sum (map (below_sum ps demands) (children ps v))) l)) % 65537)
    (slice_index_or demands v zero_word) good_word.sixteen
    (λ l inside.
    let split = below-children ps (rank_in g) (parents_ranked g good) (symbol l) v (omega arith) in
    let here = each l v inside in
    let there = kids l inside in
    let reduced = sum_by-mod (below l) (children ps v) in
    let left = taken_away (symbol l v) (sum_by (below l) (children ps v)) (sum_by (λ c. below l c % 65537) (children ps v)) (good_word.symbols l) reduced in
    sym (ap (λ s. (s + (65537 - slice_index (word_sum (map (below_sum ps demands) (children ps v))) l)) % 65537) (here ∙ ap (λ s. s % 65537) split)
    ∙ ap (λ s. ((symbol l v + sum_by (below l) (children ps v)) % 65537 + (65537 - s)) % 65537) there ∙ left)))
