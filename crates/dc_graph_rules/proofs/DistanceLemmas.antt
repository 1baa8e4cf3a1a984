-- The distance as it is computed is the least number of honest edges of a walk.
use Rattle.std.proofs.Common.{◌≡◌, ℕ, zero, filter, find, map, slice_index, slice_index_or, ◌&&◌, ◌==◌, Some, None, suc, ◌+◌, ◌<◌, ◌≤◌, Bool, true, false, cond, not, ◌||◌, ◌⊎◌, List, [], ◌∷◌, ◌++◌, length, nat_eq, nat_lt, refl, sym, ◌∙◌, ap, subst, inl, inr, arith, eqb-true, eq-eqb, true≢false, zero-le, length-append, ltb-true, ltb-false}
use Rattle.std.proofs.lemmas.List.Sums.{sum_by-cons}
use Rattle.std.proofs.lemmas.List.FromFn.{length-map-range_with_len, get_or-map-range_with_len}
use Rattle.std.specs.Option.{option_map_or}
use Rattle.std.specs.List.{range_with_len}
use Rattle.std.proofs.lemmas.Bool.{and_parts, cases_Bool}
use Rattle.dc_graph_rules.specs.Graphs.{KeyGraph, IsKeyGraph, are_neighbours, IsWalk, AreJoined, one_step_more, reached, part}
use Rattle.dc_spec.specs.Lists.{is_among}
use Rattle.dc_graph_rules.specs.Forests.{IsDistance, spreads, lacking, distance, root, parent, parents, chain, below_sum}
use Rattle.dc_spec.specs.Words.{zero_word, word_sum}
use Rattle.std.proofs.lemmas.Bool.{and_from}
use Rattle.dc_spec.proofs.Booleans.{or_cases, or_first, or_second, test-same}
use Rattle.dc_spec.proofs.ListLemmas.{witness, kept_passes, passes_kept, kept_stands, below_range, from_range, in_range, filter-same, found_passes}
use Rattle.dc_graph_rules.proofs.GraphLemmas.{neighbour_below, walk_on, reached_kept, neighbour_reached, start_reached, joined-walks}
use Rattle.dc_graph_rules.proofs.ForestLemmas.{reached_as_filter, part-neighbours, rank_in, neighbours-comm, parent_nearer, parents_ranked}

-- a walk leads from what some steps reach to what as many more steps reach as it has edges
walk_reached : (g : KeyGraph) → IsKeyGraph g → (u steps v : ℕ) (walk : List ℕ) (w : ℕ) → is_among (reached g u steps) v ≡ true → IsWalk g v walk w → is_among (reached g u (steps + length walk)) w
    ≡ true
unfolding reached
walk_reached g good u steps v [] w h walks = subst (λ (z : ℕ). is_among (reached g u (steps + 0)) z ≡ true) walks (subst (λ (k : ℕ). is_among (reached g u k) v ≡ true) (let same : steps ≡ steps + 0 =
    omega arith in same) h)
walk_reached g good u steps v (x ∷ xs) w h walks = subst (λ (k : ℕ). is_among (reached g u k) w ≡ true) (let same : suc steps + length xs ≡ steps + suc (length xs) = omega arith in same)
    (walk_reached g good u (suc steps) x xs w (neighbour_reached g good (reached g u steps) v x h walks.0) walks.1)

-- what some steps reach is reached by a walk of at most so many edges
reached_walk : (g : KeyGraph) (u steps w : ℕ) → is_among (reached g u steps) w ≡ true → (walk : List ℕ) × IsWalk g u walk w × (length walk ≤ steps)
unfolding reached
reached_walk g u zero w h = elim (or_cases (nat_eq w u) false h) [
  | inl same ↦ ([], sym (eqb-true w u same), omega arith)
  | inr none ↦ absurd (true≢false (sym none))
]
reached_walk g u (suc steps) w h =
    let near = witness (λ v. nat_eq v w || are_neighbours g v w) (reached g u steps) (kept_passes _ (range_with_len 0 g.stations) w h) in
    let before = reached_walk g u steps near.0 near.1 in
    let short = before.2 in
    elim (or_cases (nat_eq near.0 w) (are_neighbours g near.0 w) near.2) [
      | inl same ↦ (before.0, subst (IsWalk g u before.0) (eqb-true near.0 w same) before.1, omega arith)
      | inr edge ↦ (before.0 ++ w ∷ [], walk_on g u before.0 near.0 w before.1 edge, (let more = length-append before.0 (w ∷ []) in omega arith))
    ]

-- where a station is reached, no later list lacks it
pub never_lacking : (g : KeyGraph) (xs : List ℕ) (m w : ℕ) → w < g.stations → is_among xs w ≡ true → lacking (spreads g xs m) w ≡ 0
unfolding spreads
never_lacking g xs zero w low h = refl
never_lacking g xs (suc m) w low h =
    let ih = never_lacking g (one_step_more g xs) m w low (reached_kept g xs w low h) in
    let split = sum_by-cons (λ ys. cond (not (is_among ys w)) 1 0) xs (spreads g (one_step_more g xs) m) in
    let here : cond {A = ℕ} (not (is_among xs w)) 1 0 ≡ 0 = ap (λ b. cond {A = ℕ} (not b) 1 0) h in
    omega arith

-- as many lists lack a station as there are numbers of steps that do not reach it
lacking_counts : (g : KeyGraph) (u m k w : ℕ) → w < g.stations →
    ((i : ℕ) → i < lacking (spreads g (reached g u k) m) w → is_among (reached g u (k + i)) w ≡ false)
    × (lacking (spreads g (reached g u k) m) w < m → is_among (reached g u (k + lacking (spreads g (reached g u k) m) w)) w ≡ true)
    × (lacking (spreads g (reached g u k) m) w ≤ m)
unfolding spreads reached
lacking_counts g u zero k w low = ((λ i less. absurd (omega arith)), (λ less. absurd (omega arith)), omega arith)
lacking_counts g u (suc m) k w low =
    let rest = lacking_counts g u m (suc k) w low in
    let more = lacking (spreads g (reached g u (suc k)) m) w in
    let split : lacking (spreads g (reached g u k) (suc m)) w ≡ cond (not (is_among (reached g u k) w)) 1 0 + more = sum_by-cons (λ ys. cond (not (is_among ys w)) 1 0) (reached g u k)
    (spreads g (one_step_more g (reached g u k)) m) in
    elim (cases_Bool (is_among (reached g u k) w)) [
      | inl there ↦ (let none = never_lacking g (reached g u (suc k)) m w low (reached_kept g (reached g u k) w low there) in
          let all : lacking (spreads g (reached g u k) (suc m)) w ≡ 0 = split ∙ ap (λ b. cond {A = ℕ} (not b) 1 0 + more) there ∙ (let last : 0 + more ≡ 0 = omega arith in last) in (
            (λ i less. absurd (omega arith)),
            (λ less. subst (λ (j : ℕ). is_among (reached g u j) w ≡ true) (let same : k ≡ k + lacking (spreads g (reached g u k) (suc m)) w = omega arith in
                same) there),
            omega arith,
          ))
      | inr missing ↦ (let all : lacking (spreads g (reached g u k) (suc m)) w ≡ 1 + more = split ∙ ap (λ b. cond {A = ℕ} (not b) 1 0 + more) missing in
          let bound = rest.2 in (
            (λ i less. absent i missing rest.0 (omega arith)),
            (λ less. subst (λ (j : ℕ). is_among (reached g u j) w ≡ true) (let same : suc k + more ≡ k + lacking (spreads g (reached g u k) (suc m)) w = omega arith in same) (rest.1 (omega arith))),
            omega arith,
          ))
    ]
  where
    absent : (i : ℕ) → is_among (reached g u k) w ≡ false → ((j : ℕ) → j < lacking (spreads g (reached g u (suc k)) m) w → is_among (reached g u (suc k + j)) w ≡ false)
        → i < 1 + lacking (spreads g (reached g u (suc k)) m) w → is_among (reached g u (k + i)) w ≡ false
    absent zero missing rest less = subst (λ (j : ℕ). is_among (reached g u j) w ≡ false) (let same : k ≡ k + 0 = omega arith in same) missing
    absent (suc i) missing rest less = subst (λ (j : ℕ). is_among (reached g u j) w ≡ false) (let same : suc k + i ≡ k + suc i = omega arith in same) (rest i (omega arith))

-- the distance of joined stations as it is computed is their distance
pub distance-least : (g : KeyGraph) → IsKeyGraph g → (u w : ℕ) → u < g.stations → AreJoined g u w → IsDistance g u w (distance g u w)
unfolding reached
distance-least g good u w low joined =
    let in_part = (joined-walks g good u w low).1 joined in
    let filtered = reached_as_filter g u g.stations (omega arith) in
    let bound : w < 0 + g.stations = below_range 0 g.stations w (kept_stands filtered.0 (range_with_len 0 g.stations) w (subst (λ (xs : List ℕ). is_among xs w ≡ true) filtered.1 in_part)) in
    let counts = lacking_counts g u g.stations 0 w (omega arith) in
    let d = distance g u w in
    let most = counts.2 in
    let there : is_among (reached g u d) w ≡ true = elim (cases_Bool (nat_lt d g.stations)) [
      | inl less ↦ subst (λ (j : ℕ). is_among (reached g u j) w ≡ true) (let same : 0 + d ≡ d = omega arith in same) (counts.1 (ltb-true d g.stations less))
      | inr past ↦ subst (λ (j : ℕ). is_among (reached g u j) w ≡ true) (let high : g.stations ≤ d = ltb-false d g.stations past in let same : g.stations ≡ d = omega arith in same) in_part
    ] in
    let walk = reached_walk g u d w there in
    let least : (other : List ℕ) → IsWalk g u other w → d ≤ length other = λ other walks. elim (cases_Bool (nat_lt (length other) d)) [
      | inl less ↦ absurd (true≢false (sym (subst (λ (j : ℕ). is_among (reached g u j) w ≡ true) (let same : 0 + length other ≡ length other = omega arith in same) (walk_reached g good u 0 u other w
          (start_reached g u 0 low) walks))
          ∙ subst (λ (j : ℕ). is_among (reached g u j) w ≡ false) (let same : 0 + length other ≡ length other = omega arith in same) (counts.0 (length other) (ltb-true (length other) d less))))
      | inr high ↦ ltb-false (length other) d high
    ] in
    let short = walk.2 in
    let long = least walk.0 walk.1 in
    record { walk = walk.0; is_walk = walk.1; count = omega arith; least = least }

-- the first of a list stands in it, where anything does
first_among : (xs : List ℕ) (x : ℕ) → is_among xs x ≡ true → is_among xs (slice_index xs 0) ≡ true
first_among [] x h = absurd (true≢false (sym h))
first_among (y ∷ ys) x h = or_first (nat_eq y y) (is_among ys y) (eq-eqb y y refl)

-- the first number of a range that passes is the least one
first_least : (p : ℕ → Bool) (a n x : ℕ) → is_among (filter p (range_with_len a n)) x ≡ true → slice_index (filter p (range_with_len a n)) 0 ≤ x
first_least p a zero x h = absurd (true≢false (sym h))
first_least p a (suc n) x h = (elim (p a) as (λ b. is_among (cond b (a ∷ filter p (range_with_len (a + 1) n)) (filter p (range_with_len (a + 1) n))) x ≡ true
    → slice_index (cond b (a ∷ filter p (range_with_len (a + 1) n)) (filter p (range_with_len (a + 1) n))) 0 ≤ x) [
      | true ↦ λ there. elim (or_cases (nat_eq x a) (is_among (filter p (range_with_len (a + 1) n)) x) there) [
        | inl same ↦ (let e : x ≡ a = eqb-true x a same in omega arith)
        | inr later ↦ (let low = from_range (a + 1) n x (kept_stands p (range_with_len (a + 1) n) x later) in omega arith)
      ]
      | false ↦ λ there. first_least p (a + 1) n x there
    ]) h

-- the stations of a part are stations
part_below : (g : KeyGraph) (u w : ℕ) → u < g.stations → is_among (part g u) w ≡ true → w < g.stations
part_below g u w low h =
    let filtered = reached_as_filter g u g.stations (omega arith) in
    let bound : w < 0 + g.stations = below_range 0 g.stations w (kept_stands filtered.0 (range_with_len 0 g.stations) w (subst (λ (xs : List ℕ). is_among xs w ≡ true) filtered.1 h)) in
    omega arith

-- the root of a part stands in it, and no station of the part is less
pub root-least : (g : KeyGraph) → IsKeyGraph g → (u w : ℕ) → u < g.stations → AreJoined g u w → AreJoined g u (root g u) × (root g u ≤ w)
root-least g good u w low joined =
    let in_part = (joined-walks g good u w low).1 joined in
    let filtered = reached_as_filter g u g.stations (omega arith) in
    let first = first_least filtered.0 0 g.stations w (subst (λ (xs : List ℕ). is_among xs w ≡ true) filtered.1 in_part) in
    ((joined-walks g good u (root g u) low).0 (first_among (part g u) w in_part), subst (λ (xs : List ℕ). slice_index xs 0 ≤ w) (sym filtered.1) first)

-- joined stations have the same part
pub part-joined : (g : KeyGraph) → IsKeyGraph g → (u : ℕ) (walk : List ℕ) (w : ℕ) → u < g.stations → IsWalk g u walk w → part g u ≡ part g w
part-joined g good u [] w low walks = ap (part g) walks
part-joined g good u (v ∷ vs) w low walks =
    let inside = neighbour_below g good u v walks.0 in
    part-neighbours g good u v low inside walks.0 ∙ part-joined g good v vs w inside walks.1

-- a search finds something where something passes
pub found_by : (p : ℕ → Bool) (xs : List ℕ) (x : ℕ) → is_among xs x ≡ true → p x ≡ true → (y : ℕ) × (find p xs ≡ Some y)
found_by p [] x h passes = absurd (true≢false (sym h))
found_by p (z ∷ zs) x h passes = (elim (p z) as (λ b. p z ≡ b → (y : ℕ) × (cond b (Some z) (find p zs) ≡ Some y)) [
  | true ↦ λ e. (z, refl)
  | false ↦ λ e. elim (or_cases (nat_eq x z) (is_among zs x) h) [
    | inl same ↦ absurd (true≢false (sym (subst (λ (y : ℕ). p y ≡ true) (eqb-true x z same) passes) ∙ e))
    | inr later ↦ found_by p zs x later passes
  ]
]) refl

-- a walk from the root of a part leads to each of its stations
from_root : (g : KeyGraph) → IsKeyGraph g → (w : ℕ) → w < g.stations → (root g w < g.stations) × AreJoined g (root g w) w
from_root g good w low =
    let stands = first_among (part g w) w (start_reached g w g.stations low) in
    let inside = part_below g w (root g w) low stands in
    let walk = (joined-walks g good w (root g w) low).0 stands in
    let same = part-joined g good w walk.0 (root g w) low walk.1 in
    (inside, (joined-walks g good (root g w) w inside).0 (subst (λ (xs : List ℕ). is_among xs w ≡ true) same (start_reached g w g.stations low)))

-- a station at distance 0 from the root is the root
no_distance : (g : KeyGraph) (u w : ℕ) → IsDistance g u w 0 → u ≡ w
no_distance g u w far = at_once far.walk far.is_walk far.count
  where
    at_once : (walk : List ℕ) → IsWalk g u walk w → length walk ≡ 0 → u ≡ w
    at_once [] walks short = walks
    at_once (x ∷ xs) walks short = absurd (omega arith)

-- a station further from the root has a neighbour one step nearer
nearer_neighbour : (g : KeyGraph) → IsKeyGraph g → (r w d : ℕ) → r < g.stations → IsDistance g r w (suc d) → (v : ℕ) × (v < g.stations) × (are_neighbours g v w ≡ true) × (distance g r v ≡ d)
unfolding reached
nearer_neighbour g good r w d low far =
    let length_of = far.count in
    let arrived : is_among (reached g r (suc d)) w ≡ true = subst (λ (j : ℕ). is_among (reached g r j) w ≡ true) (let same : 0 + length far.walk ≡ suc d = omega arith in same)
    (walk_reached g good r 0 r far.walk w (start_reached g r 0 low) far.is_walk) in
    let near = witness (λ v. nat_eq v w || are_neighbours g v w) (reached g r d) (kept_passes _ (range_with_len 0 g.stations) w arrived) in
    let edge : are_neighbours g near.0 w ≡ true = elim (or_cases (nat_eq near.0 w) (are_neighbours g near.0 w) near.2) [
      | inl same ↦ (let sooner = reached_walk g r d w (subst (λ (z : ℕ). is_among (reached g r d) z ≡ true) (eqb-true near.0 w same) near.1) in
          let long = far.least sooner.0 sooner.1 in let short = sooner.2 in absurd (omega arith))
      | inr step ↦ step
    ] in
    let there = reached_walk g r d near.0 near.1 in
    let dv = distance-least g good r near.0 low (there.0, there.1) in
    let most = dv.least there.0 there.1 in
    let bound = there.2 in
    let on = far.least (dv.walk ++ w ∷ []) (walk_on g r dv.walk near.0 w dv.is_walk edge) in
    let more = length-append dv.walk (w ∷ []) in
    let count = dv.count in
    (near.0, neighbour_below g good w near.0 (neighbours-comm g near.0 w edge), edge, omega arith)

-- a station other than the root of its part has a parent
pub has_parent : (g : KeyGraph) → IsKeyGraph g → (w d : ℕ) → w < g.stations → rank_in g w ≡ suc d → (u : ℕ) × (parent g w ≡ Some u)
unfolding rank_in
has_parent g good w d low is =
    let start = from_root g good w low in
    let far : IsDistance g (root g w) w (suc d) = subst (IsDistance g (root g w) w) is (distance-least g good (root g w) w start.0 start.1) in
    let near = nearer_neighbour g good (root g w) w d start.0 far in
    let step : lacking (spreads g (root g w ∷ []) g.stations) near.0 + 1 ≡ lacking (spreads g (root g w ∷ []) g.stations) w = (let at = near.3 in omega arith) in
    found_by (λ u. are_neighbours g u w && (lacking (spreads g (root g w ∷ []) g.stations) u + 1 == lacking (spreads g (root g w ∷ []) g.stations) w)) (range_with_len 0 g.stations) near.0
    (in_range 0 g.stations near.0 zero-le (let inside = near.1 in omega arith)) (and_from _ _ near.2 (eq-eqb _ _ step))

-- a number is 0 or the next one of another
zero_or_next : (n : ℕ) → (n ≡ 0) ⊎ ((d : ℕ) × (n ≡ suc d))
zero_or_next zero = inl refl
zero_or_next (suc d) = inr (d, refl)

-- the parent of a station as it stands in the list of all parents
parent_listed : (g : KeyGraph) (w : ℕ) → w < g.stations → slice_index_or (parents g) w None ≡ parent g w
parent_listed g w low = get_or-map-range_with_len (parent g) 0 g.stations w w None low (omega arith)

-- a parent is a station of the same part
parent_part : (g : KeyGraph) → IsKeyGraph g → (w u : ℕ) → w < g.stations → parent g w ≡ Some u → (u < g.stations) × (part g u ≡ part g w)
parent_part g good w u low is =
    let found = found_passes (λ u. are_neighbours g u w && (lacking (spreads g (root g w ∷ []) g.stations) u + 1 == lacking (spreads g (root g w ∷ []) g.stations) w))
    (range_with_len 0 g.stations) u is in
    let edge = (and_parts (are_neighbours g u w) _ found.0).0 in
    let inside = neighbour_below g good w u (neighbours-comm g u w edge) in
    (inside, part-neighbours g good u w inside low edge)

-- a station of rank 0 is the root of its part
pub at_root : (g : KeyGraph) → IsKeyGraph g → (w : ℕ) → w < g.stations → rank_in g w ≡ 0 → root g w ≡ w
unfolding rank_in
at_root g good w low none =
    let start = from_root g good w low in
    no_distance g (root g w) w (subst (IsDistance g (root g w) w) none (distance-least g good (root g w) w start.0 start.1))

-- the chain of a station reaches the root of its part
chain_to_root : (g : KeyGraph) → IsKeyGraph g → (k w : ℕ) → w < g.stations → rank_in g w ≤ k → is_among (chain (parents g) k w) (root g w) ≡ true
unfolding chain rank_in
chain_to_root g good zero w low fuel = or_first (nat_eq (root g w) w) false (eq-eqb (root g w) w (at_root g good w low (omega arith)))
chain_to_root g good (suc k) w low fuel = elim (zero_or_next (rank_in g w)) [
  | inl none ↦ or_first (nat_eq (root g w) w) _ (eq-eqb (root g w) w (at_root g good w low none))
  | inr some ↦ (let up = has_parent g good w some.0 low some.1 in
      let nearer = parent_nearer g good w up.0 low up.1 in
      let rank = nearer.1 in
      let ih = chain_to_root g good k up.0 nearer.0 (omega arith) in
      let same = parent_part g good w up.0 low up.1 in
      or_second (nat_eq (root g w) w) _ (subst (λ o. is_among (option_map_or (chain (parents g) k) o []) (root g w) ≡ true) (sym (parent_listed g w low ∙ up.1))
      (subst (λ (r : ℕ). is_among (chain (parents g) k up.0) r ≡ true) (ap (λ xs. slice_index xs 0) same.1) ih)))
]

-- the stations of a chain are joined with its first one
pub chain_joined : (g : KeyGraph) → IsKeyGraph g → (k w z : ℕ) → w < g.stations → is_among (chain (parents g) k w) z ≡ true → is_among (part g w) z ≡ true
unfolding chain
chain_joined g good zero w z low h = elim (or_cases (nat_eq z w) false h) [
  | inl same ↦ subst (λ (x : ℕ). is_among (part g w) x ≡ true) (sym (eqb-true z w same)) (start_reached g w g.stations low)
  | inr none ↦ absurd (true≢false (sym none))
]
chain_joined g good (suc k) w z low h = elim (or_cases (nat_eq z w) (is_among (option_map_or (chain (parents g) k) (slice_index_or (parents g) w None) []) z) h) [
  | inl same ↦ subst (λ (x : ℕ). is_among (part g w) x ≡ true) (sym (eqb-true z w same)) (start_reached g w g.stations low)
  | inr later ↦ (elim (parent g w) as (λ o. parent g w ≡ o → is_among (option_map_or (chain (parents g) k) o []) z ≡ true → is_among (part g w) z ≡ true) [
    | None ↦ λ e none. absurd (true≢false (sym none))
    | Some u ↦ λ e there. (let same = parent_part g good w u low e in subst (λ (xs : List ℕ). is_among xs z ≡ true) same.1 (chain_joined g good k u z same.0 there))
  ])
      refl (subst (λ o. is_among (option_map_or (chain (parents g) k) o []) z ≡ true) (parent_listed g w low) later)
]

-- the sum below the root of a part is the sum of the whole part
pub root-sum : (g : KeyGraph) → IsKeyGraph g → (demands : List (List ℕ)) (v : ℕ) → v < g.stations → below_sum (parents g) demands (root g v) ≡ word_sum (map (λ w. slice_index_or demands w zero_word)
    (part g v))
root-sum g good demands v low =
    let filtered = reached_as_filter g v g.stations (omega arith) in
    let count = length-map-range_with_len (parent g) 0 g.stations in
    let start = from_root g good v low in
    let same_r : part g (root g v) ≡ part g v = part-joined g good (root g v) start.1.0 v start.0 start.1.1 in
    let ps = parents g in
    let forth : (w : ℕ) → w < g.stations → is_among (chain ps (length ps) w) (root g v) ≡ true → is_among (part g v) w ≡ true = λ w inside h.
    let walk = (joined-walks g good w (root g v) inside).0 (chain_joined g good (length ps) w (root g v) inside h) in
    subst (λ (xs : List ℕ). is_among xs w ≡ true) (part-joined g good w walk.0 (root g v) inside walk.1 ∙ same_r) (start_reached g w g.stations inside) in
    let back : (w : ℕ) → w < g.stations → is_among (part g v) w ≡ true → is_among (chain ps (length ps) w) (root g v) ≡ true = λ w inside h.
    let walk = (joined-walks g good v w low).0 h in
    subst (λ (r : ℕ). is_among (chain ps (length ps) w) r ≡ true) (ap (λ xs. slice_index xs 0) (sym (part-joined g good v walk.0 w low walk.1)))
    (chain_to_root g good (length ps) w inside ((parents_ranked g good).most w)) in
    let agree = filter-same (λ w. is_among (chain ps (length ps) w) (root g v)) filtered.0 (range_with_len 0 g.stations) (λ w there.
    let bound : w < 0 + g.stations = below_range 0 g.stations w there in
    test-same _ _
    (λ h. kept_passes filtered.0 (range_with_len 0 g.stations) w (subst (λ (xs : List ℕ). is_among xs w ≡ true) filtered.1 (forth w (omega arith) h)))
    (λ h. back w (omega arith) (subst (λ (xs : List ℕ). is_among xs w ≡ true) (sym filtered.1) (passes_kept filtered.0 (range_with_len 0 g.stations) w there h)))) in
    ap (λ xs. word_sum (map (λ w. slice_index_or demands w zero_word) xs)) (ap (λ n. filter (λ w. is_among (chain ps (length ps) w) (root g v)) (range_with_len 0 n)) count ∙ agree ∙ sym filtered.1)
