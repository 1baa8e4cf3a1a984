-- The stations that so many steps reach are those that walks lead to.
use Rattle.std.proofs.Common.{◌≡◌, ℕ, zero, suc, ◌+◌, ◌<◌, ◌≤◌, Bool, true, false, cond, ◌&&◌, ◌||◌, ◌⊎◌, ◌↔◌, List, [], ◌∷◌, ◌++◌, nat_eq, IsTrue, refl, sym, subst, inl, inr, arith, eqb-true, eq-eqb, ◌∙◌, true≢false, zero-le, eq-or-lt_of_le, le_of_suc-le-suc}
use Rattle.std.proofs.lemmas.Bool.{and_parts, cases_Bool}
use Rattle.std.proofs.lemmas.List.Folds.{Any-from_list_any}
use Rattle.std.specs.List.{range_with_len}
use Rattle.dc_graph_rules.specs.Graphs.{KeyGraph, IsKeyGraph, has_edge, are_neighbours, IsWalk, AreJoined, one_step_more, reached, part, is_joined}
use Rattle.dc_spec.specs.Lists.{is_among}
use Rattle.dc_spec.proofs.Booleans.{or_cases, or_first, or_second}
use Rattle.dc_spec.proofs.ListLemmas.{witness, any_by, kept_passes, passes_kept, in_range}

-- a walk goes on by one more honest edge
pub walk_on : (g : KeyGraph) (u : ℕ) (walk : List ℕ) (v w : ℕ) → IsWalk g u walk v → IsTrue (are_neighbours g v w) → IsWalk g u (walk ++ w ∷ []) w
walk_on g u [] v w walks edge = (subst (λ (z : ℕ). IsTrue (are_neighbours g z w)) (sym walks) edge, refl)
walk_on g u (x ∷ xs) v w walks edge = (walks.0, walk_on g x xs v w walks.1 edge)

-- the stations that so many steps reach are joined with the first one
pub reached_joined : (g : KeyGraph) (u steps w : ℕ) → is_among (reached g u steps) w ≡ true → AreJoined g u w
unfolding reached
reached_joined g u zero w h = elim (or_cases (nat_eq w u) false h) [
  | inl same ↦ ([], sym (eqb-true w u same))
  | inr none ↦ absurd (true≢false (sym none))
]
reached_joined g u (suc steps) w h =
    let near = witness (λ v. nat_eq v w || are_neighbours g v w) (reached g u steps) (kept_passes _ (range_with_len 0 g.stations) w h) in
    let before = reached_joined g u steps near.0 near.1 in
    elim (or_cases (nat_eq near.0 w) (are_neighbours g near.0 w) near.2) [
      | inl same ↦ subst (AreJoined g u) (eqb-true near.0 w same) before
      | inr edge ↦ (before.0 ++ w ∷ [], walk_on g u before.0 near.0 w before.1 edge)
    ]

-- the ends of an honest edge are stations
pub neighbour_below : (g : KeyGraph) → IsKeyGraph g → (v w : ℕ) → IsTrue (are_neighbours g v w) → w < g.stations
neighbour_below g good v w h =
    let found = Any-from_list_any (λ (e : ℕ × ℕ). (nat_eq e.0 v && nat_eq e.1 w) || (nat_eq e.0 w && nat_eq e.1 v)) g.edges (and_parts (has_edge g.edges v w) _ h).0 in
    let ends : (found.1.0 < found.1.1) × (found.1.1 < g.stations) = subst (λ (e : ℕ × ℕ). (e.0 < e.1) × (e.1 < g.stations)) found.3 (good found.0 found.1 found.2) in
    elim (or_cases (nat_eq found.1.0 v && nat_eq found.1.1 w) (nat_eq found.1.0 w && nat_eq found.1.1 v) found.4) [
      | inl same ↦ (let e : found.1.1 ≡ w = eqb-true found.1.1 w (and_parts (nat_eq found.1.0 v) (nat_eq found.1.1 w) same).1 in omega arith)
      | inr same ↦ (let e : found.1.0 ≡ w = eqb-true found.1.0 w (and_parts (nat_eq found.1.0 w) (nat_eq found.1.1 v) same).0 in omega arith)
    ]

-- no honest edge leads out of these stations
abbrev IsClosed : KeyGraph → List ℕ → Type 0
IsClosed g xs = (v w : ℕ) → is_among xs v ≡ true → IsTrue (are_neighbours g v w) → is_among xs w ≡ true

-- a walk stays where no honest edge leads out
pub walk_stays : (g : KeyGraph) (xs : List ℕ) → IsClosed g xs → (u : ℕ) (walk : List ℕ) (w : ℕ) → is_among xs u ≡ true → IsWalk g u walk w → is_among xs w ≡ true
walk_stays g xs closed u [] w h walks = subst (λ (z : ℕ). is_among xs z ≡ true) walks h
walk_stays g xs closed u (v ∷ vs) w h walks = walk_stays g xs closed v vs w (closed u v h walks.0) walks.1

-- how many numbers below n pass a test
passing : (ℕ → Bool) → ℕ → ℕ
passing p zero = 0
passing p (suc n) = cond (p n) 1 0 + passing p n

-- at most n do
passing_at_most : (p : ℕ → Bool) (n : ℕ) → passing p n ≤ n
unfolding passing
passing_at_most p zero = zero-le
passing_at_most p (suc n) = let ih = passing_at_most p n in (elim (p n) as (λ b. cond b 1 0 + passing p n ≤ suc n) [ true ↦ omega arith | false ↦ omega arith ])

-- one that passes counts
passing_some : (p : ℕ → Bool) (n x : ℕ) → x < n → p x ≡ true → 0 < passing p n
unfolding passing
passing_some p zero x low h = absurd (omega arith)
passing_some p (suc n) x low h = elim (eq-or-lt_of_le (le_of_suc-le-suc low)) [
  | inl same ↦ (let passes : p n ≡ true = subst (λ (z : ℕ). p z ≡ true) same h in rw passes (omega arith))
  | inr less ↦ (let ih = passing_some p n x less h in omega arith)
]

-- where all that pass one test pass another, either the same ones pass both or more pass the second
passing_grows : (p q : ℕ → Bool) (n : ℕ) → ((x : ℕ) → x < n → p x ≡ true → q x ≡ true) → (passing p n ≤ passing q n) × (((x : ℕ) → x < n → q x ≡ true → p x ≡ true) ⊎ (passing p n < passing q n))
unfolding passing
passing_grows p q zero sub = (omega arith, inl (λ x low. absurd (omega arith)))
passing_grows p q (suc n) sub =
    let ih = passing_grows p q n (λ x low. sub x (omega arith)) in
    elim (cases_Bool (p n)) [
      | inl yes_p ↦ (let yes_q : q n ≡ true = sub n (omega arith) yes_p in rw yes_p (rw yes_q (
        omega arith,
        elim ih.1 [
          | inl same ↦ inl (λ x low h. elim (eq-or-lt_of_le (le_of_suc-le-suc low)) [
            | inl last ↦ subst (λ (z : ℕ). p z ≡ true) (sym last) yes_p
            | inr less ↦ same x less h
          ])
          | inr more ↦ inr (omega arith)
        ],
      )))
      | inr no_p ↦ elim (cases_Bool (q n)) [
        | inl yes_q ↦ rw no_p (rw yes_q (let fewer = ih.0 in (omega arith, inr (omega arith))))
        | inr no_q ↦ rw no_p (rw no_q (
          omega arith,
          elim ih.1 [
            | inl same ↦ inl (λ x low h. elim (eq-or-lt_of_le (le_of_suc-le-suc low)) [
              | inl last ↦ absurd (true≢false (sym (subst (λ (z : ℕ). q z ≡ true) last h) ∙ no_q))
              | inr less ↦ same x less h
            ])
            | inr more ↦ inr (omega arith)
          ],
        ))
      ]
    ]

-- one step more keeps the stations that were reached
pub reached_kept : (g : KeyGraph) (xs : List ℕ) (v : ℕ) → v < g.stations → is_among xs v ≡ true → is_among (one_step_more g xs) v ≡ true
reached_kept g xs v low h = passes_kept _ (range_with_len 0 g.stations) v (in_range 0 g.stations v zero-le (omega arith))
    (any_by (λ u. nat_eq u v || are_neighbours g u v) xs v h (or_first (nat_eq v v) (are_neighbours g v v) (eq-eqb v v refl)))

-- it reaches the neighbours too
pub neighbour_reached : (g : KeyGraph) → IsKeyGraph g → (xs : List ℕ) (v w : ℕ) → is_among xs v ≡ true → IsTrue (are_neighbours g v w) → is_among (one_step_more g xs) w ≡ true
neighbour_reached g good xs v w h edge = passes_kept _ (range_with_len 0 g.stations) w (in_range 0 g.stations w zero-le (let low = neighbour_below g good v w edge in omega arith))
    (any_by (λ u. nat_eq u w || are_neighbours g u w) xs v h (or_second (nat_eq v w) (are_neighbours g v w) edge))

-- where a step more reaches only stations that were reached, no honest edge leads out
closed_by_step : (g : KeyGraph) → IsKeyGraph g → (xs : List ℕ) → ((x : ℕ) → x < g.stations → is_among (one_step_more g xs) x ≡ true → is_among xs x ≡ true) → IsClosed g xs
closed_by_step g good xs back v w h edge = back w (neighbour_below g good v w edge) (neighbour_reached g good xs v w h edge)

-- where no honest edge leads out, none does after a step more
closed_stays : (g : KeyGraph) → IsKeyGraph g → (xs : List ℕ) → IsClosed g xs → IsClosed g (one_step_more g xs)
closed_stays g good xs closed v w h edge =
    let near = witness (λ u. nat_eq u v || are_neighbours g u v) xs (kept_passes _ (range_with_len 0 g.stations) v h) in
    let inside : is_among xs v ≡ true = elim (or_cases (nat_eq near.0 v) (are_neighbours g near.0 v) near.2) [
      | inl same ↦ subst (λ (z : ℕ). is_among xs z ≡ true) (eqb-true near.0 v same) near.1
      | inr step ↦ closed near.0 v near.1 step
    ] in
    neighbour_reached g good xs v w inside edge

-- after so many steps more than so many stations are reached, or no honest edge leads out
reached_or_closed : (g : KeyGraph) → IsKeyGraph g → (u : ℕ) → u < g.stations → (steps : ℕ) → IsClosed g (reached g u steps) ⊎ (steps < passing (is_among (reached g u steps)) g.stations)
unfolding reached
reached_or_closed g good u low zero = inr (passing_some (is_among (u ∷ [])) g.stations u low (or_first (nat_eq u u) false (eq-eqb u u refl)))
reached_or_closed g good u low (suc steps) = elim (reached_or_closed g good u low steps) [
  | inl closed ↦ inl (closed_stays g good (reached g u steps) closed)
  | inr many ↦ elim (passing_grows (is_among (reached g u steps)) (is_among (reached g u (suc steps))) g.stations (λ x below. reached_kept g (reached g u steps) x below)).1 [
    | inl same ↦ inl (closed_stays g good (reached g u steps) (closed_by_step g good (reached g u steps) same))
    | inr more ↦ inr (omega arith)
  ]
]

-- the first station is reached by every number of steps
pub start_reached : (g : KeyGraph) (u steps : ℕ) → u < g.stations → is_among (reached g u steps) u ≡ true
unfolding reached
start_reached g u zero low = or_first (nat_eq u u) false (eq-eqb u u refl)
start_reached g u (suc steps) low = reached_kept g (reached g u steps) u low (start_reached g u steps low)

-- no honest edge leads out of a part
part_closed : (g : KeyGraph) → IsKeyGraph g → (u : ℕ) → u < g.stations → IsClosed g (part g u)
part_closed g good u low = elim (reached_or_closed g good u low g.stations) [
  | inl closed ↦ closed
  | inr many ↦ (let most = passing_at_most (is_among (part g u)) g.stations in absurd (omega arith))
]

-- joined as it is computed is joined by a walk
pub joined-walks : (g : KeyGraph) → IsKeyGraph g → (u w : ℕ) → u < g.stations → IsTrue (is_joined g u w) ↔ AreJoined g u w
joined-walks g good u w low = (reached_joined g u g.stations w, λ joined. walk_stays g (part g u) (part_closed g good u low) u joined.0 w (start_reached g u g.stations low) joined.1)
