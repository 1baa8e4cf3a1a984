-- The stations below a station are members where it is one, so words that are zero at members give
-- the sums below the honest stations.
use Rattle.std.proofs.Common.{◌≡◌, ℕ, ◌%◌, ◌+◌, ◌<◌, ◌⊎◌, Bool, true, false, cond, ◌||◌, not, List, [], ◌∷◌, length, slice_index, slice_index_or, refl, sym, ◌∙◌, ap, subst, inl, inr, arith, true≢false}
use Rattle.std.proofs.lemmas.Bool.{and_parts, or_parts}
use Rattle.std.proofs.lemmas.List.FromFn.{length-map-range_with_len}
use Rattle.std.specs.List.{range_with_len}
use Rattle.dc_spec.specs.Lists.{is_among}
use Rattle.dc_spec.specs.Words.{zero_word}
use Rattle.dc_spec.proofs.ListLemmas.{kept_passes, kept_stands, below_range}
use Rattle.dc_spec.proofs.SumLemmas.{sum_by-same, sum_by-zero, sum_by-map}
use Rattle.dc_spec.proofs.WordLemmas.{word_of-same, symbol-word_of}
use Rattle.dc_graph_rules.specs.Graphs.{KeyGraph, IsKeyGraph, has_edge, are_neighbours, IsWalk}
use Rattle.dc_graph_rules.specs.Forests.{parent, parents, chain, stations_below, below_sum}
use Rattle.dc_graph_rules.proofs.GraphLemmas.{joined-walks}
use Rattle.dc_graph_rules.proofs.ForestLemmas.{neighbours-comm}
use Rattle.dc_graph_rules.proofs.DistanceLemmas.{chain_joined}

not_true : (b : Bool) → not b ≡ true → b ≡ false
not_true true h = absurd (true≢false (sym h))
not_true false h = refl

-- an honest edge has no end in the coalition
honest_end : (g : KeyGraph) (u v : ℕ) → are_neighbours g u v ≡ true → is_among g.coalition u ≡ false
honest_end g u v h = (or_parts (is_among g.coalition u) (is_among g.coalition v) (not_true _ (and_parts (has_edge g.edges u v) (not (is_among g.coalition u || is_among g.coalition v)) h).1)).0

-- a walk leads from a member to that member alone
walk_ends : (g : KeyGraph) (u : ℕ) (walk : List ℕ) (w : ℕ) → IsWalk g u walk w → (u ≡ w) ⊎ (is_among g.coalition w ≡ false)
walk_ends g u [] w walks = inl walks
walk_ends g u (v ∷ vs) w walks = elim (walk_ends g v vs w walks.1) [
  | inl same ↦ inr (subst (λ (z : ℕ). is_among g.coalition z ≡ false) same (honest_end g v u (neighbours-comm g u v walks.0)))
  | inr honest ↦ inr honest
]

walk_begins : (g : KeyGraph) (u : ℕ) (walk : List ℕ) (w : ℕ) → IsWalk g u walk w → (u ≡ w) ⊎ (is_among g.coalition u ≡ false)
walk_begins g u [] w walks = inl walks
walk_begins g u (v ∷ vs) w walks = inr (honest_end g u v walks.0)

-- the stations of a chain are members where its first one is
chain_members : (g : KeyGraph) → IsKeyGraph g → (k w v : ℕ) → w < g.stations → is_among (chain (parents g) k w) v ≡ true → is_among g.coalition w ≡ is_among g.coalition v
chain_members g good k w v low there =
    let walk = (joined-walks g good w v low).0 (chain_joined g good k w v low there) in
    elim (walk_begins g w walk.0 v walk.1) [
      | inl same ↦ ap (is_among g.coalition) same
      | inr honest ↦ elim (walk_ends g w walk.0 v walk.1) [
        | inl same ↦ ap (is_among g.coalition) same
        | inr other ↦ honest ∙ sym other
      ]
    ]

-- the word of a station, or the zero word where it is a member
abbrev pub own_of : KeyGraph → List (List ℕ) → ℕ → List ℕ
own_of g demands v = cond (is_among g.coalition v) zero_word (slice_index_or demands v zero_word)

member_choice : {A : Type 0} (b c : Bool) (x y : A) → b ≡ c → cond b x y ≡ cond c x y
member_choice b c x y same = ap (λ d. cond d x y) same

-- the sum of words that are zero at members
pub honest_sums : (g : KeyGraph) → IsKeyGraph g → (demands own : List (List ℕ)) → ((v : ℕ) → v < g.stations → slice_index_or own v zero_word ≡ own_of g demands v) → (v : ℕ) → v < g.stations →
    below_sum (parents g) own v ≡ cond (is_among g.coalition v) zero_word (below_sum (parents g) demands v)
honest_sums g good demands own is v low =
    let ps = parents g in
    let count = length-map-range_with_len (parent g) 0 g.stations in
    let below = stations_below ps v in
    let each : (w : ℕ) → is_among below w ≡ true → slice_index_or own w zero_word ≡ cond (is_among g.coalition v) zero_word (slice_index_or demands w zero_word) = λ w there.
    let bound : w < 0 + length ps = below_range 0 (length ps) w (kept_stands (λ w. is_among (chain ps (length ps) w) v) (range_with_len 0 (length ps)) w there) in
    let inside : w < g.stations = omega arith in
    let meets = kept_passes (λ w. is_among (chain ps (length ps) w) v) (range_with_len 0 (length ps)) w there in
    is w inside ∙ member_choice (is_among g.coalition w) (is_among g.coalition v) zero_word (slice_index_or demands w zero_word) (chain_members g good (length ps) w v inside meets) in
    (elim (is_among g.coalition v) as (λ b. ((w : ℕ) → is_among below w ≡ true → slice_index_or own w zero_word ≡ cond b zero_word (slice_index_or demands w zero_word)) →
    below_sum ps own v ≡ cond b zero_word (below_sum ps demands v)) [
      | true ↦ λ zeros. word_of-same _ _ (λ l inside. ap (λ s. s % 65537) (sum_by-map (λ w. slice_index w l) (λ w. slice_index_or own w zero_word) below
          ∙ sum_by-same (λ w. slice_index (slice_index_or own w zero_word) l) (λ w. 0) below (λ w there. ap (λ x. slice_index x l) (zeros w there) ∙ symbol-word_of (λ k. 0) l inside) ∙ sum_by-zero below))
      | false ↦ λ same. word_of-same _ _ (λ l inside. ap (λ s. s % 65537) (sum_by-map (λ w. slice_index w l) (λ w. slice_index_or own w zero_word) below
          ∙ sum_by-same (λ w. slice_index (slice_index_or own w zero_word) l) (λ w. slice_index (slice_index_or demands w zero_word) l) below (λ w there. ap (λ x. slice_index x l) (same w there))
          ∙ sym (sum_by-map (λ w. slice_index w l) (λ w. slice_index_or demands w zero_word) below)))
    ]) each
