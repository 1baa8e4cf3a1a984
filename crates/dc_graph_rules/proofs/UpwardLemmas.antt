-- Sums below the stations, made from the leaves upwards: each station's sum is added to its parent's.
use Rattle.std.proofs.Common.{◌≡◌, ℕ, zero, suc, ◌+◌, ◌%◌, ◌<◌, true, false, cond, List, [], ◌∷◌, take, drop, sum_by, length, slice_index, slice_index_or, nat_eq, slice_set, ◌≢◌, Option, Some, None, refl, sym, ◌∙◌, ap, subst, inl, inr, arith, eqb-true, eq-eqb, true≢false, get_or-set_other, get_or-set_same}
use Rattle.std.proofs.Math.ListN.{length-set}
use Rattle.std.proofs.Math.Nat.{mod-eq_of_lt}
use Rattle.std.proofs.lemmas.Bool.{cases_Bool}
use Rattle.std.proofs.lemmas.List.Sums.{sum_by-cons, sum_by-take-drop, sum_by-drop_more}
use Rattle.std.specs.List.{range_with_len}
use Rattle.std.specs.Option.{option_map_or}
use Rattle.dc_spec.specs.Words.{IsWord, zero_word, word_of, word_add}
use Rattle.dc_spec.proofs.SumLemmas.{sum_by-map, sum_by-filter}
use Rattle.dc_spec.proofs.WordLemmas.{word_of-same, symbol-word_of, word_from_symbols}
use Rattle.dc_graph_rules.specs.Forests.{stations_below, is_parent, children, below_sum}
use Rattle.dc_graph_rules.proofs.ForestLemmas.{AreRanked, below-children}

-- symbol l of the word of a station
abbrev symbol : List (List ℕ) → ℕ → ℕ → ℕ
symbol words l w = slice_index (slice_index_or words w zero_word) l

-- the sum of symbol l below a station
abbrev below : List (Option ℕ) → List (List ℕ) → ℕ → ℕ → ℕ
below ps words l c = sum_by (symbol words l) (stations_below ps c)

-- what the children of a station that stand in a list have below them
abbrev of_children : List (Option ℕ) → List (List ℕ) → ℕ → ℕ → List ℕ → ℕ
of_children ps words l v cs = sum_by (λ c. cond (is_parent ps v c) (below ps words l c) 0) cs

-- the word of a station with the sums below its children from place i of an order on
abbrev pub partial_sum : List (Option ℕ) → List (List ℕ) → List ℕ → ℕ → ℕ → List ℕ
partial_sum ps words order i v = word_of (λ l. (symbol words l v + of_children ps words l v (drop i order)) % 65537)

-- an order of the stations: each once, none before its parent
pub record IsUpward (ps : List (Option ℕ)) (order : List ℕ) : Type 0 where
  pub each_once : (f : ℕ → ℕ) → sum_by f order ≡ sum_by f (range_with_len 0 (length ps))
  pub parent_before : (i j : ℕ) → j < length order → slice_index_or ps (slice_index order j) None ≡ Some (slice_index order i) → i < length order → i < j

-- at the end of the order no child stands
pub begins_upwards : (ps : List (Option ℕ)) (words : List (List ℕ)) (order : List ℕ) (i v : ℕ) → drop i order ≡ [] → IsWord (slice_index_or words v zero_word) →
    slice_index_or words v zero_word ≡ partial_sum ps words order i v
begins_upwards ps words order i v none word = word_from_symbols (λ l. (symbol words l v + of_children ps words l v (drop i order)) % 65537) (slice_index_or words v zero_word) word.sixteen
    (λ l inside.
    let low : symbol words l v < 65537 = word.symbols l in
    let empty : of_children ps words l v (drop i order) ≡ 0 = ap (of_children ps words l v) none in
    sym (ap (λ s. (symbol words l v + s) % 65537) empty ∙ mod-eq_of_lt {n = symbol words l v + 0} {m = 65537} (omega arith) ∙ (let same : symbol words l v + 0 ≡ symbol words l v = omega arith in same)))

-- a front in which nothing counts
front_zero : (f : ℕ → ℕ) (xs : List ℕ) (k : ℕ) → ((j : ℕ) → j < k → j < length xs → f (slice_index xs j) ≡ 0) → sum_by f (take k xs) ≡ 0
front_zero f [] zero none = refl
front_zero f [] (suc k) none = refl
front_zero f (x ∷ xs) zero none = refl
front_zero f (x ∷ xs) (suc k) none =
    let first : f x ≡ 0 = none 0 (omega arith) (omega arith) in
    let rest : sum_by f (take k xs) ≡ 0 = front_zero f xs k (λ j low within. none (suc j) (omega arith) (omega arith)) in
    sum_by-cons f x (take k xs) ∙ (let both : f x + sum_by f (take k xs) ≡ 0 = omega arith in both)

-- after a station no child of it is left out
all_children : (ps : List (Option ℕ)) (words : List (List ℕ)) (order : List ℕ) → IsUpward ps order → (l i v : ℕ) → i < length order → slice_index order i ≡ v →
    of_children ps words l v (drop (i + 1) order) ≡ sum_by (below ps words l) (children ps v)
all_children ps words order up l i v low at =
    let counts : ℕ → ℕ = λ c. cond (is_parent ps v c) (below ps words l c) 0 in
    let split = sum_by-take-drop counts order (i + 1) in
    let front : sum_by counts (take (i + 1) order) ≡ 0 = front_zero counts order (i + 1) (λ j under within. no_child (slice_index order j) (slice_index_or ps (slice_index order j) None) refl
    (λ is. let after = up.parent_before i j within (is ∙ ap Some (sym at)) low in absurd (omega arith))) in
    let whole = up.each_once counts in
    let kept = sum_by-filter (below ps words l) (is_parent ps v) (range_with_len 0 (length ps)) in
    omega arith
  where
    no_child : (c : ℕ) (o : Option ℕ) → slice_index_or ps c None ≡ o → (slice_index_or ps c None ≡ Some v → ⊥) → cond (is_parent ps v c) (below ps words l c) 0 ≡ 0
    no_child c None is never = ap (λ p. cond (option_map_or (nat_eq v) p false) (below ps words l c) 0) is
    no_child c (Some u) is never = elim (cases_Bool (nat_eq v u)) [
      | inl same ↦ absurd (never (is ∙ ap Some (sym (eqb-true v u same))))
      | inr other ↦ ap (λ p. cond (option_map_or (nat_eq v) p false) (below ps words l c) 0) is ∙ ap (λ b. cond {A = ℕ} b (below ps words l c) 0) other
    ]

-- so its word is then the sum below it
pub done_at : (ps : List (Option ℕ)) (rank : ℕ → ℕ) → AreRanked ps rank → (words : List (List ℕ)) (order : List ℕ) → IsUpward ps order → (i v : ℕ) → i < length order → slice_index order i ≡ v → v < length ps →
    partial_sum ps words order (i + 1) v ≡ word_of (λ l. below ps words l v % 65537)
done_at ps rank ranked words order up i v low at within = word_of-same _ _
    (λ l inside. ap (λ s. s % 65537) (ap (λ s. symbol words l v + s) (all_children ps words order up l i v low at) ∙ sym (below-children ps rank ranked (symbol words l) v within)))

-- one station more in the order
more : (ps : List (Option ℕ)) (words : List (List ℕ)) (order : List ℕ) (l i v x : ℕ) → i < length order → slice_index order i ≡ v →
    of_children ps words l x (drop i order) ≡ cond (is_parent ps x v) (below ps words l v) 0 + of_children ps words l x (drop (i + 1) order)
more ps words order l i v x low at =
    sum_by-drop_more (λ c. cond (is_parent ps x c) (below ps words l c) 0) order i 0 low
    ∙ ap (λ c. cond (is_parent ps x c) (below ps words l c) 0 + of_children ps words l x (drop (i + 1) order)) at

-- it changes no sum but its parent's
other_same : (ps : List (Option ℕ)) (words : List (List ℕ)) (order : List ℕ) (i v x : ℕ) → i < length order → slice_index order i ≡ v → is_parent ps x v ≡ false →
    partial_sum ps words order (i + 1) x ≡ partial_sum ps words order i x
other_same ps words order i v x low at none = word_of-same _ _
    (λ l inside. sym (ap (λ s. (symbol words l x + s) % 65537) (more ps words order l i v x low at
    ∙ ap (λ b. cond b (below ps words l v) 0 + of_children ps words l x (drop (i + 1) order)) none
    ∙ (let same : 0 + of_children ps words l x (drop (i + 1) order) ≡ of_children ps words l x (drop (i + 1) order) = omega arith in same))))

-- and the parent's is greater by what is below the station
sum_of_both : (s c b : ℕ) → ((s + c) % 65537 + b % 65537) % 65537 ≡ (s + (b + c)) % 65537
sum_of_both s c b = omega arith

parent_more : (ps : List (Option ℕ)) (words : List (List ℕ)) (order : List ℕ) (i v u : ℕ) → i < length order → slice_index order i ≡ v → is_parent ps u v ≡ true →
    word_add (partial_sum ps words order (i + 1) u) (word_of (λ l. below ps words l v % 65537)) ≡ partial_sum ps words order i u
parent_more ps words order i v u low at is = word_of-same _ _
    (λ l inside. ap (λ s. (s + slice_index (word_of (λ l. below ps words l v % 65537)) l) % 65537) (symbol-word_of (λ l. (symbol words l u + of_children ps words l u (drop (i + 1) order)) % 65537) l inside)
    ∙ ap (λ s. ((symbol words l u + of_children ps words l u (drop (i + 1) order)) % 65537 + s) % 65537) (symbol-word_of (λ l. below ps words l v % 65537) l inside)
    ∙ sum_of_both (symbol words l u) (of_children ps words l u (drop (i + 1) order)) (below ps words l v)
    ∙ sym (ap (λ s. (symbol words l u + s) % 65537) (more ps words order l i v u low at
    ∙ ap (λ b. cond b (below ps words l v) 0 + of_children ps words l u (drop (i + 1) order)) is)))

-- the words are the partial sums from a place of the order on
pub record ArePartial (ps : List (Option ℕ)) (words : List (List ℕ)) (order : List ℕ) (i : ℕ) (sums : List (List ℕ)) : Type 0 where
  pub count : length sums ≡ length ps
  pub partial : (v : ℕ) → v < length ps → slice_index_or sums v zero_word ≡ partial_sum ps words order i v

-- one station more, whose word is added to its parent's
pub upwards_step : (ps : List (Option ℕ)) (rank : ℕ → ℕ) → AreRanked ps rank → (words : List (List ℕ)) (order : List ℕ) → IsUpward ps order → (i v : ℕ) (sums : List (List ℕ)) → i < length order →
    slice_index order i ≡ v → v < length ps → ArePartial ps words order (i + 1) sums →
    ArePartial ps words order i (option_map_or (λ u. slice_set sums u (word_add (slice_index_or sums u zero_word) (slice_index_or sums v zero_word))) (slice_index_or ps v None) sums)
upwards_step ps rank ranked words order up i v sums low at within so_far = step (slice_index_or ps v None) refl
  where
    step : (o : Option ℕ) → slice_index_or ps v None ≡ o → ArePartial ps words order i (option_map_or (λ u. slice_set sums u (word_add (slice_index_or sums u zero_word) (slice_index_or sums v zero_word))) o sums)
    step None is = record {
      count = so_far.count;
      partial = λ x inside. so_far.partial x inside ∙ other_same ps words order i v x low at (ap (λ p. option_map_or (nat_eq x) p false) is);
    }
    step (Some u) is =
        let own : slice_index_or sums v zero_word ≡ word_of (λ l. below ps words l v % 65537) = so_far.partial v within ∙ done_at ps rank ranked words order up i v low at within in
        let is_station = (ranked.falls v u is).1 in
        let count = so_far.count in
        record {
          count = length-set sums u _ ∙ so_far.count;
          partial = λ x inside. elim (cases_Bool (nat_eq x u)) [
            | inl same ↦ (let e : x ≡ u = eqb-true x u same in
                subst (λ (z : ℕ). slice_index_or (slice_set sums u (word_add (slice_index_or sums u zero_word) (slice_index_or sums v zero_word))) z zero_word ≡ partial_sum ps words order i z) (sym e)
                (get_or-set_same sums u _ zero_word (omega arith)
                ∙ ap (λ w. word_add w (slice_index_or sums v zero_word)) (so_far.partial u is_station)
                ∙ ap (λ w. word_add (partial_sum ps words order (i + 1) u) w) own
                ∙ parent_more ps words order i v u low at (ap (λ p. option_map_or (nat_eq u) p false) is ∙ eq-eqb u u refl)))
            | inr other ↦ (let apart : x ≢ u = λ e. true≢false (sym (eq-eqb x u e) ∙ other) in
                get_or-set_other sums u x _ zero_word apart ∙ so_far.partial x inside
                ∙ other_same ps words order i v x low at (ap (λ p. option_map_or (nat_eq x) p false) is ∙ other))
          ];
        }

-- at the front of the order each word is the sum below its station
pub upwards_done : (ps : List (Option ℕ)) (rank : ℕ → ℕ) → AreRanked ps rank → (words : List (List ℕ)) (order : List ℕ) → IsUpward ps order → (sums : List (List ℕ)) → ArePartial ps words order 0 sums →
    (v : ℕ) → v < length ps → slice_index_or sums v zero_word ≡ below_sum ps words v
upwards_done ps rank ranked words order up sums all v within = all.partial v within ∙ word_of-same _ _
    (λ l inside. ap (λ s. s % 65537)
    (ap (λ s. symbol words l v + s) (up.each_once (λ c. cond (is_parent ps v c) (below ps words l c) 0) ∙ sym (sum_by-filter (below ps words l) (is_parent ps v) (range_with_len 0 (length ps))))
    ∙ sym (below-children ps rank ranked (symbol words l) v within)
    ∙ sym (sum_by-map (λ w. slice_index w l) (λ w. slice_index_or words w zero_word) (stations_below ps v))))
