-- What the premises of the laws of steerings give.
use Rattle.std.proofs.Common.{◌≡◌, ℕ, zero, suc, ◌*◌, ◌/◌, ◌<◌, ◌||◌, not, Bool, true, false, cond, List, [], ◌∷◌, length, filter, get_or, refl, sym, ◌∙◌, ap, subst, inl, inr, arith, zero-le, true≢false}
use Rattle.std.specs.List.{AllPairs, list_any, range_with_len}
use Rattle.std.proofs.lemmas.Bool.{and_parts}
use Rattle.std.proofs.lemmas.List.Folds.{Any-from_list_any}
use Rattle.dc_spec.specs.Lists.{is_among}
use Rattle.dc_spec.specs.Pads.{Pair}
use Rattle.dc_spec.specs.Net.{Net}
use Rattle.dc_spec.proofs.ListLemmas.{passes_kept, in_range}
use Rattle.dc_graph_rules.specs.Graphs.{has_edge}
use Rattle.dc_net_rules.specs.Nets.{IsNet}
use Rattle.dc_net_rules.specs.Runs.{script_turn, IsHonest}
use Rattle.dc_net_rules.proofs.Agreeing.{all_agree}
use Rattle.dc_twin_rules.proofs.TreeEdges.{edge-pair, pairs-apart}
use Rattle.dc_steering_rules.specs.Steerings.{first_difference, has_ends}
use Rattle.dc_steering_rules.specs.Counting.{IsFixedTurn, MaySteer, heard_symbols}
use Rattle.dc_steering_rules.proofs.OwnPair.{ends_are}

-- the premises, with one pair of these ends in place of an edge
pub record Steerable (net : Net) (u v s : ℕ) : Type 0 where
  pub is_net : IsNet net
  pub ends : u < v
  pub honest_smaller : IsHonest net u
  pub honest_larger : IsHonest net v
  pub one_pair : length (filter (has_ends u v) net.keys.pairs) ≡ 1
  pub differ : first_difference (heard_symbols net u) (heard_symbols net v) < 16 * net.words
  pub in_round : first_difference (heard_symbols net u) (heard_symbols net v) / 16 ≡ s
  pub fixed : (t : ℕ) → s < t → t < net.words → IsFixedTurn (script_turn net t)

-- a test that no two items pass
none_passes : {A : Type 0} (p : A → Bool) (x : A) (xs : List A) → p x ≡ true → AllPairs (λ y z. p y ≡ true → p z ≡ true → ⊥) (x ∷ xs) → length (filter p xs) ≡ 0
none_passes p x [] passes apart = refl
none_passes p x (y ∷ ys) passes apart =
    (elim (p y) as (λ b. p y ≡ b → length (cond b (y ∷ filter p ys) (filter p ys)) ≡ 0) [
      | true ↦ λ e. absurd (apart 0 1 x (omega arith) (omega arith) passes e)
      | false ↦ λ e. none_passes p x ys passes (skip x y ys p apart)
    ]) refl
  where
    skip : {A : Type 0} (x y : A) (ys : List A) (p : A → Bool) → AllPairs (λ a b. p a ≡ true → p b ≡ true → ⊥) (x ∷ y ∷ ys) → AllPairs (λ a b. p a ≡ true → p b ≡ true → ⊥) (x ∷ ys)
    skip x y ys p apart zero zero d less within = absurd (omega arith)
    skip x y ys p apart zero (suc j) d less within = apart 0 (suc (suc j)) d (omega arith) (omega arith)
    skip x y ys p apart (suc i) zero d less within = absurd (omega arith)
    skip x y ys p apart (suc i) (suc j) d less within = apart (suc (suc i)) (suc (suc j)) d (omega arith) (omega arith)

-- and that one passes
one_passes : {A : Type 0} (p : A → Bool) (xs : List A) → AllPairs (λ y z. p y ≡ true → p z ≡ true → ⊥) xs → list_any p xs ≡ true → length (filter p xs) ≡ 1
one_passes p [] apart some = absurd (true≢false (sym some))
one_passes p (x ∷ xs) apart some =
    (elim (p x) as (λ b. p x ≡ b → (b || list_any p xs) ≡ true → length (cond b (x ∷ filter p xs) (filter p xs)) ≡ 1) [
      | true ↦ λ e h. (let rest = none_passes p x xs e apart in omega arith)
      | false ↦ λ e h. one_passes p xs (λ i j d less within. apart (suc i) (suc j) d (omega arith) (omega arith)) h
    ]) refl some

-- stations that are no members are honest
honest_if : (net : Net) (i : ℕ) → i < net.stations → is_among net.coalition i ≡ false → IsHonest net i
honest_if net i low none = passes_kept (λ j. not (is_among net.coalition j)) (range_with_len 0 net.stations) i (in_range 0 net.stations i zero-le (omega arith)) (ap not none)

-- a test that an or fails
neither : (b c : Bool) → not (b || c) ≡ true → (b ≡ false) × (c ≡ false)
neither true c h = absurd (true≢false (sym h))
neither false true h = absurd (true≢false (sym h))
neither false false h = (refl, refl)

-- neighbours are honest, and share one pair
pub steerable : (net : Net) (u v s : ℕ) → MaySteer net u v s → Steerable net u v s
steerable net u v s may =
    let is = may.is_net in
    let apart = neither (is_among net.coalition u) (is_among net.coalition v)
    (and_parts (has_edge net.edges u v) (not (is_among net.coalition u || is_among net.coalition v)) may.neighbours).1 in
    let up = may.ends in
    let there : list_any (has_ends u v) net.keys.pairs ≡ true = elim (edge-pair net is u v may.neighbours) [
      | inl here ↦ here.1
      | inr other ↦ (let down = other.0 in absurd (omega arith))
    ] in
    let found = Any-from_list_any (has_ends u v) net.keys.pairs there in
    let ends = ends_are u v found.1 found.4 in
    let within : found.1.v < net.keys.stations = subst (λ (q : Pair). q.v < net.keys.stations) found.3 (is.keys.are_pairs found.0 found.1 found.2).within in
    let low : found.1.v < net.stations = subst (λ (n : ℕ). found.1.v < n) (all_agree net is.agrees).key_stations within in
    let low_v : v < net.stations = subst (λ (a : ℕ). a < net.stations) ends.1 low in
    record {
      is_net = is;
      ends = up;
      honest_smaller = honest_if net u (omega arith) apart.0;
      honest_larger = honest_if net v low_v apart.1;
      one_pair = one_passes (has_ends u v) net.keys.pairs (λ i j d less within a b. (
          let one = ends_are u v (get_or net.keys.pairs i d) a in
          let two = ends_are u v (get_or net.keys.pairs j d) b in
          pairs-apart net.keys is.keys i j d less within (one.0 ∙ sym two.0) (one.1 ∙ sym two.1))) there;
      differ = may.differ;
      in_round = may.in_round;
      fixed = may.fixed;
    }
