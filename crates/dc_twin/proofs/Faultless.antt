-- There is no fault exactly where there is a twin.
use Rattle.std.proofs.Common.{◌≡◌, ℕ, ◌+◌, ◌<◌, ◌↔◌, ◌==◌, not, ◌||◌, min, Bool, true, false, cond, List, [], ◌∷◌, length, map, find, take, slice_index, nat_eq, nat_lt, Option, Some, None, option_map, refl, sym, ◌∙◌, ap, subst, inl, inr, arith, true≢false, eqb-true, eq-eqb, ltb-true, lt-ltb}
use Rattle.std.specs.Str.{bytes_eq}
use Rattle.std.specs.List.{All, range_with_len, enumerate_from}
use Rattle.std.proofs.lemmas.Bool.{cases_Bool}
use Rattle.std.proofs.lemmas.List.{get_or-take, get_or_default, length-take-le}
use Rattle.std.proofs.lemmas.List.Elements.{All-cons, All-nil, All-head, All-tail}
use Rattle.std.proofs.lemmas.Slice.Eq.{bytes_eq-Decides}
use Rattle.dc_spec.specs.Lists.{is_among}
use Rattle.dc_spec.specs.Net.{Net}
use Rattle.dc_spec.proofs.Booleans.{or_cases}
use Rattle.dc_spec.proofs.GroupLemmas.{find-none, finds-none}
use Rattle.dc_spec.proofs.Options.{map-none}
use Rattle.dc_graph_rules.specs.Graphs.{IsKeyGraph, key_graph, is_joined}
use Rattle.dc_graph_rules.proofs.GraphLemmas.{joined-walks}
use Rattle.dc_net_rules.specs.Runs.{Round, word_of_station, honest_stations, all_rounds, IsAlikeIn, IsAlike}
use Rattle.dc_net_rules.specs.Agreement.{first_of, first_by}
use Rattle.dc_twin_rules.specs.Twins.{IsPermutationOf, Admits}
use Rattle.dc_twin_rules.proofs.Admitting.{stands, place_in}
use Rattle.dc_twin.specs.declared.fault.TwinFault.{TwinFault}
use Rattle.dc_twin.specs.declared.fault.TwinFault.TheVariants.{PermCount, Perm, NotJoined, NotAlike}
use Rattle.dc_twin.specs.Faults.{most_counted, count_fault, is_bad_place, place_fault, joined_fault, first_unlike, round_fault, alike_fault, twin_fault}

-- ---- the first of some answers

pub first_none : {A : Type 0} (o : Option A) (rest : List (Option A)) → first_of (o ∷ rest) ≡ None → (o ≡ None) × (first_of rest ≡ None)
first_none None rest h = (refl, h)
first_none (Some x) rest h = let clash : ⊥ = cc in absurd clash

pub none_first : {A : Type 0} (o : Option A) (rest : List (Option A)) → o ≡ None → first_of rest ≡ None → first_of (o ∷ rest) ≡ None
none_first o rest none more = rw none more

map_of_none : {A B : Type 0} (f : A → B) (o : Option A) → o ≡ None → option_map f o ≡ None
map_of_none f o none = ap (option_map f) none

test_holds : (b : Bool) (f : TwinFault) → cond b None (Some f) ≡ None → b ≡ true
test_holds true f h = refl
test_holds false f h = let clash : ⊥ = cc in absurd clash

both_fail : (b c : Bool) → (b || c) ≡ false → (b ≡ false) × (c ≡ false)
both_fail false c h = (refl, h)
both_fail true c h = absurd (true≢false h)

neither : (b c : Bool) → b ≡ false → c ≡ false → (b || c) ≡ false
neither b c e f = rw e f

undone : (b : Bool) → not b ≡ false → b ≡ true
undone true h = refl
undone false h = absurd (true≢false h)

at_zero : (k : ℕ) → 0 + k ≡ k
at_zero k = omega arith

-- ---- a permutation

places_good : (n : ℕ) (p : List ℕ) → length p ≡ n → place_fault n p ≡ None → (k : ℕ) → k < n → (nat_lt (slice_index p k) n ≡ true) × (is_among (take k p) (slice_index p k) ≡ false)
places_good n p count none k low =
    let at : is_bad_place n p k ≡ false = subst (λ (z : ℕ). is_bad_place n p z ≡ false) (at_zero k)
    (find-none (is_bad_place n p) 0 n k (map-none Perm (find (is_bad_place n p) (range_with_len 0 n)) none) low) in
    let both = both_fail (not (nat_lt (slice_index p k) n)) (is_among (take k p) (slice_index p k)) at in
    (undone _ both.0, both.1)

-- an item before a place stands before it
before : (p : List ℕ) (i k : ℕ) → i < k → k < length p → is_among (take k p) (slice_index p i) ≡ true
before p i k less low =
    let size : length (take k p) ≡ k = length-take-le k p (omega arith) in
    subst (λ (z : ℕ). is_among (take k p) z ≡ true) (get_or-take k p i 0 less) (stands (take k p) i 0 (omega arith))

pub permutes : (n : ℕ) (p : List ℕ) → length p ≡ n → place_fault n p ≡ None → IsPermutationOf n p
permutes n p count none = record {
  count = count;
  stations = λ k d low. subst (λ (z : ℕ). z < n) (get_or_default p k 0 d low) (ltb-true (slice_index p k) n (places_good n p count none k (omega arith)).0);
  distinct = λ i k d less low same.
      (let equal : slice_index p i ≡ slice_index p k = get_or_default p i 0 d (omega arith) ∙ same ∙ sym (get_or_default p k 0 d low) in
      true≢false (sym (subst (λ (z : ℕ). is_among (take k p) z ≡ true) equal (before p i k less low)) ∙ (places_good n p count none k (omega arith)).1));
}

-- and back
no_bad_place : (n : ℕ) (p : List ℕ) → IsPermutationOf n p → place_fault n p ≡ None
no_bad_place n p is =
    let count = is.count in
    let good : (k : ℕ) → k < n → is_bad_place n p k ≡ false = λ k low.
    neither (not (nat_lt (slice_index p k) n)) (is_among (take k p) (slice_index p k)) (ap not (lt-ltb (slice_index p k) n (is.stations k 0 (omega arith))))
    (elim (cases_Bool (is_among (take k p) (slice_index p k))) [
      | inl there ↦ absurd (let at = place_in (take k p) (slice_index p k) there in let size : length (take k p) ≡ k = length-take-le k p (omega arith) in let within = at.1 in
          is.distinct at.0 k 0 (omega arith) (omega arith) (sym (get_or-take k p at.0 0 (omega arith)) ∙ at.2))
      | inr away ↦ away
    ]) in
    map_of_none Perm (find (is_bad_place n p) (range_with_len 0 n))
    (finds-none (is_bad_place n p) 0 n (λ k low. subst (λ (z : ℕ). is_bad_place n p z ≡ false) (sym (at_zero k)) (good k low)))

-- ---- joined images

all_joined : (net : Net) (p : List ℕ) → joined_fault net p ≡ None → (i : ℕ) → i < net.stations → is_joined (key_graph net) i (slice_index p i) ≡ true
all_joined net p none i low =
    let T : ℕ → Bool = λ j. not (is_joined (key_graph net) j (slice_index p j)) in
    undone _ (subst (λ (z : ℕ). T z ≡ false) (at_zero i) (find-none T 0 net.stations i (map-none (λ j. NotJoined j (slice_index p j)) (find T (range_with_len 0 net.stations)) none) low))

none_apart : (net : Net) (p : List ℕ) → ((i : ℕ) → i < net.stations → is_joined (key_graph net) i (slice_index p i) ≡ true) → joined_fault net p ≡ None
none_apart net p joined =
    let T : ℕ → Bool = λ j. not (is_joined (key_graph net) j (slice_index p j)) in
    map_of_none (λ j. NotJoined j (slice_index p j)) (find T (range_with_len 0 net.stations))
    (finds-none T 0 net.stations (λ i low. subst (λ (z : ℕ). T z ≡ false) (sym (at_zero i)) (ap not (joined i low))))

-- ---- rounds

found_none : (T : ℕ → Bool) (xs : List ℕ) → find T xs ≡ None → (x : ℕ) → is_among xs x ≡ true → T x ≡ false
found_none T [] none x there = absurd (true≢false (sym there))
found_none T (y ∷ ys) none x there = (elim (T y) as (λ b. T y ≡ b → cond b (Some y) (find T ys) ≡ None → T x ≡ false) [
  | true ↦ λ e h. (let clash : ⊥ = cc in absurd clash)
  | false ↦ λ e h. elim (or_cases (nat_eq x y) (is_among ys x) there) [
    | inl same ↦ ap T (eqb-true x y same) ∙ e
    | inr later ↦ found_none T ys h x later
  ]
]) refl none

none_finds : (T : ℕ → Bool) (xs : List ℕ) → ((x : ℕ) → is_among xs x ≡ true → T x ≡ false) → find T xs ≡ None
none_finds T [] fails = refl
none_finds T (y ∷ ys) fails =
    let here : T y ≡ false = fails y (let e = eq-eqb y y refl in ap (λ (b : Bool). b || is_among ys y) e) in
    let rest = none_finds T ys (λ x there. fails x (later (nat_eq x y) (is_among ys x) there)) in
    rw here rest
  where
    later : (b c : Bool) → c ≡ true → (b || c) ≡ true
    later true c h = refl
    later false c h = h

one_word : (word : ℕ → List ℕ) (xs : List ℕ) → first_unlike word xs ≡ None → (i j : ℕ) → is_among xs i ≡ true → is_among xs j ≡ true → word i ≡ word j
one_word word [] none i j there_i there_j = absurd (true≢false (sym there_i))
one_word word (x ∷ xs) none i j there_i there_j =
    let T : ℕ → Bool = λ y. not (bytes_eq (word x) (word y)) in
    let unfound : find T xs ≡ None = map-none (λ y. (x, y)) (find T xs) none in
    let as_first : (y : ℕ) → is_among (x ∷ xs) y ≡ true → word x ≡ word y = λ y there. elim (or_cases (nat_eq y x) (is_among xs y) there) [
      | inl same ↦ ap word (sym (eqb-true y x same))
      | inr later ↦ (bytes_eq-Decides (word x) (word y)).0 (undone _ (found_none T xs unfound y later))
    ] in
    sym (as_first i there_i) ∙ as_first j there_j

all_one : (word : ℕ → List ℕ) (xs : List ℕ) → ((i j : ℕ) → is_among xs i ≡ true → is_among xs j ≡ true → word i ≡ word j) → first_unlike word xs ≡ None
all_one word [] same = refl
all_one word (x ∷ xs) same =
    let T : ℕ → Bool = λ y. not (bytes_eq (word x) (word y)) in
    let here : is_among (x ∷ xs) x ≡ true = ap (λ (b : Bool). b || is_among xs x) (eq-eqb x x refl) in
    map_of_none (λ y. (x, y)) (find T xs) (none_finds T xs (λ y there. ap not ((bytes_eq-Decides (word x) (word y)).1 (same x y here (later (nat_eq y x) (is_among xs y) there)))))
  where
    later : (b c : Bool) → c ≡ true → (b || c) ≡ true
    later true c h = refl
    later false c h = h

rounds_alike : (net : Net) (a : ℕ) (rounds : List Round) → first_by (round_fault net) (enumerate_from a rounds) ≡ None → All (IsAlikeIn net) rounds
rounds_alike net a [] none = All-nil (IsAlikeIn net)
rounds_alike net a (round ∷ rounds) none =
    let both = first_none (round_fault net (a, round)) (map (round_fault net) (enumerate_from (a + 1) rounds)) none in
    let unfound = map-none (λ (e : ℕ × ℕ). NotAlike a e.0 e.1) (first_unlike (word_of_station round.received) (honest_stations net)) both.0 in
    All-cons (IsAlikeIn net) round rounds (one_word (word_of_station round.received) (honest_stations net) unfound) (rounds_alike net (a + 1) rounds both.1)

no_round : (net : Net) (a : ℕ) (rounds : List Round) → All (IsAlikeIn net) rounds → first_by (round_fault net) (enumerate_from a rounds) ≡ None
no_round net a [] alike = refl
no_round net a (round ∷ rounds) alike =
    none_first (round_fault net (a, round)) (map (round_fault net) (enumerate_from (a + 1) rounds))
    (map_of_none (λ (e : ℕ × ℕ). NotAlike a e.0 e.1) (first_unlike (word_of_station round.received) (honest_stations net))
    (all_one (word_of_station round.received) (honest_stations net) (All-head (IsAlikeIn net) round rounds alike)))
    (no_round net (a + 1) rounds (All-tail (IsAlikeIn net) round rounds alike))

-- ---- all tests

pub counted : (n : ℕ) (p : List ℕ) → count_fault n p ≡ None → length p ≡ n
counted n p none = eqb-true (length p) n (test_holds (length p == n) (PermCount (min (length p) most_counted) n) none)

uncounted : (n : ℕ) (p : List ℕ) → length p ≡ n → count_fault n p ≡ None
uncounted n p same = ap (λ (b : Bool). cond b None (Some (PermCount (min (length p) most_counted) n))) (eq-eqb (length p) n same)

pub faultless : (net : Net) (p : List ℕ) → IsKeyGraph (key_graph net) → twin_fault net p ≡ None ↔ Admits net p × IsAlike net
unfolding twin_fault
faultless net p good =
    let n = net.stations in (
      λ none. (let a = first_none (count_fault n p) (place_fault n p ∷ joined_fault net p ∷ alike_fault net ∷ []) none in
          let b = first_none (place_fault n p) (joined_fault net p ∷ alike_fault net ∷ []) a.1 in
          let c = first_none (joined_fault net p) (alike_fault net ∷ []) b.1 in
          let d = first_none (alike_fault net) [] c.1 in (
            record {
              permutation = permutes n p (counted n p a.0) b.0;
              joined = λ i low. (joined-walks (key_graph net) good i (slice_index p i) low).0 (all_joined net p c.0 i low);
            },
            rounds_alike net 0 (all_rounds net) d.0,
          )),
      λ is. none_first (count_fault n p) (place_fault n p ∷ joined_fault net p ∷ alike_fault net ∷ []) (uncounted n p is.0.permutation.count)
          (none_first (place_fault n p) (joined_fault net p ∷ alike_fault net ∷ []) (no_bad_place n p is.0.permutation)
          (none_first (joined_fault net p) (alike_fault net ∷ [])
          (none_apart net p (λ i low. (joined-walks (key_graph net) good i (slice_index p i) low).1 (is.0.joined i low)))
          (none_first (alike_fault net) [] (no_round net 0 (all_rounds net) is.1) refl))),
    )
