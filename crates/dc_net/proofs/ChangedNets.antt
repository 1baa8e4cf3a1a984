-- The parts of a changed net agree.
use Rattle.std.proofs.Common.{◌≡◌, ℕ, zero, suc, ◌+◌, ◌<◌, ◌≤◌, ◌≢◌, ◌==◌, ◌&&◌, ◌||◌, not, if◌then◌else◌, Bool, true, false, cond, List, [], ◌∷◌, length, map, find, get_or, option_map, slice_index, slice_index_or, Option, Some, None, refl, sym, ◌∙◌, ap, subst, inl, inr, arith, nat_eq, nat_lt, eqb-true, eq-eqb, ltb-true, ltb-false, true≢false}
use Rattle.std.specs.List.{AllPairs, range_with_len, list_any, enumerate_from}
use Rattle.std.specs.Option.{is_some}
use Rattle.std.proofs.lemmas.Bool.{cases_Bool}
use Rattle.std.proofs.lemmas.Bool.Decides.{Decides-eqb}
use Rattle.std.proofs.lemmas.List.Kept.{AllPairs-cons}
use Rattle.std.proofs.lemmas.Map.Made.{IsDistinct-from_AllPairs}
use Rattle.std.proofs.lemmas.Map.Steps.{length-le_from_distinct_below}
use Rattle.dc_spec.specs.Lists.{is_among}
use Rattle.dc_spec.specs.Entries.{Stream}
use Rattle.dc_spec.specs.Pads.{Pair, Keys}
use Rattle.dc_spec.specs.Scripts.{Script}
use Rattle.dc_spec.specs.Net.{Net}
use Rattle.dc_graph.specs.Graph.{PlainGraph}
use Rattle.dc_spec.proofs.Booleans.{or_cases, or_first, or_second}
use Rattle.dc_net_rules.specs.Agreement.{Disagreement, key_stations, key_words, key_missing, key_stray, script_rounds, missing_key, stray_key, stream_fault, stream_stray, stream_missing, station_fault, delivery_fault, rule_fault, first_of, first_by}
use Rattle.dc_net_rules.proofs.Agreeing.{has_stream}
use Rattle.dc_net.specs.Checked.{IsChecked}
use Rattle.dc_net.specs.Changed.{ends_of, AreForSamePairs, PermutesHonest, AreMoved}

-- ---- places in a permutation

-- an item of a list stands in it
stands : (xs : List ℕ) (k d : ℕ) → k < length xs → is_among xs (get_or xs k d) ≡ true
stands [] k d low = absurd (omega arith)
stands (x ∷ xs) zero d low = or_first (nat_eq x x) (is_among xs x) (eq-eqb x x refl)
stands (x ∷ xs) (suc k) d low = or_second (nat_eq (get_or xs k d) x) (is_among xs (get_or xs k d)) (stands xs k d (omega arith))

-- and what stands in it has a place
place_in : (xs : List ℕ) (x : ℕ) → is_among xs x ≡ true → (k : ℕ) × (k < length xs) × (get_or xs k 0 ≡ x)
place_in [] x there = absurd (true≢false (sym there))
place_in (y ∷ ys) x there = elim (or_cases (nat_eq x y) (is_among ys x) there) [
  | inl same ↦ (zero, (omega arith), sym (eqb-true x y same))
  | inr later ↦ (let at = place_in ys x later in (suc at.0, (omega (arith, at.1)), at.2))
]

-- each station is the image of one
pub origin_of : (net : Net) (p : List ℕ) → PermutesHonest net p → (w : ℕ) → w < net.stations → (k : ℕ) × (k < net.stations) × (slice_index p k ≡ w)
origin_of net p is w low = elim (cases_Bool (is_among p w)) [
  | inl there ↦ (let at = place_in p w there in let within = at.1 in let count = is.count in (at.0, (omega arith), at.2))
  | inr gone ↦ (
      let n = net.stations in
      let apart = IsDistinct-from_AllPairs Decides-eqb (w ∷ p) (AllPairs-cons (λ (x y : ℕ). x ≢ y) w p
      (λ k d within same. true≢false (sym (subst (λ (z : ℕ). is_among p z ≡ true) (sym same) (stands p k d within)) ∙ gone)) is.distinct) in
      let image_below : (x : ℕ) → is_among p x ≡ true → x < n = λ x there. (let at = place_in p x there in subst (λ (y : ℕ). y < n) at.2 (is.are_stations at.0 0 at.1)) in
      let below : (q : ℕ) → is_among (w ∷ p) q ≡ true → q < n = λ q there. elim (or_cases (nat_eq q w) (is_among p q) there) [
        | inl same ↦ subst (λ (z : ℕ). z < n) (sym (eqb-true q w same)) low
        | inr later ↦ image_below q later
      ] in
      let most : suc (length p) ≤ n = length-le_from_distinct_below (w ∷ p) n apart below in
      let count = is.count in
      absurd (omega arith))
]

-- two places with one image are one place
same_place : (p : List ℕ) → AllPairs (λ i j. i ≢ j) p → (a b : ℕ) → a < length p → b < length p → slice_index p a ≡ slice_index p b → a ≡ b
same_place p apart a b low_a low_b same = elim (cases_Bool (nat_lt a b)) [
  | inl less ↦ absurd (apart a b 0 (ltb-true a b less) low_b same)
  | inr more ↦ elim (cases_Bool (nat_lt b a)) [
    | inl less ↦ absurd (apart b a 0 (ltb-true b a less) low_a (sym same))
    | inr other ↦ (let e = ltb-false a b more in let f = ltb-false b a other in omega arith)
  ]
]

-- a member stays in its place
pub in_place : (net : Net) (p : List ℕ) → PermutesHonest net p → (m : ℕ) → is_among net.coalition m ≡ true → slice_index p m ≡ m
in_place net p is m there = let at = place_in net.coalition m there in subst (λ (z : ℕ). slice_index p z ≡ z) at.2 (is.members at.0 0 at.1)

-- a station whose image is a member is that member
only_member : (net : Net) (p : List ℕ) → PermutesHonest net p → (k : ℕ) → k < net.stations → is_among net.coalition (slice_index p k) ≡ true → slice_index p k ≡ k
only_member net p is k low image =
    let count = is.count in
    same_place p is.distinct (slice_index p k) k (let below = is.are_stations k 0 (omega arith) in omega arith) (omega arith) (in_place net p is (slice_index p k) image)

-- so the image of a station is a member exactly where the station is one
pub member_kept : (net : Net) (p : List ℕ) → PermutesHonest net p → (k : ℕ) → k < net.stations → is_among net.coalition (slice_index p k) ≡ is_among net.coalition k
member_kept net p is k low = elim (cases_Bool (is_among net.coalition (slice_index p k))) [
  | inl image ↦ ap (is_among net.coalition) (only_member net p is k low image)
  | inr honest ↦ (elim (cases_Bool (is_among net.coalition k)) [
    | inl member ↦ ap (is_among net.coalition) (in_place net p is k member)
    | inr other ↦ honest ∙ sym other
  ])
]

-- ---- the tests

-- a test of a pair that looks at its ends alone
any_by_ends : (T : ℕ × ℕ → Bool) (xs : List Pair) → list_any (λ q. T (q.u, q.v)) xs ≡ list_any T (map (λ q. (q.u, q.v)) xs)
any_by_ends T [] = refl
any_by_ends T (x ∷ xs) = ap (λ (b : Bool). T (x.u, x.v) || b) (any_by_ends T xs)

find_by_ends : (T : ℕ × ℕ → Bool) (K : ℕ × ℕ → Disagreement) (xs : List Pair)
    → option_map (λ q. K (q.u, q.v)) (find (λ q. T (q.u, q.v)) xs) ≡ option_map K (find T (map (λ q. (q.u, q.v)) xs))
find_by_ends T K [] = refl
find_by_ends T K (x ∷ xs) = by_case (T (x.u, x.v)) (find_by_ends T K xs)
  where
    by_case : (b : Bool) → option_map (λ q. K (q.u, q.v)) (find (λ q. T (q.u, q.v)) xs) ≡ option_map K (find T (map (λ q. (q.u, q.v)) xs))
        → option_map (λ q. K (q.u, q.v)) (cond b (Some x) (find (λ q. T (q.u, q.v)) xs)) ≡ option_map K (cond b (Some (x.u, x.v)) (find T (map (λ q. (q.u, q.v)) xs)))
    by_case true rest = refl
    by_case false rest = rest

-- the ends of the pairs decide whether an edge lacks a pair
missing_by_ends : (net : Net) (keys : Keys) → ends_of keys.pairs ≡ ends_of net.keys.pairs → missing_key (record net { keys = keys }) ≡ missing_key net
missing_by_ends net keys same =
    let T : ℕ × ℕ → ℕ × ℕ → Bool = λ e f. (f.0 == e.0) && (f.1 == e.1) in
    let has : (e : ℕ × ℕ) → list_any (λ q. (q.u == e.0) && (q.v == e.1)) keys.pairs ≡ list_any (λ q. (q.u == e.0) && (q.v == e.1)) net.keys.pairs = λ e.
    any_by_ends (T e) keys.pairs ∙ ap (λ (es : List (ℕ × ℕ)). list_any (T e) es) same ∙ sym (any_by_ends (T e) net.keys.pairs) in
    λ i. option_map (λ (e : ℕ × ℕ). key_missing e.0 e.1) (find (λ (e : ℕ × ℕ). not (has e i)) net.edges)

-- and whether a pair is no edge
stray_by_ends : (net : Net) (keys : Keys) → ends_of keys.pairs ≡ ends_of net.keys.pairs → stray_key (record net { keys = keys }) ≡ stray_key net
stray_by_ends net keys same =
    let T : ℕ × ℕ → Bool = λ f. not (list_any (λ (e : ℕ × ℕ). (e.0 == f.0) && (e.1 == f.1)) net.edges) in
    let K : ℕ × ℕ → Disagreement = λ f. key_stray f.0 f.1 in
    find_by_ends T K keys.pairs ∙ ap (λ (es : List (ℕ × ℕ)). option_map K (find T es)) same ∙ sym (find_by_ends T K net.keys.pairs)

-- a station has a stream where it had one
stream_kept : (net : Net) (p : List ℕ) (streams : List (Option Stream)) → IsChecked net → PermutesHonest net p → AreMoved net.streams p streams
    → (w : ℕ) → w < net.stations → is_some (slice_index_or streams w None) ≡ is_some (slice_index_or net.streams w None)
stream_kept net p streams checked is moved w low =
    let at = origin_of net p is w low in
    let below = at.1 in
    let count = checked.streams in
    let has : is_some (slice_index_or streams (slice_index p at.0) None) ≡ is_some (slice_index_or net.streams at.0 None) =
    ap (λ (place : Option Stream). is_some place) (moved.each at.0 (omega arith)) in
    let image : is_some (slice_index_or streams w None) ≡ is_some (slice_index_or net.streams at.0 None) =
    subst (λ (z : ℕ). is_some (slice_index_or streams z None) ≡ is_some (slice_index_or net.streams at.0 None)) at.2 has in
    let member : is_among net.coalition w ≡ is_among net.coalition at.0 = ap (is_among net.coalition) (sym at.2) ∙ member_kept net p is at.0 below in
    image ∙ has_stream net checked.agrees at.0 below ∙ ap not (sym member) ∙ sym (has_stream net checked.agrees w low)

all_range : {A : Type 0} (f g : ℕ → A) (a n : ℕ) → ((w : ℕ) → w < a + n → f w ≡ g w) → map f (range_with_len a n) ≡ map g (range_with_len a n)
all_range f g a zero same = refl
all_range f g a (suc n) same =
    let here : f a ≡ g a = same a (omega arith) in
    let rest = all_range f g (a + 1) n (λ w low. same w (omega arith)) in cc

streams_kept : (net : Net) (p : List ℕ) (keys : Keys) (streams : List (Option Stream)) → IsChecked net → PermutesHonest net p → AreMoved net.streams p streams
    → first_by (stream_fault (record net { keys = keys; streams = streams })) (range_with_len 0 net.stations) ≡ first_by (stream_fault net) (range_with_len 0 net.stations)
streams_kept net p keys streams checked is moved = ap (λ (os : List (Option Disagreement)). first_of os)
    (all_range (stream_fault (record net { keys = keys; streams = streams })) (stream_fault net) 0 net.stations (λ i low.
    ap (λ (there : Bool). if is_among net.coalition i then (if there then Some (stream_stray i) else None) else (if there then None else Some (stream_missing i)))
    (stream_kept net p streams checked is moved i (omega arith))))

-- the tests of a net's parts, from those that could differ in a changed net
tests : Net → ℕ → ℕ → Option Disagreement → Option Disagreement → Option Disagreement → Option Disagreement
tests net stations words missing stray streams =
    let turns = enumerate_from 0 net.script.rounds in
    first_of (
    (if stations == net.stations then None else Some (key_stations stations net.stations))
    ∷ (if words == net.words then None else Some (key_words words net.words))
    ∷ missing
    ∷ stray
    ∷ streams
    ∷ (if length net.script.rounds == net.words then None else Some (script_rounds (length net.script.rounds) net.words))
    ∷ first_by (station_fault net) turns
    ∷ first_by (delivery_fault net) turns
    ∷ first_by (rule_fault net) turns
    ∷ [])

-- the parts of a net with keys of the same pairs and with moved streams agree
pub changed_checked : (net : Net) (p : List ℕ) (keys : Keys) (streams : List (Option Stream)) → IsChecked net → AreForSamePairs keys net.keys → PermutesHonest net p
    → AreMoved net.streams p streams → IsChecked (record net { keys = keys; streams = streams })
unfolding tests
changed_checked net p keys streams checked same is moved = record {
  agrees = (λ i. tests net (same.stations i) (same.words i) (missing_by_ends net keys same.ends i) (stray_by_ends net keys same.ends i)
      (streams_kept net p keys streams checked is moved i)) ∙ checked.agrees;
  streams = moved.count ∙ checked.streams;
  members = checked.members;
}

-- so do those of a net that is made of copies
pub changed_made : (net : Net) (p : List ℕ) (keys : Keys) (g : PlainGraph) (members : List ℕ) (streams : List (Option Stream)) (script : Script) (words : ℕ)
    → IsChecked net → AreForSamePairs keys net.keys → PermutesHonest net p → g ≡ record { stations = net.stations; edges = net.edges } → members ≡ net.coalition
    → AreMoved net.streams p streams → script ≡ net.script → words ≡ net.words
    → IsChecked (record { stations = g.stations; edges = g.edges; coalition = members; keys = keys; streams = streams; script = script; words = words })
changed_made net p keys g members streams script words checked same is graph coalition moved scripted many =
    rw (graph, coalition, scripted, many) (changed_checked net p keys streams checked same is moved)
