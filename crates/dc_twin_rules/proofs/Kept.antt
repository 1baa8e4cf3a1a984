-- A twin is a net of the files.
use Rattle.std.proofs.Common.{◌≡◌, ℕ, ◌*◌, ◌%◌, ◌<◌, ◌≤◌, ◌==◌, ◌&&◌, ◌||◌, not, if◌then◌else◌, Bool, true, false, cond, List, [], ◌∷◌, length, map, find, get_or, option_map, slice_index, slice_index_or, Option, Some, None, refl, sym, ◌∙◌, ap, subst, inl, inr, arith, true≢false}
use Rattle.std.specs.List.{All, range_with_len, list_any, enumerate_from}
use Rattle.std.specs.Option.{is_some}
use Rattle.std.proofs.lemmas.Bool.{and_parts, cases_Bool, not-true}
use Rattle.std.proofs.lemmas.List.{length-map}
use Rattle.std.proofs.lemmas.List.Elements.{All-map}
use Rattle.std.proofs.lemmas.Option.{none-some}
use Rattle.dc_spec.proofs.Options.{some-inj}
use Rattle.dc_spec.specs.Lists.{is_among}
use Rattle.dc_spec.specs.Entries.{Stream}
use Rattle.dc_spec.specs.Pads.{Pair}
use Rattle.dc_spec.specs.Words.{IsSymbol}
use Rattle.dc_spec.specs.Net.{Net}
use Rattle.dc_formats.specs.KeyFile.{IsPair, IsKeys, AreEndsRising}
use Rattle.dc_formats.specs.StreamFile.{IsStream}
use Rattle.dc_graph_rules.specs.Graphs.{KeyGraph, key_graph, has_edge, IsWalk, AreJoined}
use Rattle.dc_graph_rules.specs.Forests.{parents}
use Rattle.dc_key_rules.specs.PairKeys.{symbols, pads_add}
use Rattle.dc_net_rules.specs.Nets.{IsNet}
use Rattle.dc_net_rules.specs.Agreement.{Disagreement, key_stations, key_words, key_missing, key_stray, script_rounds, Agrees, missing_key, stray_key, stream_fault, stream_stray, stream_missing, station_fault, delivery_fault, rule_fault, first_of, first_by}
use Rattle.dc_net_rules.proofs.Agreeing.{all_agree, has_stream}
use Rattle.dc_twin_rules.specs.Twins.{Shift, Admits, inverse, tree_shift, child_end, twin}
use Rattle.dc_twin_rules.proofs.PadSums.{pads_add-at, length-pads_add}
use Rattle.dc_twin_rules.proofs.Permuted.{length-inverse, inverse-below, inverse-permutes, back-there, there-back}
use Rattle.dc_twin_rules.proofs.KeyedSums.{all_range}
use Rattle.dc_twin_rules.proofs.Shifting.{with_shift, shift_of, kept-u, kept-v, length-shift}
use Rattle.dc_twin_rules.proofs.PartSums.{walk-honest, joined-sym}
use Rattle.dc_twin_rules.proofs.Histories.{moved-place}
use Rattle.dc_twin_rules.proofs.Changes.{map-same, changed, sums_of, sixteen-sums, length-sums_of, twin-pairs}

-- the sum of pads is a list of symbols
symbols-add : (xs ys : List ℕ) → length xs ≡ length ys → All IsSymbol (pads_add xs ys)
symbols-add xs ys same k d low =
    let size = length-pads_add xs ys same in
    subst (λ (x : ℕ). x < 65537) (sym (pads_add-at xs ys k d (omega arith) same)) (small _)
  where
    small : (x : ℕ) → x % 65537 < 65537
    small x = omega arith

-- a shifted pair is a pair
shifted-is_pair : (stations words : ℕ) (o : Option Shift) (q : Pair) → ((s : Shift) → o ≡ Some s → length (symbols s.words) ≡ 16 * words) → IsPair stations words q →
    IsPair stations words (with_shift o q)
shifted-is_pair stations words None q size is = is
shifted-is_pair stations words (Some s) q size is =
    let same : length q.a ≡ length (symbols s.words) = is.first_pads ∙ sym (size s refl) in
    record {
      ends = is.ends;
      within = is.within;
      first_pads = length-pads_add q.a (symbols s.words) same ∙ is.first_pads;
      second_pads = is.second_pads;
      first_symbols = symbols-add q.a (symbols s.words) same;
      second_symbols = is.second_symbols;
      no_first = is.no_first;
    }

-- the words of a shift are as many as those of the net
shift-size : (net : Net) (p : List ℕ) (q : Pair) (o : Option ℕ) (s : Shift) → option_map (tree_shift (sums_of net p) q) o ≡ Some s → length (symbols s.words) ≡ 16 * net.words
shift-size net p q None s e = absurd (none-some s e)
shift-size net p q (Some c) s e =
    ap (λ (z : Shift). length (symbols z.words)) (sym (some-inj e)) ∙ length-shift q.u c (sums_of net p) (sixteen-sums net p) ∙ ap (λ (n : ℕ). 16 * n) (length-sums_of net p)

-- the ends of changed pairs
map-ends_one : {a b c d : ℕ} {es fs : List (ℕ × ℕ)} → a ≡ b → c ≡ d → es ≡ fs → ◌≡◌ {A = List (ℕ × ℕ)} ((a, c) ∷ es) ((b, d) ∷ fs)
map-ends_one one other rest = cc

map-ends : (change : Pair → Pair) → ((q : Pair) → (change q).u ≡ q.u) → ((q : Pair) → (change q).v ≡ q.v) → (xs : List Pair) → map {B = ℕ × ℕ} (λ (q : Pair). (q.u, q.v)) (map change xs)
    ≡ map {B = ℕ × ℕ} (λ (q : Pair). (q.u, q.v)) xs
map-ends change same_u same_v [] = refl
map-ends change same_u same_v (x ∷ xs) = map-ends_one (same_u x) (same_v x) (map-ends change same_u same_v xs)

changed-u : (net : Net) (p : List ℕ) (q : Pair) → (changed net p q).u ≡ q.u
changed-u net p q = kept-u (shift_of (parents (key_graph net)) (sums_of net p) q) q

changed-v : (net : Net) (p : List ℕ) (q : Pair) → (changed net p q).v ≡ q.v
changed-v net p q = kept-v (shift_of (parents (key_graph net)) (sums_of net p) q) q

-- changed keys are keys
changed-keys : (net : Net) (p : List ℕ) → IsNet net → IsKeys (record net.keys { pairs = map (changed net p) net.keys.pairs })
changed-keys net p is =
    let keys = is.keys in
    let words : net.keys.words ≡ net.words = (all_agree net is.agrees).words in
    record {
      some_stations = keys.some_stations;
      most_stations = keys.most_stations;
      some_words = keys.some_words;
      most_words = keys.most_words;
      most_symbols = subst (λ (n : ℕ). n * (32 * net.keys.words) ≤ 67108864) (sym (length-map net.keys.pairs (changed net p))) keys.most_symbols;
      are_pairs = All-map (IsPair net.keys.stations net.keys.words) (changed net p) net.keys.pairs
          (λ k d low. shifted-is_pair net.keys.stations net.keys.words (shift_of (parents (key_graph net)) (sums_of net p) (get_or net.keys.pairs k d)) (get_or net.keys.pairs k d)
          (λ s e. shift-size net p (get_or net.keys.pairs k d) (child_end (parents (key_graph net)) (get_or net.keys.pairs k d)) s e
          ∙ ap (λ (n : ℕ). 16 * n) (sym words)) (keys.are_pairs k d low));
      rising = subst (λ (es : List (ℕ × ℕ)). AreEndsRising es) (sym (map-ends (changed net p) (changed-u net p) (changed-v net p) net.keys.pairs)) keys.rising;
    }

any-map : (T : Pair → Bool) (c : Pair → Pair) (xs : List Pair) → list_any T (map c xs) ≡ list_any (λ q. T (c q)) xs
any-map T c [] = refl
any-map T c (x ∷ xs) = ap (λ (b : Bool). T (c x) || b) (any-map T c xs)

-- each edge has its pair, as before
missing-kept : (net : Net) (p : List ℕ) → missing_key (twin net p) ≡ missing_key net
missing-kept net p =
    let of_ends = λ (a b : ℕ) (pairs : List Pair). list_any (λ (q : Pair). (q.u == a) && (q.v == b)) pairs in
    let same : (e : ℕ × ℕ) → of_ends e.0 e.1 (twin net p).keys.pairs ≡ of_ends e.0 e.1 net.keys.pairs = λ e.
    ap (of_ends e.0 e.1) (twin-pairs net p) ∙ any-map (λ (q : Pair). (q.u == e.0) && (q.v == e.1)) (changed net p) net.keys.pairs
    ∙ (λ i. list_any (λ (q : Pair). (changed-u net p q i == e.0) && (changed-v net p q i == e.1)) net.keys.pairs) in
    λ i. option_map (λ (e : ℕ × ℕ). key_missing e.0 e.1) (find (λ (e : ℕ × ℕ). not (same e i)) net.edges)

-- a search along changed items
search-kept : (S : Pair → Bool) (K : Pair → Disagreement) (c : Pair → Pair) → ((q : Pair) → S (c q) ≡ S q) → ((q : Pair) → K (c q) ≡ K q) → (xs : List Pair) → option_map K (find S (map c xs))
    ≡ option_map K (find S xs)
search-kept S K c tests says [] = refl
search-kept S K c tests says (x ∷ xs) = ap (λ (b : Bool). option_map K (cond b (Some (c x)) (find S (map c xs)))) (tests x) ∙ by_case (S x) (search-kept S K c tests says xs)
  where
    by_case : (b : Bool) → option_map K (find S (map c xs)) ≡ option_map K (find S xs) → option_map K (cond b (Some (c x)) (find S (map c xs))) ≡ option_map K (cond b (Some x) (find S xs))
    by_case true rest = ap (λ (d : Disagreement). Some d) (says x)
    by_case false rest = rest

-- no pair is stray, as before
stray-kept : (net : Net) (p : List ℕ) → stray_key (twin net p) ≡ stray_key net
stray-kept net p =
    let stray : Pair → Bool = λ q. not (list_any (λ (e : ℕ × ℕ). (e.0 == q.u) && (e.1 == q.v)) net.edges) in
    ap (λ (pairs : List Pair). option_map (λ (q : Pair). key_stray q.u q.v) (find stray pairs)) (twin-pairs net p)
    ∙ search-kept stray (λ q. key_stray q.u q.v) (changed net p)
    (λ q. (λ i. not (list_any (λ (e : ℕ × ℕ). (e.0 == changed-u net p q i) && (e.1 == changed-v net p q i)) net.edges)))
    (λ q. (λ i. key_stray (changed-u net p q i) (changed-v net p q i))) net.keys.pairs

-- a member stays in place
pub stays : (g : KeyGraph) (u : ℕ) (walk : List ℕ) (w : ℕ) → is_among g.coalition u ≡ true → IsWalk g u walk w → u ≡ w
stays g u [] w member walks = walks
stays g u (v ∷ vs) w member walks =
    let honest = not-true _ (and_parts (has_edge g.edges u v) (not (is_among g.coalition u || is_among g.coalition v)) walks.0).1 in
    absurd (true≢false (sym (ap (λ (b : Bool). b || is_among g.coalition v) member) ∙ honest))

-- an honest station has a stream
streamed : (net : Net) → IsNet net → (i : ℕ) → i < net.stations → is_among net.coalition i ≡ false
    → is_some (slice_index_or net.streams i None) ≡ true
streamed net is i low honest = has_stream net is.agrees i low ∙ ap not honest

-- a station has a stream in the twin where it has one in the net
place-kept : (net : Net) (p : List ℕ) → IsNet net → Admits net p → (i : ℕ) → i < net.stations → is_some (slice_index_or (twin net p).streams i None) ≡ is_some (slice_index_or net.streams i None)
place-kept net p is admits i low =
    let g = key_graph net in
    let k = slice_index (inverse p) i in
    let below = inverse-below net.stations p admits.permutation i low in
    let moves = ap (λ (place : Option Stream). is_some place) (moved-place net p admits.permutation i low) in
    elim (cases_Bool (is_among net.coalition i)) [
      | inl member ↦ (let walk = admits.joined i low in
          let image : slice_index p i ≡ i = sym (stays g i walk.0 (slice_index p i) member walk.1) in
          let back : k ≡ i = ap (λ (z : ℕ). slice_index (inverse p) z) (sym image) ∙ back-there net.stations p admits.permutation i low in
          moves ∙ ap (λ (z : ℕ). is_some (slice_index_or net.streams z None)) back)
      | inr honest ↦ (let joined = joined-sym g k (slice_index p k) (admits.joined k below) in
          let walk = subst (λ (z : ℕ). AreJoined g z k) (there-back net.stations p admits.permutation i low) joined in
          moves ∙ streamed net is k below (walk-honest g i walk.0 k honest walk.1) ∙ sym (streamed net is i low honest))
    ]

-- the tests of a net's parts, from those that could differ in a twin
tests : Net → Option Disagreement → Option Disagreement → Option Disagreement → Option Disagreement
tests net missing stray streams =
    let turns = enumerate_from 0 net.script.rounds in
    first_of (
    (if net.keys.stations == net.stations then None else Some (key_stations net.keys.stations net.stations))
    ∷ (if net.keys.words == net.words then None else Some (key_words net.keys.words net.words))
    ∷ missing
    ∷ stray
    ∷ streams
    ∷ (if length net.script.rounds == net.words then None else Some (script_rounds (length net.script.rounds) net.words))
    ∷ first_by (station_fault net) turns
    ∷ first_by (delivery_fault net) turns
    ∷ first_by (rule_fault net) turns
    ∷ [])

streams-kept : (net : Net) (p : List ℕ) → IsNet net → Admits net p → first_by (stream_fault (twin net p)) (range_with_len 0 net.stations)
    ≡ first_by (stream_fault net) (range_with_len 0 net.stations)
streams-kept net p is admits = ap (λ (os : List (Option Disagreement)). first_of os) (map-same (stream_fault (twin net p)) (stream_fault net) (range_with_len 0 net.stations)
    (all_range (λ i. stream_fault (twin net p) i ≡ stream_fault net i) net.stations (λ i low.
    ap (λ (there : Bool). if is_among net.coalition i then (if there then Some (stream_stray i) else None) else (if there then None else Some (stream_missing i)))
    (place-kept net p is admits i low))))

agrees-kept : (net : Net) (p : List ℕ) → IsNet net → Admits net p → Agrees (twin net p)
unfolding tests
agrees-kept net p is admits = (λ i. tests net (missing-kept net p i) (stray-kept net p i) (streams-kept net p is admits i)) ∙ is.agrees

-- so a twin is a net
pub net-kept : (net : Net) (p : List ℕ) → IsNet net → Admits net p → IsNet (twin net p)
net-kept net p is admits = record {
  graph = is.graph;
  edges_rise = is.edges_rise;
  keys = subst (λ (pairs : List Pair). IsKeys (record net.keys { pairs = pairs })) (sym (twin-pairs net p)) (changed-keys net p is);
  script = is.script;
  streams = length-map (inverse p) (λ (i : ℕ). slice_index_or net.streams i None) ∙ length-inverse net.stations p admits.permutation;
  are_streams = All-map (λ (place : Option Stream). (s : Stream) → place ≡ Some s → IsStream s) (λ (i : ℕ). slice_index_or net.streams i None) (inverse p)
      (λ k d low. is.are_streams (get_or (inverse p) k d) None (let below = (inverse-permutes net.stations p admits.permutation).stations k d low in let size = is.streams in omega arith));
  members = is.members;
  agrees = agrees-kept net p is admits;
}
