-- The pairs of a twin, and the sums below its stations.
use Rattle.std.proofs.Common.{◌≡◌, ℕ, ◌+◌, ◌*◌, ◌%◌, ◌<◌, Bool, true, false, cond, List, [], ◌∷◌, length, map, sum_by, get_or, slice_index, slice_index_or, refl, sym, ◌∙◌, ap, subst, inl, inr, arith}
use Rattle.std.specs.List.{All, range_with_len}
use Rattle.std.proofs.Math.ListN.{get_or-eq_default}
use Rattle.std.proofs.lemmas.Bool.{cases_lt}
use Rattle.std.proofs.lemmas.List.{get_or-map, length-map}
use Rattle.std.proofs.lemmas.List.Elements.{All-head, All-tail, All-map}
use Rattle.std.proofs.lemmas.List.FromFn.{get_or-map-range_with_len, length-map-range_with_len}
use Rattle.dc_spec.specs.Pads.{Pair}
use Rattle.dc_spec.specs.Words.{zero_word, word_sum}
use Rattle.dc_spec.specs.Net.{Net}
use Rattle.dc_spec.specs.Lists.{is_among}
use Rattle.dc_spec.proofs.WordLemmas.{symbol-word_of, length-word_of}
use Rattle.dc_graph_rules.specs.Graphs.{KeyGraph, key_graph}
use Rattle.dc_graph_rules.specs.Forests.{parents, is_parent, stations_below, below_sum, below_sums}
use Rattle.dc_key_rules.specs.PairKeys.{symbols, key_symbol, key_word}
use Rattle.dc_net_rules.specs.Nets.{IsNet}
use Rattle.dc_net_rules.specs.Runs.{word_of_station, all_rounds}
use Rattle.dc_net_rules.proofs.Agreeing.{all_agree}
use Rattle.dc_twin_rules.specs.Twins.{shifted_pair, shifts, demands, demands_in, twin}
use Rattle.dc_twin_rules.proofs.PadSums.{key_symbol-shifted}
use Rattle.dc_twin_rules.proofs.Shifting.{shift_of, with_shift, shifted-at, kept-b, AreSixteens, first-pad, gain}

-- maps by functions that agree on the items
pub map-same : {A B : Type 0} (f g : A → B) (xs : List A) → All (λ x. f x ≡ g x) xs → map f xs ≡ map g xs
map-same f g [] same = refl
map-same {A} {B} f g (x ∷ xs) same =
    ap (λ (y : B). y ∷ map f xs) (All-head (λ (z : A). f z ≡ g z) x xs same) ∙ ap (λ (ys : List B). g x ∷ ys) (map-same f g xs (All-tail (λ (z : A). f z ≡ g z) x xs same))

-- the sums below all stations, round by round
abbrev pub sums_of : Net → List ℕ → List (List (List ℕ))
sums_of net p = map (below_sums (key_graph net)) (demands net p)

-- what becomes of a pair
abbrev pub changed : Net → List ℕ → Pair → Pair
changed net p q = with_shift (shift_of (parents (key_graph net)) (sums_of net p) q) q

pub twin-pairs : (net : Net) (p : List ℕ) → (twin net p).keys.pairs ≡ map (changed net p) net.keys.pairs
twin-pairs net p = map-same (shifted_pair (shifts net p)) (changed net p) net.keys.pairs (shifted-at (parents (key_graph net)) (sums_of net p) net.keys.pairs)

-- the sums below are words
sixteen-below : (g : KeyGraph) (d : List (List ℕ)) → AreSixteens (below_sums g d)
sixteen-below g d = All-map (λ (w : List ℕ). length w ≡ 16) (λ v. cond (is_among g.coalition v) zero_word (below_sum (parents g) d v)) (range_with_len 0 g.stations) (λ k e low. by_case
    (is_among g.coalition _) (stations_below (parents g) _))
  where
    by_case : (b : Bool) (stations : List ℕ) → length (cond b zero_word (word_sum (map (λ w. slice_index_or d w zero_word) stations))) ≡ 16
    by_case true stations = length-word_of (λ _. 0)
    by_case false stations = length-word_of (λ l. sum_by (λ w. slice_index w l) (map (λ w. slice_index_or d w zero_word) stations) % 65537)

pub sixteen-sums : (net : Net) (p : List ℕ) → All AreSixteens (sums_of net p)
sixteen-sums net p = All-map AreSixteens (below_sums (key_graph net)) (demands net p) (λ k e low. sixteen-below (key_graph net) _)

pub length-sums_of : (net : Net) (p : List ℕ) → length (sums_of net p) ≡ net.words
length-sums_of net p = length-map (demands net p) (below_sums (key_graph net)) ∙ length-map-range_with_len (demands_in net p (all_rounds net)) 0 net.words

pub sums-at : (net : Net) (p : List ℕ) (t : ℕ) → t < net.words → get_or (sums_of net p) t [] ≡ below_sums (key_graph net) (demands_in net p (all_rounds net) t)
sums-at net p t within =
    get_or-map (below_sums (key_graph net)) (demands net p) t [] [] (let size = length-map-range_with_len (demands_in net p (all_rounds net)) 0 net.words in omega arith)
    ∙ ap (below_sums (key_graph net)) (get_or-map-range_with_len (demands_in net p (all_rounds net)) 0 net.words t t [] within (omega arith))

-- the sum below an honest station
pub sum-honest : (g : KeyGraph) (d : List (List ℕ)) (c : ℕ) → c < g.stations → is_among g.coalition c ≡ false → word_of_station (below_sums g d) c ≡ below_sum (parents g) d c
sum-honest g d c low honest = get_or-map-range_with_len (λ v. cond (is_among g.coalition v) zero_word (below_sum (parents g) d v)) 0 g.stations c c zero_word low (omega arith)
    ∙ ap (λ (b : Bool). cond b zero_word (below_sum (parents g) d c)) honest

-- each number of a sum below a station is a symbol
pub below-symbol : (g : KeyGraph) (d : List (List ℕ)) (c l : ℕ) → l < 16 → slice_index (word_of_station (below_sums g d) c) l < 65537
below-symbol g d c l few = elim (cases_lt c g.stations) [
  | inl low ↦ subst (λ (w : List ℕ). slice_index w l < 65537) (sym (get_or-map-range_with_len (λ v. cond (is_among g.coalition v) zero_word (below_sum
      (parents g) d v)) 0 g.stations c c zero_word low (omega arith)))
      (by_case (is_among g.coalition c) (stations_below (parents g) c))
  | inr high ↦ subst (λ (w : List ℕ). slice_index w l < 65537) (sym (get_or-eq_default (below_sums g d) zero_word (let size = length-map-range_with_len (λ v. cond
      (is_among g.coalition v) zero_word (below_sum (parents g) d v)) 0 g.stations in omega arith)))
      nil
]
  where
    nil : slice_index zero_word l < 65537
    nil = subst (λ (x : ℕ). x < 65537) (sym (symbol-word_of (λ _. 0) l few)) (omega arith)

    small : (x : ℕ) → x % 65537 < 65537
    small x = omega arith

    by_case : (b : Bool) (stations : List ℕ) → slice_index (cond b zero_word (word_sum (map (λ w. slice_index_or d w zero_word) stations))) l < 65537
    by_case true stations = nil
    by_case false stations = subst (λ (x : ℕ). x < 65537) (sym (symbol-word_of (λ k. sum_by (λ w. slice_index w k) (map (λ w. slice_index_or d w zero_word) stations) % 65537) l few)) (small _)

-- the symbol of a sum of words
pub sum-symbol : (f : ℕ → List ℕ) (xs : List ℕ) (l : ℕ) → l < 16 → slice_index (word_sum (map f xs)) l ≡ sum_by (λ w. slice_index w l) (map f xs) % 65537
sum-symbol f xs l few = symbol-word_of (λ k. sum_by (λ w. slice_index w k) (map f xs) % 65537) l few

-- the symbol of a pair's key gains what its first pad gains
pub key-gains : (net : Net) (p : List ℕ) → IsNet net → (h : List (List ℕ)) (t l : ℕ) → length h ≡ t → t < net.words → l < 16 → (B : ℕ → ℕ) → ((c : ℕ) → B c
    ≡ slice_index (word_of_station (below_sums (key_graph net) (demands_in net p (all_rounds net) t)) c) l) →
    All (λ q. slice_index (key_word (changed net p q) (symbols h) (length h)) l % 65537
    ≡ (slice_index (key_word q (symbols h) (length h)) l + gain (is_parent (parents (key_graph net)) q.v q.u) (is_parent (parents (key_graph net)) q.u q.v) B q.u q.v) % 65537) net.keys.pairs
key-gains net p is h t l size within few B sums k d low =
    let q = get_or net.keys.pairs k d in
    let ps = parents (key_graph net) in
    let pair = is.keys.are_pairs k d low in
    let o = shift_of ps (sums_of net p) q in
    let count = length-sums_of net p in
    let words : net.keys.words ≡ net.words = (all_agree net is.agrees).words in
    let pads : length q.a ≡ 16 * net.keys.words = pair.first_pads in
    let place : 16 * length h + l ≡ 16 * t + l = omega arith in
    let below : (c : ℕ) → B c ≡ slice_index (word_of_station (get_or (sums_of net p) t []) c) l = λ c. sums c
    ∙ ap (λ (ws : List (List ℕ)). slice_index (word_of_station ws c) l) (sym (sums-at net p t within)) in
    let pad = first-pad (sums_of net p) q (is_parent ps q.v q.u) (is_parent ps q.u q.v) B t l (16 * length h + l) (sixteen-sums net p) (omega arith) pair.ends place few (omega arith) below in
    let new = symbol-word_of (λ l. key_symbol (with_shift o q).a (with_shift o q).b (symbols h) (16 * length h) (16 * length h + l)) l few
    ∙ ap (λ (b : List ℕ). key_symbol (with_shift o q).a b (symbols h) (16 * length h) (16 * length h + l)) (kept-b o q) in
    let old = symbol-word_of (λ l. key_symbol q.a q.b (symbols h) (16 * length h) (16 * length h + l)) l few in
    let x = gain (is_parent ps q.v q.u) (is_parent ps q.u q.v) B q.u q.v in
    ap (λ (s : ℕ). s % 65537) new ∙ key_symbol-shifted q.a q.b (symbols h) (with_shift o q).a (16 * length h) (16 * length h + l) x pad ∙ ap (λ (s : ℕ). (s + x) % 65537) (sym old)
