-- The twin of a twin by the inverse permutation is the first net.
use Rattle.std.proofs.Common.{◌≡◌, ℕ, ◌+◌, ◌-◌, ◌*◌, ◌/◌, ◌%◌, ◌<◌, ◌≤◌, ◌==◌, Bool, true, false, cond, List, [], ◌∷◌, length, map, take, get_or, slice_index, slice_index_or, option_map, Option, Some, None, refl, sym, ◌∙◌, ap, subst, inl, inr, arith}
use Rattle.std.specs.List.{All, range_with_len}
use Rattle.std.proofs.Math.ListN.{get_or-eq_default}
use Rattle.std.proofs.lemmas.Bool.{cases_lt}
use Rattle.std.proofs.lemmas.List.{get_or-map, length-map, ext_get_or}
use Rattle.std.proofs.lemmas.List.Elements.{All-head, All-tail}
use Rattle.std.proofs.lemmas.List.FromFn.{get_or-map-range_with_len, length-map-range_with_len}
use Rattle.dc_spec.specs.Lists.{is_among}
use Rattle.dc_spec.specs.Entries.{Stream}
use Rattle.dc_spec.specs.Pads.{Pair}
use Rattle.dc_spec.specs.Words.{zero_word, word_sub, word_sum}
use Rattle.dc_spec.specs.Net.{Net}
use Rattle.dc_spec.proofs.ListLemmas.{kept_stands, below_range}
use Rattle.dc_spec.proofs.SumLemmas.{sum_by-map, sum_by-zero}
use Rattle.dc_spec.proofs.WordLemmas.{symbol-word_of}
use Rattle.dc_graph_rules.specs.Graphs.{KeyGraph, key_graph, AreJoined}
use Rattle.dc_graph_rules.specs.Forests.{parents, chain, stations_below, below_sum, below_sums}
use Rattle.dc_key_rules.specs.PairKeys.{symbols, pads_add}
use Rattle.dc_station_rules.specs.Stations.{plain_word}
use Rattle.dc_net_rules.specs.Nets.{IsNet}
use Rattle.dc_net_rules.specs.Runs.{Round, word_of_station, station_stream, history, all_rounds, IsAlike}
use Rattle.dc_net_rules.proofs.Agreeing.{all_agree}
use Rattle.dc_twin_rules.specs.Twins.{Shift, Admits, inverse, demands_in, tree_shift, child_end, twin}
use Rattle.dc_twin_rules.proofs.Admitting.{stands}
use Rattle.dc_twin_rules.proofs.KeyedSums.{sum_by-mod_plus}
use Rattle.dc_twin_rules.proofs.PadSums.{pads_add-at, length-pads_add, symbols-at}
use Rattle.dc_twin_rules.proofs.Permuted.{length-inverse, image-below, inverse-below, inverse-permutes, inverse-inverse, back-there, there-back}
use Rattle.dc_twin_rules.proofs.Shifting.{shift_of, with_shift, shift-same, kept-u, kept-v, shift_word, sixteen-shifts, length-shift}
use Rattle.dc_twin_rules.proofs.TreeEdges.{length-parents}
use Rattle.dc_twin_rules.proofs.PartSums.{joined-sym}
use Rattle.dc_twin_rules.proofs.Histories.{moved-place, moved-stream, demand-at, demand-symbol, plain-below}
use Rattle.dc_twin_rules.proofs.Changes.{changed, sums_of, sums-at, sixteen-sums, length-sums_of, twin-pairs, below-symbol, sum-symbol}
use Rattle.dc_twin_rules.proofs.Rounds.{rounds-kept}

-- the twin admits the inverse
pub inverse-admitted : (net : Net) (p : List ℕ) → Admits net p → Admits (twin net p) (inverse p)
inverse-admitted net p admits = record {
  permutation = inverse-permutes net.stations p admits.permutation;
  joined = λ i low. (let k = slice_index (inverse p) i in
      subst (λ (z : ℕ). AreJoined (key_graph net) z k) (there-back net.stations p admits.permutation i low)
      (joined-sym (key_graph net) k (slice_index p k) (admits.joined k (inverse-below net.stations p admits.permutation i low))));
}

-- the streams come back
streams-back : (net : Net) (p : List ℕ) → IsNet net → Admits net p → (twin (twin net p) (inverse p)).streams ≡ net.streams
streams-back net p is admits =
    let n = net.stations in
    let permutes = admits.permutation in
    let back = inverse (inverse p) in
    let size = length-inverse n (inverse p) (inverse-permutes n p permutes) in
    let place : ℕ → Option Stream = λ i. slice_index_or (twin net p).streams i None in
    let count = length-map back place in
    let of_net = is.streams in
    ext_get_or None (map place back) net.streams (omega arith) (λ i within. (let low : i < n = omega arith in
    get_or-map place back i 0 None (omega arith) ∙ ap place (inverse-inverse n p permutes i low) ∙ moved-place net p permutes (slice_index p i) (image-below n p permutes i low)
    ∙ ap (λ (k : ℕ). slice_index_or net.streams k None) (back-there n p permutes i low)))

-- the demands are the opposites
opposite-demands : (net : Net) (p : List ℕ) → IsNet net → Admits net p → (played : List Round) (t w l : ℕ) → w < net.stations → l < 16 →
    (slice_index (word_of_station (demands_in net p played t) w) l + slice_index (word_of_station (demands_in (twin net p) (inverse p) played t) w) l) % 65537 ≡ 0
opposite-demands net p is admits played t w l low few =
    let n = net.stations in
    let permutes = admits.permutation in
    let h = take t (history played w) in
    let k = slice_index (inverse p) w in
    let G : ℕ → ℕ = λ i. slice_index (plain_word (station_stream net i) h) l in
    let image = image-below n p permutes w low in
    let one : slice_index (word_of_station (demands_in net p played t) w) l ≡ (G w + (65537 - G k)) % 65537 = ap (λ (v : List ℕ). slice_index v l) (demand-at net p played t w low)
    ∙ demand-symbol net p permutes w low h l few in
    let own : station_stream (twin net p) w ≡ station_stream net k = moved-stream net p permutes w low in
    let other : station_stream (twin net p) (slice_index (inverse (inverse p)) w) ≡ station_stream net w = ap (λ (i : ℕ). station_stream (twin net p) i) (inverse-inverse n p permutes w low)
    ∙ moved-stream net p permutes (slice_index p w) image ∙ ap (λ (i : ℕ). station_stream net i) (back-there n p permutes w low) in
    let two : slice_index (word_of_station (demands_in (twin net p) (inverse p) played t) w) l
    ≡ (G k + (65537 - G w)) % 65537 = ap (λ (v : List ℕ). slice_index v l) (demand-at (twin net p) (inverse p) played t w low)
    ∙ demand-symbol (twin net p) (inverse p) (inverse-permutes n p permutes) w low h l few
    ∙ (λ i. (slice_index (plain_word (own i) h) l + (65537 - slice_index (plain_word (other i) h) l)) % 65537) in
    let small_w : G w < 65537 = plain-below net is w low h l few in
    let small_k : G k < 65537 = plain-below net is k (inverse-below n p permutes w low) h l few in
    omega arith

-- so are their sums
opposite-sums : (f f' : ℕ → List ℕ) (xs : List ℕ) (l : ℕ) → l < 16 → All (λ w. (slice_index (f w) l + slice_index (f' w) l) % 65537 ≡ 0) xs →
    (slice_index (word_sum (map f xs)) l + slice_index (word_sum (map f' xs)) l) % 65537 ≡ 0
opposite-sums f f' xs l few each =
    let one = sum-symbol f xs l few in
    let two = sum-symbol f' xs l few in
    let in_one = sum_by-map (λ w. slice_index w l) f xs in
    let in_two = sum_by-map (λ w. slice_index w l) f' xs in
    let both = sum_by-mod_plus (λ w. 0) (λ w. slice_index (f w) l) (λ w. slice_index (f' w) l) xs (λ k d low. sym (each k d low)) in
    let none = sum_by-zero xs in
    omega arith

opposite-below : (g : KeyGraph) (d d' : List (List ℕ)) (l : ℕ) → l < 16 → ((w : ℕ) → w < g.stations →
    (slice_index (slice_index_or d w zero_word) l + slice_index (slice_index_or d' w zero_word) l) % 65537 ≡ 0) → (c : ℕ) →
    (slice_index (word_of_station (below_sums g d) c) l + slice_index (word_of_station (below_sums g d') c) l) % 65537 ≡ 0
opposite-below g d d' l few each c = elim (cases_lt c g.stations) [
  | inl low ↦ by_case (is_among g.coalition c) (at d) (at d')
      (get_or-map-range_with_len (λ v. cond (is_among g.coalition v) zero_word (below_sum (parents g) d v)) 0 g.stations c c zero_word low (omega arith))
      (get_or-map-range_with_len (λ v. cond (is_among g.coalition v) zero_word (below_sum (parents g) d' v)) 0 g.stations c c zero_word low (omega arith))
  | inr high ↦ by_case true (at d) (at d') (past d high) (past d' high)
]
  where
    at : List (List ℕ) → List ℕ
    at x = word_of_station (below_sums g x) c

    past : (x : List (List ℕ)) → g.stations ≤ c → word_of_station (below_sums g x) c ≡ zero_word
    past x high = get_or-eq_default (below_sums g x) zero_word (let size = length-map-range_with_len (λ v. cond (is_among g.coalition v) zero_word (below_sum
        (parents g) x v)) 0 g.stations in omega arith)

    by_case : (b : Bool) (v v' : List ℕ) → v ≡ cond b zero_word (below_sum (parents g) d c) → v' ≡ cond b zero_word (below_sum (parents g) d' c) → (slice_index v l + slice_index v' l) % 65537 ≡ 0
    by_case true v v' e e' = (let a = ap (λ (w : List ℕ). slice_index w l) e in let b = ap (λ (w : List ℕ). slice_index w l) e' in let nil = symbol-word_of (λ _. 0) l few in omega arith)
    by_case false v v' e e' =
        let stations = stations_below (parents g) c in
        let sums = opposite-sums (λ w. slice_index_or d w zero_word) (λ w. slice_index_or d' w zero_word) stations l few
        (λ k x less. each (get_or stations k x) (let bound : get_or stations k x < 0 + length (parents g) = below_range 0 (length (parents g)) (get_or stations k x)
        (kept_stands (λ w. is_among (chain (parents g) (length (parents g)) w) c) (range_with_len 0 (length (parents g))) (get_or stations k x) (stands stations k x less)) in
        let count = length-parents g in omega arith)) in
        (λ i. (slice_index (e i) l + slice_index (e' i) l) % 65537) ∙ sums

-- the sums below a station, in the net and for the way back
opposite-rounds : (net : Net) (p : List ℕ) → IsNet net → IsAlike net → Admits net p → (t : ℕ) → t < net.words → (l : ℕ) → l < 16 → (c : ℕ) →
    (slice_index (word_of_station (get_or (sums_of net p) t []) c) l + slice_index (word_of_station (get_or (sums_of (twin net p) (inverse p)) t []) c) l) % 65537 ≡ 0
opposite-rounds net p is alike admits t within l few c =
    let there = sums-at net p t within in
    let back = sums-at (twin net p) (inverse p) t within ∙ ap (λ (played : List Round). below_sums (key_graph net) (demands_in (twin net p) (inverse p) played t))
    (rounds-kept net p is alike admits) in
    (λ i. (slice_index (word_of_station (there i) c) l + slice_index (word_of_station (back i) c) l) % 65537)
    ∙ opposite-below (key_graph net) (demands_in net p (all_rounds net) t) (demands_in (twin net p) (inverse p) (all_rounds net) t) l few (λ w low. opposite-demands net p is admits
    (all_rounds net) t w l low few) c

-- the words of a shift, and of the one back
opposite-words : (u child l : ℕ) (below below' : List (List ℕ)) → l < 16 → slice_index (word_of_station below child) l < 65537 → slice_index (word_of_station below' child) l < 65537 →
    (slice_index (word_of_station below child) l + slice_index (word_of_station below' child) l) % 65537 ≡ 0 →
    (slice_index (shift_word u child below) l + slice_index (shift_word u child below') l) % 65537 ≡ 0
opposite-words u child l below below' few low low' sum = by_case (child == u)
  where
    by_case : (b : Bool) → (slice_index (cond b (word_of_station below child) (word_sub zero_word (word_of_station below child))) l + slice_index (cond b (word_of_station below' child)
        (word_sub zero_word (word_of_station below' child))) l) % 65537 ≡ 0
    by_case true = sum
    by_case false =
        let nil = symbol-word_of (λ _. 0) l few in
        let one = symbol-word_of (λ k. (slice_index zero_word k + (65537 - slice_index (word_of_station below child) k)) % 65537) l few in
        let two = symbol-word_of (λ k. (slice_index zero_word k + (65537 - slice_index (word_of_station below' child) k)) % 65537) l few in
        omega arith

-- a symbol comes back where what was added to it is taken away
symbol-back : (a x y : ℕ) → a < 65537 → (x + y) % 65537 ≡ 0 → ((a + x) % 65537 + y) % 65537 ≡ a
symbol-back a x y low sum = omega arith

-- so the first pads come back
pads-back : (net : Net) (p : List ℕ) → IsNet net → IsAlike net → Admits net p → (a : List ℕ) (u child : ℕ) → length a ≡ 16 * net.words → All (λ x. x < 65537) a →
    pads_add (pads_add a (symbols (map (shift_word u child) (sums_of net p)))) (symbols (map (shift_word u child) (sums_of (twin net p) (inverse p)))) ≡ a
pads-back net p is alike admits a u child size good =
    let sums = sums_of net p in
    let sums' = sums_of (twin net p) (inverse p) in
    let xs = symbols (map (shift_word u child) sums) in
    let ys = symbols (map (shift_word u child) sums') in
    let count = length-sums_of net p in
    let count' = length-sums_of (twin net p) (inverse p) in
    let len_x : length xs ≡ 16 * net.words = length-shift u child sums (sixteen-sums net p) ∙ ap (λ (n : ℕ). 16 * n) count in
    let len_y : length ys ≡ 16 * net.words = length-shift u child sums' (sixteen-sums (twin net p) (inverse p)) ∙ ap (λ (n : ℕ). 16 * n) count' in
    let once = length-pads_add a xs (omega arith) in
    let twice = length-pads_add (pads_add a xs) ys (omega arith) in
    ext_get_or 0 (pads_add (pads_add a xs) ys) a (omega arith) (λ n within.
    (let t = n / 16 in
    let l = n % 16 in
    let few : l < 16 = omega arith in
    let place : n ≡ 16 * t + l = omega arith in
    let round : t < net.words = omega arith in
    let here : n < length a = omega arith in
    let number = length-map sums (shift_word u child) in
    let number' = length-map sums' (shift_word u child) in
    let x : slice_index xs n ≡ slice_index (shift_word u child (get_or sums t [])) l = symbols-at (map (shift_word u child) sums) (sixteen-shifts u child sums
    (sixteen-sums net p)) t l n place few (omega arith)
    ∙ ap (λ (w : List ℕ). slice_index w l) (get_or-map (shift_word u child) sums t [] [] (omega arith)) in
    let y : slice_index ys n ≡ slice_index (shift_word u child (get_or sums' t [])) l = symbols-at (map (shift_word u child) sums') (sixteen-shifts u child sums' (sixteen-sums (twin net p)
    (inverse p))) t l n place few (omega arith)
    ∙ ap (λ (w : List ℕ). slice_index w l) (get_or-map (shift_word u child) sums' t [] [] (omega arith)) in
    let low : slice_index (word_of_station (get_or sums t []) child) l < 65537 = subst (λ (ws : List (List ℕ)). slice_index (word_of_station ws child) l < 65537) (sym (sums-at net p t round))
    (below-symbol (key_graph net) (demands_in net p (all_rounds net) t) child l few) in
    let low' : slice_index (word_of_station (get_or sums' t []) child) l < 65537 = subst (λ (ws : List (List ℕ)). slice_index (word_of_station ws child) l < 65537) (sym (sums-at (twin net p)
    (inverse p) t round))
    (below-symbol (key_graph net) (demands_in (twin net p) (inverse p) (all_rounds (twin net p)) t) child l few) in
    let zero_sum = opposite-words u child l (get_or sums t []) (get_or sums' t []) few low low' (opposite-rounds net p is alike admits t round l few child) in
    pads_add-at (pads_add a xs) ys n 0 (omega arith) (omega arith) ∙ ap (λ (s : ℕ). (s + slice_index ys n) % 65537) (pads_add-at a xs n 0 here (omega arith))
    ∙ symbol-back (slice_index a n) (slice_index xs n) (slice_index ys n) (good n 0 here) (ap (λ (s : ℕ). (s + slice_index ys n) % 65537) x
    ∙ ap (λ (s : ℕ). (slice_index (shift_word u child (get_or sums t [])) l + s) % 65537) y ∙ zero_sum)))

-- and each pair
pair-back : (net : Net) (p : List ℕ) → IsNet net → IsAlike net → Admits net p → (q : Pair) → length q.a ≡ 16 * net.words → All (λ x. x < 65537) q.a →
    changed (twin net p) (inverse p) (changed net p q) ≡ q
pair-back net p is alike admits q size good =
    let ps = parents (key_graph net) in
    let sums = sums_of net p in
    let sums' = sums_of (twin net p) (inverse p) in
    ap (λ (o : Option Shift). with_shift o (changed net p q)) (shift-same ps sums' (changed net p q) q (kept-u (shift_of ps sums q) q) (kept-v (shift_of ps sums q) q)) ∙ by_child (child_end ps q)
  where
    by_child : (o : Option ℕ) → with_shift (option_map (tree_shift (sums_of (twin net p) (inverse p)) q) o) (with_shift (option_map (tree_shift (sums_of net p) q) o) q) ≡ q
    by_child None = refl
    by_child (Some c) = ap (λ (a : List ℕ). record q { a = a }) (pads-back net p is alike admits q.a q.u c size good)

map-back : (f g : Pair → Pair) (xs : List Pair) → All (λ q. f (g q) ≡ q) xs → map f (map g xs) ≡ xs
map-back f g [] back = refl
map-back f g (x ∷ xs) back = ap (λ (q : Pair). q ∷ map f (map g xs)) (All-head (λ q. f (g q) ≡ q) x xs back) ∙ ap (λ (qs : List Pair). x ∷ qs) (map-back f g xs (All-tail (λ q. f (g q)
    ≡ q) x xs back))

pairs-back : (net : Net) (p : List ℕ) → IsNet net → IsAlike net → Admits net p → (twin (twin net p) (inverse p)).keys.pairs ≡ net.keys.pairs
pairs-back net p is alike admits =
    let words : net.keys.words ≡ net.words = (all_agree net is.agrees).words in
    twin-pairs (twin net p) (inverse p) ∙ ap (λ (pairs : List Pair). map (changed (twin net p) (inverse p)) pairs) (twin-pairs net p)
    ∙ map-back (changed (twin net p) (inverse p)) (changed net p) net.keys.pairs
    (λ k d low. (let pair = is.keys.are_pairs k d low in pair-back net p is alike admits (get_or net.keys.pairs k d) (pair.first_pads ∙ ap (λ (n : ℕ). 16 * n) words) pair.first_symbols))

-- the twin of a twin by the inverse permutation is the net
pub twin-back : (net : Net) (p : List ℕ) → IsNet net → IsAlike net → Admits net p → twin (twin net p) (inverse p) ≡ net
twin-back net p is alike admits = λ i. record net { keys = record net.keys { pairs = pairs-back net p is alike admits i }; streams = streams-back net p is admits i }
