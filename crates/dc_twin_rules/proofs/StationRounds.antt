-- An honest station's word in a round is the same in the twin.
use Rattle.std.proofs.Common.{◌≡◌, ℕ, ◌+◌, ◌-◌, ◌%◌, ◌<◌, ◌≤◌, ◌==◌, ◌||◌, not, true, false, cond, List, length, map, filter, take, sum_by, slice_index, slice_index_or, None, refl, sym, ◌∙◌, ap, subst, arith}
use Rattle.std.specs.List.{All, range_with_len}
use Rattle.std.proofs.lemmas.Bool.{and_parts, not-true}
use Rattle.dc_spec.specs.Lists.{is_among}
use Rattle.dc_spec.specs.Pads.{Pair}
use Rattle.dc_spec.specs.Words.{IsWord, zero_word, word_sum}
use Rattle.dc_spec.specs.Net.{Net}
use Rattle.dc_spec.proofs.ListLemmas.{kept_passes, kept_stands, below_range}
use Rattle.dc_spec.proofs.SumLemmas.{sum_by-map, sum_by-filter, sum_by-same, sum_by-plus}
use Rattle.dc_spec.proofs.WordLemmas.{symbol-word_of, word_of-same}
use Rattle.dc_graph_rules.specs.Graphs.{KeyGraph, IsKeyGraph, key_graph, has_edge, part, is_joined}
use Rattle.dc_graph_rules.specs.Forests.{root, parents, is_parent, children, below_sum, below_sums}
use Rattle.dc_graph_rules.proofs.GraphLemmas.{joined-walks}
use Rattle.dc_graph_rules.proofs.ForestLemmas.{parents_ranked, neighbours-comm, sums-meet_demands}
use Rattle.dc_graph_rules.proofs.DistanceLemmas.{root-sum}
use Rattle.dc_graph_rules.proofs.ParentLemmas.{parents-least}
use Rattle.dc_key_rules.specs.PairKeys.{symbols, key_word, key_part}
use Rattle.dc_key_rules.proofs.KeyLemmas.{key_part-symbol}
use Rattle.dc_station_rules.specs.Stations.{plain_word}
use Rattle.dc_net_rules.specs.Nets.{IsNet}
use Rattle.dc_net_rules.specs.Runs.{word_of_station, station_stream, station_word, history, rounds_of, all_rounds, IsAlike}
use Rattle.dc_net_rules.proofs.Agreeing.{all_agree}
use Rattle.dc_net_rules.proofs.RoundLemmas.{length-history}
use Rattle.dc_twin_rules.specs.Twins.{Admits, inverse, demand, demands_in, twin}
use Rattle.dc_twin_rules.proofs.Permuted.{inverse-below}
use Rattle.dc_twin_rules.proofs.KeyedSums.{sum_by-mod_plus, all_range}
use Rattle.dc_twin_rules.proofs.TreeEdges.{parent-at, length-parents, parent-neighbours, parents-apart, one-end, is_smaller_end, is_larger_end, pairs-apart}
use Rattle.dc_twin_rules.proofs.Shifting.{gain, kept-u, kept-v}
use Rattle.dc_twin_rules.proofs.KeyGains.{end-gain, balanced, parent-counts}
use Rattle.dc_twin_rules.proofs.PartSums.{second_fails, walk-honest, part-sum_zero}
use Rattle.dc_twin_rules.proofs.Histories.{take-history, one-history, is-honest, moved-stream, demand-at, demand-word, demand-symbol, plain-below}
use Rattle.dc_twin_rules.proofs.Changes.{below-symbol, changed, twin-pairs, sum-honest, sum-symbol, key-gains}

-- a child is honest
child-honest : (g : KeyGraph) → IsKeyGraph g → (u c : ℕ) → c < g.stations → is_parent (parents g) u c ≡ true → is_among g.coalition c ≡ false
child-honest g good u c low h =
    second_fails (is_among g.coalition u) (is_among g.coalition c)
    (not-true _ (and_parts (has_edge g.edges u c) (not (is_among g.coalition u || is_among g.coalition c)) (parent-neighbours g good u c low h)).1)

-- the sum below the root of an honest part is zero
root-zero : (net : Net) (p : List ℕ) → IsNet net → IsAlike net → Admits net p → (t : ℕ) → t < net.words → (i : ℕ) → i < net.stations → is_among net.coalition i ≡ false →
    root (key_graph net) i ≡ i → (l : ℕ) → l < 16 →
    slice_index (below_sum (parents (key_graph net)) (demands_in net p (all_rounds net) t) i) l ≡ 0
root-zero net p is alike admits t within i low honest root_is l few =
    let g = key_graph net in
    let played = all_rounds net in
    let d = demands_in net p played t in
    let h = history (rounds_of net t) i in
    let word : ℕ → List ℕ = λ w. slice_index_or d w zero_word in
    let G : ℕ → ℕ = λ k. slice_index (plain_word (station_stream net k) h) l in
    let each : (w : ℕ) → w < net.stations → is_joined g i w ≡ true → (slice_index (word w) l + G (slice_index (inverse p) w)) % 65537 ≡ G w % 65537 = λ w less joined.
    (let walk = (joined-walks g is.graph i w low).0 joined in
    let received : take t (history played w) ≡ h = take-history net t w (let e : t ≤ net.words = omega arith in e)
    ∙ one-history net alike t (omega arith) w i (is-honest net w less (walk-honest g i walk.0 w honest walk.1)) (is-honest net i low honest) in
    let at : slice_index (word w) l ≡ (G w + (65537 - G (slice_index (inverse p) w))) % 65537 = ap (λ (v : List ℕ). slice_index v l) (demand-at net p played t w less
    ∙ ap (λ (r : List (List ℕ)). demand net p w r) received)
    ∙ demand-symbol net p admits.permutation w less h l few in
    let small = plain-below net is (slice_index (inverse p) w) (inverse-below net.stations p admits.permutation w less) h l few in
    omega arith) in
    let zero_sum = part-sum_zero g is.graph p admits.permutation admits.joined i low G (λ w. slice_index (word w) l) each in
    ap (λ (r : ℕ). slice_index (below_sum (parents g) d r) l) (sym root_is) ∙ ap (λ (w : List ℕ). slice_index w l) (root-sum g is.graph d i low) ∙ sum-symbol word (part g i) l few
    ∙ ap (λ (s : ℕ). s % 65537) (sum_by-map (λ w. slice_index w l) word (part g i)) ∙ zero_sum

-- a first symbol, with the keys, where the keys gain what the plain word loses
closing : (u u' v v' sp sm k b d : ℕ) → u' % 65537 ≡ (u + sp) % 65537 → v' % 65537 ≡ (v + sm) % 65537 → (sp + k) % 65537 ≡ (sm + b) % 65537 → (b + (65537 - k % 65537)) % 65537 ≡ d →
    (u' % 65537 + (65537 - v' % 65537)) % 65537 ≡ (u % 65537 + (65537 - v % 65537) + d) % 65537
closing u u' v v' sp sm k b d plus minus sums is = omega arith

closed : (g g' kp kp' d : ℕ) → g' < 65537 → d ≡ (g + (65537 - g')) % 65537 → kp' % 65537 ≡ (kp + d) % 65537 → (g' + kp') % 65537 ≡ (g + kp) % 65537
closed g g' kp kp' d small is more = omega arith

-- the gains of the pairs of a station are its demand
pub keys-meet_demand : (net : Net) (p : List ℕ) → IsNet net → IsAlike net → Admits net p → (t : ℕ) → t < net.words → (i : ℕ) → i < net.stations → is_among net.coalition i ≡ false → (l : ℕ) →
    l < 16 →
    slice_index (key_part (map (changed net p) net.keys.pairs) i (history (rounds_of net t) i)) l % 65537
    ≡ (slice_index (key_part net.keys.pairs i (history (rounds_of net t) i)) l + slice_index (word_of_station (demands_in net p (all_rounds net) t) i) l) % 65537
keys-meet_demand net p is alike admits t within i low honest l few =
    let g = key_graph net in
    let n = net.stations in
    let ps = parents g in
    let d = demands_in net p (all_rounds net) t in
    let h = history (rounds_of net t) i in
    let pairs = net.keys.pairs in
    let change = changed net p in
    let B : ℕ → ℕ = λ c. slice_index (word_of_station (below_sums g d) c) l in
    let f : Pair → ℕ = λ q. slice_index (key_word q (symbols h) (length h)) l in
    let X : ℕ → ℕ → ℕ = λ a b. gain (is_parent ps b a) (is_parent ps a b) B a b in
    let Y : ℕ → ℕ → ℕ = λ a b. gain (is_parent ps a b) (is_parent ps b a) B b a in
    let count = length-parents g in
    let stations = range_with_len 0 n in
    let of_keys : net.keys.stations ≡ n = (all_agree net is.agrees).key_stations in
    let low_v : All (λ (q : Pair). q.v < n) pairs = λ k e less. (let bound = (is.keys.are_pairs k e less).within in omega arith) in
    let low_u : All (λ (q : Pair). q.u < n) pairs = λ k e less. (let bound = (is.keys.are_pairs k e less).within in let up = (is.keys.are_pairs k e less).ends in omega arith) in
    let apart = pairs-apart net.keys is.keys in
    let gains = key-gains net p is h t l (length-history net t i) within few B (λ c. refl) in
    let smaller : ℕ → ℕ = λ w. cond (is_smaller_end pairs i w) (X i w) 0 in
    let larger : ℕ → ℕ = λ w. cond (is_larger_end pairs i w) (Y i w) 0 in
    let kid : ℕ → ℕ = λ w. cond (is_parent ps i w) (B w) 0 in
    let own : ℕ → ℕ = λ w. cond (is_parent ps w i) (B i) 0 in
    let small : (c : ℕ) → B c ≤ 65537 = λ c. (let less = below-symbol g d c l few in omega arith) in
    let each : (w : ℕ) → w < n → (smaller w + kid w) % 65537 ≡ (larger w + own w) % 65537 = λ w less.
    balanced (is_smaller_end pairs i w) (is_larger_end pairs i w) (is_parent ps w i) (is_parent ps i w) (B i) (B w) (small i) (small w)
    (λ here. parents-apart g is.graph w i here)
    (λ here. one-end net is i w (neighbours-comm g w i (parent-neighbours g is.graph w i low here)))
    (λ here. one-end net is i w (parent-neighbours g is.graph i w less here)) in
    let sums = sum_by-mod_plus (λ w. smaller w + kid w) larger own stations (all_range (λ w. (smaller w + kid w) % 65537 ≡ (larger w + own w) % 65537) n each) in
    let both = sum_by-plus smaller kid stations in
    let at_i : B i ≡ slice_index (below_sum ps d i) l = ap (λ (w : List ℕ). slice_index w l) (sum-honest g d i low honest) in
    let no_parent : slice_index_or ps i None ≡ None → B i % 65537 ≡ 0 = λ none.
    (let none_at = (parents-least g is.graph i low).1.0 (sym (parent-at g i low) ∙ none) in
    let e = root-zero net p is alike admits t within i low honest none_at l few in omega arith) in
    let parent_counts = parent-counts (slice_index_or ps i None) n (B i) (λ u here. (let below = ((parents_ranked g is.graph).falls i u here).1 in omega arith)) no_parent in
    let kids : sum_by kid stations ≡ sum_by B (children ps i) = ap (λ (m : ℕ). sum_by kid (range_with_len 0 m)) (sym count)
    ∙ sym (sum_by-filter B (is_parent ps i) (range_with_len 0 (length ps))) in
    let child_sums : sum_by (λ w. slice_index w l) (map (below_sum ps d) (children ps i)) ≡ sum_by B (children ps i) = sum_by-map (λ w. slice_index w l) (below_sum ps d) (children ps i)
    ∙ sum_by-same (λ c. slice_index (below_sum ps d c) l) B (children ps i) (λ c there.
    (let bound : c < 0 + length ps = below_range 0 (length ps) c (kept_stands (is_parent ps i) (range_with_len 0 (length ps)) c there) in
    let less : c < n = omega arith in
    let child = kept_passes (is_parent ps i) (range_with_len 0 (length ps)) c there in
    sym (ap (λ (w : List ℕ). slice_index w l) (sum-honest g d c less (child-honest g is.graph i c less child))))) in
    let kids_word : slice_index (word_sum (map (below_sum ps d) (children ps i))) l ≡ sum_by B (children ps i) % 65537 = sum-symbol (below_sum ps d) (children ps i) l few
    ∙ ap (λ (s : ℕ). s % 65537) child_sums in
    let good_word : IsWord (slice_index_or d i zero_word) = subst IsWord (sym (demand-at net p (all_rounds net) t i low)) (demand-word net p i (take t (history (all_rounds net) i))) in
    let law = ap (λ (w : List ℕ). slice_index w l) (sums-meet_demands g is.graph d i low good_word) in
    let law_at = symbol-word_of (λ k. (slice_index (below_sum ps d i) k + (65537 - slice_index (word_sum (map (below_sum ps d) (children ps i))) k)) % 65537) l few in
    let needs : (B i + (65537 - sum_by B (children ps i) % 65537)) % 65537 ≡ slice_index (word_of_station d i) l =
    ap (λ (s : ℕ). (s + (65537 - sum_by B (children ps i) % 65537)) % 65537) at_i ∙ ap (λ (s : ℕ). (slice_index (below_sum ps d i) l + (65537 - s)) % 65537) (sym kids_word) ∙ sym law_at ∙ law in
    let together : (sum_by smaller stations + sum_by B (children ps i)) % 65537 ≡ (sum_by larger stations + B i) % 65537 =
    ap (λ (s : ℕ). (sum_by smaller stations + s) % 65537) (sym kids) ∙ ap (λ (s : ℕ). s % 65537) (sym both) ∙ sums
    ∙ joined_mod (sum_by larger stations) (sum_by own stations) (B i) parent_counts in
    let old = key_part-symbol pairs i h l few in
    let new = key_part-symbol (map change pairs) i h l few in
    let plus = end-gain (λ q. q.u) (λ q. q.v) f change X n i pairs (λ k e less. kept-u _ _) gains low_v apart in
    let minus = end-gain (λ q. q.v) (λ q. q.u) f change Y n i pairs (λ k e less. kept-v _ _) gains low_u (λ j k e less inside same_v same_u. apart j k e less inside same_u same_v) in
    let closes = closing (sum_by f (filter (λ q. q.u == i) pairs)) (sum_by f (filter (λ q. q.u == i) (map change pairs))) (sum_by f (filter (λ q. q.v == i) pairs)) (sum_by f (filter
    (λ q. q.v == i) (map change pairs)))
    (sum_by smaller stations) (sum_by larger stations) (sum_by B (children ps i)) (B i) (slice_index (word_of_station d i) l) plus minus together needs in
    ap (λ (s : ℕ). s % 65537) new ∙ from_symbols (sum_by f (filter (λ q. q.u == i) pairs)) (sum_by f (filter (λ q. q.u == i) (map change pairs))) (sum_by f (filter (λ q. q.v == i) pairs))
    (sum_by f (filter (λ q. q.v == i) (map change pairs))) (slice_index (word_of_station d i) l) closes
    ∙ ap (λ (s : ℕ). (s + slice_index (word_of_station d i) l) % 65537) (sym old)
  where
    joined_mod : (a x b : ℕ) → x % 65537 ≡ b % 65537 → (a + x) % 65537 ≡ (a + b) % 65537
    joined_mod a x b same = omega arith

    from_symbols : (u u' v v' d : ℕ) → (u' % 65537 + (65537 - v' % 65537)) % 65537 ≡ (u % 65537 + (65537 - v % 65537) + d) % 65537 →
        (u' % 65537 + (65537 - v' % 65537)) % 65537 % 65537 ≡ ((u % 65537 + (65537 - v % 65537)) % 65537 + d) % 65537
    from_symbols u u' v v' d same = omega arith

-- so an honest station's word stays
pub word-kept : (net : Net) (p : List ℕ) → IsNet net → IsAlike net → Admits net p → (t : ℕ) → t < net.words → (i : ℕ) → i < net.stations → is_among net.coalition i ≡ false →
    station_word (station_stream (twin net p) i) (twin net p).keys.pairs i (history (rounds_of net t) i) ≡ station_word (station_stream net i) net.keys.pairs i (history (rounds_of net t) i)
word-kept net p is alike admits t within i low honest =
    let h = history (rounds_of net t) i in
    let k = slice_index (inverse p) i in
    let d = demands_in net p (all_rounds net) t in
    ap (λ pairs. station_word (station_stream (twin net p) i) pairs i h) (twin-pairs net p)
    ∙ ap (λ s. station_word s (map (changed net p) net.keys.pairs) i h) (moved-stream net p admits.permutation i low)
    ∙ word_of-same
    (λ l. (slice_index (plain_word (station_stream net k) h) l + slice_index (key_part (map (changed net p) net.keys.pairs) i h) l) % 65537)
    (λ l. (slice_index (plain_word (station_stream net i) h) l + slice_index (key_part net.keys.pairs i h) l) % 65537)
    (λ l few.
    let received : take t (history (all_rounds net) i) ≡ h = take-history net t i (let e : t ≤ net.words = omega arith in e) in
    let at = ap (λ (w : List ℕ). slice_index w l) (demand-at net p (all_rounds net) t i low ∙ ap (λ (r : List (List ℕ)). demand net p i r) received)
    ∙ demand-symbol net p admits.permutation i low h l few in
    closed (slice_index (plain_word (station_stream net i) h) l) (slice_index (plain_word (station_stream net k) h) l) (slice_index (key_part net.keys.pairs i h) l) (slice_index (key_part (map
    (changed net p) net.keys.pairs) i h) l)
    (slice_index (word_of_station d i) l) (plain-below net is k (inverse-below net.stations p admits.permutation i low) h l few) at
    (keys-meet_demand net p is alike admits t within i low honest l few))
