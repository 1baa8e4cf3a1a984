-- The sums and shifts that are computed row by row are those of the twin.
use Rattle.std.proofs.Common.{◌≡◌, ℕ, ◌+◌, ◌*◌, ◌<◌, ◌==◌, Bool, true, false, cond, List, [], ◌∷◌, ◌++◌, length, map, get_or, slice_index_or, Option, Some, None, option_map, refl, sym, ◌∙◌, ap, subst, arith}
use Rattle.std.specs.List.{All, flat_map, filter_map, range_with_len, cons_option}
use Rattle.std.specs.Option.{option_map_or}
use Rattle.std.proofs.lemmas.List.{get_or-map, length-map}
use Rattle.std.proofs.lemmas.List.Elements.{All-map, All-head, All-tail}
use Rattle.std.proofs.lemmas.List.FromFn.{fill_by_all, length-map-range_with_len, get_or-map-range_with_len}
use Rattle.dc_spec.specs.Words.{zero_word}
use Rattle.dc_spec.specs.Pads.{Pair}
use Rattle.dc_spec.specs.Net.{Net}
use Rattle.dc_graph_rules.specs.Graphs.{KeyGraph, key_graph}
use Rattle.dc_graph_rules.specs.Forests.{parents, is_parent, below_sums}
use Rattle.dc_net_rules.specs.Nets.{IsNet}
use Rattle.dc_net_rules.specs.Runs.{word_of_station, all_rounds}
use Rattle.dc_net_rules.proofs.Agreeing.{all_agree}
use Rattle.dc_twin_rules.specs.Twins.{Shift, child_end, tree_shift, demands_in, demands, shifts, twin}
use Rattle.dc_twin_rules.proofs.Shifting.{shift_of, shift_word}
use Rattle.dc_twin_rules.proofs.Changes.{map-same, sums_of, length-sums_of, twin-pairs}
use Rattle.dc_twin.specs.Edges.{row_in, sums_in, signed, edge_words, edge_shift, with_shift}
use Rattle.dc_twin.specs.TwinnedKeys.{TwinnedKeys}
use Rattle.dc_twin.specs.Twinned.{twinned}
use Rattle.dc_twin.proofs.FlatRows.{length-rows, row-at, item-at}
use Rattle.dc_twin.proofs.DemandRows.{flat-of_map, flat-same}

-- ---- sums

-- a row of the demands
demand-row : (net : Net) (p : List ℕ) (t : ℕ) → t < net.words → row_in net.stations (flat_map (λ row. row) (demands net p)) t ≡ demands_in net p (all_rounds net) t
demand-row net p t low =
    let count = length-map-range_with_len (demands_in net p (all_rounds net)) 0 net.words in
    row-at (λ (row : List (List ℕ)). row) net.stations (demands net p) t []
    (All-map (λ row. length row ≡ net.stations) (demands_in net p (all_rounds net)) (range_with_len 0 net.words) (λ k e within. length-map-range_with_len _ 0 net.stations)) (omega arith)
    ∙ get_or-map-range_with_len (demands_in net p (all_rounds net)) 0 net.words t t [] low (omega arith)

-- the sums of the rows of all demands
pub sums-are : (net : Net) (p : List ℕ) → sums_in (key_graph net) net.words (flat_map (λ row. row) (demands net p)) ≡ flat_map (λ row. row) (sums_of net p)
sums-are net p =
    let g = key_graph net in
    flat-same (λ t. below_sums (key_graph net) (row_in net.stations (flat_map (λ row. row) (demands net p)) t)) (λ t. below_sums (key_graph net) (demands_in net p (all_rounds net) t)) 0 net.words
    (λ t low. ap (below_sums (key_graph net)) (demand-row net p t (omega arith)))
    ∙ sym (flat-of_map (below_sums (key_graph net)) (demands net p) ∙ flat-map_map (demands_in net p (all_rounds net)) (below_sums (key_graph net)) (range_with_len 0 net.words))
  where
    flat-map_map : {A B C : Type 0} (k : A → B) (h : B → List C) (xs : List A) → flat_map h (map k xs) ≡ flat_map (λ x. h (k x)) xs
    flat-map_map k h [] = refl
    flat-map_map k h (x ∷ xs) = ap (λ ys. h (k x) ++ ys) (flat-map_map k h xs)

-- ---- shifts

-- a sum of a station
sum-at : (net : Net) (p : List ℕ) (t c : ℕ) → t < net.words → c < net.stations
    → slice_index_or (flat_map (λ row. row) (sums_of net p)) (t * net.stations + c) zero_word ≡ word_of_station (get_or (sums_of net p) t []) c
sum-at net p t c low within =
    let count = length-sums_of net p in
    item-at net.stations t c (flat_map (λ row. row) (sums_of net p)) (get_or (sums_of net p) t []) zero_word
    (row-at (λ (row : List (List ℕ)). row) net.stations (sums_of net p) t []
    (All-map (λ row. length row ≡ net.stations) (below_sums (key_graph net)) (demands net p) (λ k e below. length-map-range_with_len _ 0 net.stations)) (omega arith)) within

-- the words of an edge
words-are : (net : Net) (p : List ℕ) (u c : ℕ) → c < net.stations
    → edge_words net.words net.stations c (c == u) (flat_map (λ row. row) (sums_of net p)) ≡ map (shift_word u c) (sums_of net p)
words-are net p u c within =
    let count = length-sums_of net p in
    sym (fill_by_all (λ t. signed (c == u) (slice_index_or (flat_map (λ row. row) (sums_of net p)) (t * net.stations + c) zero_word)) (map (shift_word u c) (sums_of net p)) net.words zero_word
    (length-map (sums_of net p) (shift_word u c) ∙ count)
    (λ t low. get_or-map (shift_word u c) (sums_of net p) t [] zero_word (omega arith) ∙ ap (signed (c == u)) (sym (sum-at net p t c low within))))

-- the child of an edge is one of its ends
child-within : (ps : List (Option ℕ)) (pair : Pair) (n c : ℕ) → pair.u < n → pair.v < n → child_end ps pair ≡ Some c → c < n
child-within ps pair n c u v is = by_case (is_parent ps pair.v pair.u) (is_parent ps pair.u pair.v) is
  where
    by_case : (a b : Bool) → cond a (Some pair.u) (cond b (Some pair.v) None) ≡ Some c → c < n
    by_case true b e = let same : pair.u ≡ c = cc in omega arith
    by_case false true e = let same : pair.v ≡ c = cc in omega arith
    by_case false false e = let clash : ⊥ = cc in absurd clash

-- the shift of an edge with this child
abbrev shift_by : Net → List ℕ → Pair → ℕ → Shift
shift_by net p pair c = record { u = pair.u; v = pair.v; words = edge_words net.words net.stations c (c == pair.u) (flat_map (λ row. row) (sums_of net p)) }

shift-by : (net : Net) (p : List ℕ) (pair : Pair) (c : ℕ) → c < net.stations → shift_by net p pair c ≡ tree_shift (sums_of net p) pair c
shift-by net p pair c within = ap with_words (words-are net p pair.u c within)
  where
    with_words : List (List ℕ) → Shift
    with_words ws = record { u = pair.u; v = pair.v; words = ws }

-- the shift of an edge
pub shift-is : (net : Net) (p : List ℕ) (pair : Pair) → pair.u < net.stations → pair.v < net.stations
    → edge_shift (key_graph net) net.words (flat_map (λ row. row) (sums_of net p)) pair ≡ shift_of (parents (key_graph net)) (sums_of net p) pair
shift-is net p pair u v = by_case (child_end (parents (key_graph net)) pair) (λ c is. child-within (parents (key_graph net)) pair net.stations c u v is)
  where
    by_case : (o : Option ℕ) → ((c : ℕ) → o ≡ Some c → c < net.stations) → option_map (shift_by net p pair) o ≡ option_map (tree_shift (sums_of net p) pair) o
    by_case None within = refl
    by_case (Some c) within = ap (λ (s : Shift). Some s) (shift-by net p pair c (within c refl))

-- ---- all pairs

chosen-same : {A B : Type 0} (f g : A → Option B) (xs : List A) → All (λ x. f x ≡ g x) xs → filter_map f xs ≡ filter_map g xs
chosen-same f g [] same = refl
chosen-same f g (x ∷ xs) same =
    ap (λ o. cons_option o (filter_map f xs)) (All-head (λ z. f z ≡ g z) x xs same) ∙ ap (cons_option (g x)) (chosen-same f g xs (All-tail (λ z. f z ≡ g z) x xs same))

-- the ends of a pair of a net are stations
pub ends-within : (net : Net) → IsNet net → All (λ pair. (pair.u < net.stations) × (pair.v < net.stations)) net.keys.pairs
ends-within net is k d low =
    let pair = is.keys.are_pairs k d low in
    let same = (all_agree net is.agrees).key_stations in
    let ends = pair.ends in
    let within = pair.within in (omega arith, omega arith)

pub shifts-are : (net : Net) (p : List ℕ) → IsNet net → filter_map (edge_shift (key_graph net) net.words (flat_map (λ row. row) (sums_of net p))) net.keys.pairs ≡ shifts net p
shifts-are net p is =
    chosen-same (edge_shift (key_graph net) net.words (flat_map (λ row. row) (sums_of net p))) (shift_of (parents (key_graph net)) (sums_of net p)) net.keys.pairs
    (λ k d low. let ends = ends-within net is k d low in shift-is net p (get_or net.keys.pairs k d) ends.0 ends.1)

pub pairs-are : (net : Net) (p : List ℕ) → IsNet net →
    map (λ pair. with_shift (edge_shift (key_graph net) net.words (flat_map (λ row. row) (sums_of net p)) pair) pair) net.keys.pairs ≡ (twin net p).keys.pairs
pairs-are net p is =
    map-same (λ pair. with_shift (edge_shift (key_graph net) net.words (flat_map (λ row. row) (sums_of net p)) pair) pair) (λ pair. with_shift (shift_of (parents (key_graph net)) (sums_of net p) pair) pair)
    net.keys.pairs (λ k d low. let ends = ends-within net is k d low in ap (λ (o : Option Shift). with_shift o (get_or net.keys.pairs k d)) (shift-is net p (get_or net.keys.pairs k d) ends.0 ends.1))
    ∙ sym (twin-pairs net p)

-- ---- sizes

pub demands-size : (net : Net) (p : List ℕ) → length (flat_map (λ row. row) (demands net p)) ≡ net.words * net.stations
demands-size net p =
    length-rows (λ (row : List (List ℕ)). row) net.stations (demands net p)
    (All-map (λ row. length row ≡ net.stations) (demands_in net p (all_rounds net)) (range_with_len 0 net.words) (λ k e within. length-map-range_with_len _ 0 net.stations))
    ∙ ap (λ (m : ℕ). m * net.stations) (length-map-range_with_len (demands_in net p (all_rounds net)) 0 net.words)

pub sums-size : (net : Net) (p : List ℕ) → length (flat_map (λ row. row) (sums_of net p)) ≡ net.words * net.stations
sums-size net p =
    length-rows (λ (row : List (List ℕ)). row) net.stations (sums_of net p)
    (All-map (λ row. length row ≡ net.stations) (below_sums (key_graph net)) (demands net p) (λ k e within. length-map-range_with_len _ 0 net.stations))
    ∙ ap (λ (m : ℕ). m * net.stations) (length-sums_of net p)

-- the shifts and keys that are made are those of the twin
pub twinned-is : (net : Net) (p : List ℕ) (made : List Shift) (stations words : ℕ) (pairs : List Pair) → made ≡ shifts net p → stations ≡ net.keys.stations → words ≡ net.keys.words
    → pairs ≡ (twin net p).keys.pairs → ◌≡◌ {A = TwinnedKeys} (record { shifts = made; keys = record { stations = stations; words = words; pairs = pairs } }) (twinned net p)
twinned-is net p made stations words pairs same_shifts same_stations same_words same_pairs =
    λ i. record { shifts = same_shifts i; keys = record { stations = same_stations i; words = same_words i; pairs = same_pairs i } }

-- the sums that are made of the demands
pub sums-made : (net own : Net) (p : List ℕ) (words made sums : List (List ℕ)) → own ≡ net → words ≡ flat_map (λ row. row) (demands net p) → made ≡ sums_in (key_graph own) own.words words
    → sums ≡ made → sums ≡ flat_map (λ row. row) (sums_of net p)
sums-made net own p words made sums same is made_so read =
    read ∙ made_so ∙ ap (λ (n : Net). sums_in (key_graph n) n.words words) same ∙ ap (sums_in (key_graph net) net.words) is ∙ sums-are net p

-- the shifts that are made of them
pub shifts-made : (net own : Net) (p : List ℕ) (sums : List (List ℕ)) (made : List Shift) → IsNet net → own ≡ net → sums ≡ flat_map (λ row. row) (sums_of net p)
    → made ≡ filter_map (edge_shift (key_graph own) own.words sums) own.keys.pairs → made ≡ shifts net p
shifts-made net own p sums made is same are made_so =
    made_so ∙ ap (λ (n : Net). filter_map (edge_shift (key_graph n) n.words sums) n.keys.pairs) same
    ∙ ap (λ (ws : List (List ℕ)). filter_map (edge_shift (key_graph net) net.words ws) net.keys.pairs) are ∙ shifts-are net p is

-- and the pairs
pub pairs-made : (net own : Net) (p : List ℕ) (sums : List (List ℕ)) (made : List Pair) → IsNet net → own ≡ net → sums ≡ flat_map (λ row. row) (sums_of net p)
    → made ≡ map (λ pair. with_shift (edge_shift (key_graph own) own.words sums pair) pair) own.keys.pairs → made ≡ (twin net p).keys.pairs
pairs-made net own p sums made is same are made_so =
    made_so ∙ ap (λ (n : Net). map (λ pair. with_shift (edge_shift (key_graph n) n.words sums pair) pair) n.keys.pairs) same
    ∙ ap (λ (ws : List (List ℕ)). map (λ pair. with_shift (edge_shift (key_graph net) net.words ws pair) pair) net.keys.pairs) are ∙ pairs-are net p is

-- a shift has a word for each row
pub shift-length : (g : KeyGraph) (rows : ℕ) (sums : List (List ℕ)) (pair : Pair) (s : Shift) → edge_shift g rows sums pair ≡ Some s → length s.words ≡ rows
shift-length g rows sums pair s is = by_case (child_end (parents g) pair) is
  where
    by_case : (o : Option ℕ) → option_map (λ (c : ℕ). let s : Shift = record { u = pair.u; v = pair.v; words = edge_words rows g.stations c (c == pair.u) sums } in s) o ≡ Some s → length s.words ≡ rows
    by_case None e = let clash : ⊥ = cc in absurd clash
    by_case (Some c) e = sym (ap (λ (o : Option Shift). option_map_or (λ z. length z.words) o rows) e) ∙ length-map-range_with_len _ 0 rows

-- a pair has sixteen first pads for each word
pub pads-size : (net : Net) → IsNet net → (pairs : List Pair) (k : ℕ) (q : Pair) → pairs ≡ net.keys.pairs → k < length pairs → q ≡ get_or pairs k q → length q.a ≡ 16 * net.words
pads-size net is pairs k q same low at =
    let there = at ∙ ap (λ (ps : List Pair). get_or ps k q) same in
    let within : k < length net.keys.pairs = subst (λ (ps : List Pair). k < length ps) same low in
    ap (λ (z : Pair). length z.a) there ∙ (is.keys.are_pairs k q within).first_pads ∙ ap (λ (n : ℕ). 16 * n) (all_agree net is.agrees).words
