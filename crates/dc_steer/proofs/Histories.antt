-- The words that an honest station received are those at its place in the rows that a run delivered.
use Rattle.std.proofs.Common.{◌≡◌, ℕ, zero, suc, ◌+◌, ◌-◌, ◌*◌, ◌/◌, ◌<◌, ◌≤◌, not, Bool, false, List, [], ◌∷◌, ◌++◌, length, map, take, drop, filter, get_or, sym, ◌∙◌, ap, arith}
use Rattle.std.specs.List.{flat_map, range_with_len}
use Rattle.std.proofs.Math.Nat.{mul-div_cancel, div-mul-le_self, mul-le-mul_right}
use Rattle.std.proofs.Math.Seq.{drop-append_seam}
use Rattle.std.proofs.lemmas.List.{length-map, get_or-map, length-take-le, length-append}
use Rattle.std.proofs.lemmas.List.Concat.{get_or-flat_map}
use Rattle.std.proofs.lemmas.List.Elements.{filter-append}
use Rattle.std.proofs.lemmas.List.FromFn.{fill_by_all}
use Rattle.dc_spec.specs.Words.{zero_word}
use Rattle.dc_spec.specs.Lists.{is_among}
use Rattle.dc_spec.specs.Net.{Net}
use Rattle.dc_net_rules.specs.Runs.{Round, word_of_station, honest_stations, history, all_rounds, run_of}
use Rattle.dc_net_rules.proofs.RoundLemmas.{length-rounds_of, length-history}
use Rattle.dc_net.specs.WordList.{column}
use Rattle.dc_net.proofs.RowWalk.{passing}

-- ---- the place of an honest station

-- numbers and the numbers after them
range_split : (a i m : ℕ) → range_with_len a (i + m) ≡ range_with_len a i ++ range_with_len (a + i) m
range_split a zero m =
    let e : 0 + m ≡ m = omega arith in
    let f : a ≡ a + 0 = omega arith in ap (λ (k : ℕ). range_with_len a k) e ∙ ap (λ (b : ℕ). range_with_len b m) f
range_split a (suc i) m =
    let e : suc i + m ≡ suc (i + m) = omega arith in
    let f : a + 1 + i ≡ a + suc i = omega arith in
    ap (λ (k : ℕ). range_with_len a k) e
    ∙ ap (λ (xs : List ℕ). a ∷ xs) (range_split (a + 1) i m ∙ ap (λ (b : ℕ). range_with_len (a + 1) i ++ range_with_len b m) f)

-- those that pass come after those that passed before
left_from : (p : ℕ → Bool) (n i : ℕ) → i ≤ n → drop (length (filter p (range_with_len 0 i))) (filter p (range_with_len 0 n)) ≡ filter p (range_with_len i (n - i))
left_from p n i le =
    let e : n ≡ i + (n - i) = omega arith in
    let f : 0 + i ≡ i = omega arith in
    let whole : range_with_len 0 n ≡ range_with_len 0 i ++ range_with_len i (n - i) = ap (λ (k : ℕ). range_with_len 0 k) e ∙ range_split 0 i (n - i)
    ∙ ap (λ (b : ℕ). range_with_len 0 i ++ range_with_len b (n - i)) f in
    ap (λ (xs : List ℕ). drop (length (filter p (range_with_len 0 i))) xs) (ap (λ (xs : List ℕ). filter p xs) whole ∙ filter-append p (range_with_len 0 i) (range_with_len i (n - i)))
    ∙ drop-append_seam (filter p (range_with_len 0 i)) (filter p (range_with_len i (n - i)))

-- so many honest stations are before station i
abbrev pub place_of : Net → ℕ → ℕ
place_of net i = length (filter (λ k. not (is_among net.coalition k)) (range_with_len 0 i))

pub at_place : (net : Net) (i : ℕ) → i < net.stations → is_among net.coalition i ≡ false
    → (place_of net i < length (honest_stations net)) × (get_or (honest_stations net) (place_of net i) 0 ≡ i)
at_place net i low honest =
    let p : ℕ → Bool = λ k. not (is_among net.coalition k) in
    let here = passing p (honest_stations net) net.stations i (place_of net i) low (left_from p net.stations i (omega arith)) (ap not honest) in
    (here.0, here.1.0)

-- ---- rows of received words

-- what honest stations received in a round
abbrev row : Net → Round → List (List ℕ)
row net round = map (word_of_station round.received) (honest_stations net)

-- rows of one length
length-rows : (net : Net) (played : List Round) → length (flat_map (row net) played) ≡ length played * length (honest_stations net)
length-rows net [] = omega arith
length-rows net (round ∷ played) =
    let here = length-map (honest_stations net) (word_of_station round.received) in
    let rest = length-rows net played in
    length-append (row net round) (flat_map (row net) played) ∙ (omega arith)

-- as many rows as rounds
row-count : (net : Net) → 0 < length (honest_stations net) → length (run_of net).delivered / length (honest_stations net) ≡ net.words
row-count net some =
    let n = length (honest_stations net) in
    let size : length (run_of net).delivered ≡ net.words * length (honest_stations net) = length-rows net (all_rounds net)
    ∙ ap (λ (m : ℕ). m * length (honest_stations net)) (length-rounds_of net net.words) in
    ap (λ (m : ℕ). m / n) size ∙ mul-div_cancel net.words some

-- a word that was delivered, by round and place
delivered_at : (net : Net) (played : List Round) (k j : ℕ) (round : Round) → k < length played → j < length (honest_stations net)
    → get_or (flat_map (row net) played) (k * length (honest_stations net) + j) zero_word ≡ word_of_station (get_or played k round).received (get_or (honest_stations net) j 0)
delivered_at net played k j round low place =
    let first = length-rows net (take k played) ∙ ap (λ (m : ℕ). m * length (honest_stations net)) (length-take-le k played (omega arith)) in
    let size = length-map (honest_stations net) (word_of_station (get_or played k round).received) in
    ap (λ (m : ℕ). get_or (flat_map (row net) played) (m + j) zero_word) (sym first)
    ∙ get_or-flat_map (row net) played k j round zero_word low (omega arith)
    ∙ get_or-map (word_of_station (get_or played k round).received) (honest_stations net) j 0 zero_word place

-- the words at the place of an honest station are those that it received
pub received_is : (net : Net) (i : ℕ) → i < net.stations → is_among net.coalition i ≡ false
    → column (length (honest_stations net)) (place_of net i) (run_of net).delivered ≡ history (all_rounds net) i
received_is net i low honest =
    let at = at_place net i low honest in
    let j = place_of net i in
    let there = at.0 in
    let count = length-rounds_of net net.words in
    let rows = row-count net (omega arith) in
    let none : Round = record { words = []; sum = []; received = [] } in
    let f : ℕ → List ℕ = λ t. get_or (run_of net).delivered (t * length (honest_stations net) + place_of net i) zero_word in
    ap (λ (m : ℕ). map f (range_with_len 0 m)) rows
    ∙ sym (fill_by_all f (history (all_rounds net) i) net.words zero_word (length-history net net.words i)
    (λ k less. get_or-map (λ (round : Round). word_of_station round.received i) (all_rounds net) k none zero_word (omega arith)
    ∙ ap (λ (w : ℕ). word_of_station (get_or (all_rounds net) k none).received w) (sym at.1)
    ∙ sym (delivered_at net (all_rounds net) k j none (omega arith) there)))

-- a word of a row is there
pub row_within : (rows count t j size : ℕ) → t < rows → j < count → rows ≡ size / count → t * count + j < size
row_within rows count t j size low place is = within (size / count) (let e = is in omega arith) (div-mul-le_self size count)
  where
    within : (m : ℕ) → t < m → m * count ≤ size → t * count + j < size
    within m less all = let more = mul-le-mul_right {m = t + 1} {n = m} count (omega arith) in omega arith
