-- Without a coalition the sum of a round is the sum of all plain words.
use Rattle.std.proofs.Common.{◌≡◌, ℕ, suc, ◌+◌, ◌%◌, ◌<◌, ◌≤◌, Bool, false, List, [], ◌∷◌, ◌++◌, length, map, take, get_or, slice_index, slice_index_or, sum_by, All, if◌then◌else◌, sym, ◌∙◌, ap, arith}
use Rattle.std.specs.List.{range_with_len}
use Rattle.std.proofs.lemmas.List.{get_or-take, get_or-append-add, map_push, length-map}
use Rattle.std.proofs.lemmas.List.Elements.{All-weaker}
use Rattle.std.proofs.lemmas.List.FromFn.{get_or-map-range_with_len}
use Rattle.dc_spec.specs.Lists.{is_among}
use Rattle.dc_spec.specs.Words.{zero_word}
use Rattle.dc_spec.specs.Net.{Net}
use Rattle.dc_spec.specs.Pads.{Pair}
use Rattle.dc_spec.specs.Scripts.{word_by_rule}
use Rattle.dc_spec.proofs.ListLemmas.{below_range}
use Rattle.dc_spec.proofs.SumLemmas.{sum_by-map, sum_by-same, sum_by-plus, sum_by-mod}
use Rattle.dc_spec.proofs.WordLemmas.{symbol-word_of, word_of-same}
use Rattle.dc_formats.specs.KeyFile.{IsPair}
use Rattle.dc_key_rules.specs.PairKeys.{key_part}
use Rattle.dc_key_rules.proofs.KeyLemmas.{keys-cancel}
use Rattle.dc_station_rules.specs.Stations.{plain_word, log_of}
use Rattle.dc_net_rules.specs.Nets.{IsNet}
use Rattle.dc_net_rules.specs.Runs.{Round, word_of_station, station_stream, script_turn, published, history, station_word, honest_words, next_words, next_round, rounds_of, run_of}
use Rattle.dc_net_rules.proofs.Agreeing.{all_agree}
use Rattle.dc_net_rules.proofs.RoundLemmas.{length-rounds_of}
use Rattle.dc_message_rules.specs.PlainSums.{plain_sum}
use Rattle.dc_message_rules.proofs.Deliveries.{first_sums, histories-sums}

-- without a coalition no station is a member
no_member : (net : Net) → net.coalition ≡ [] → (i : ℕ) → is_among net.coalition i ≡ false
no_member net none i = ap (λ (members : List ℕ). is_among members i) none

-- so each station's word is its plain word and its keys
station_says : (net : Net) → net.coalition ≡ [] → (played : List Round) (i : ℕ) → i < net.stations → word_of_station (next_words net played) i
    ≡ station_word (station_stream net i) net.keys.pairs i (history played i)
station_says net none played i low =
    let honest = honest_words net played in
    let own : ℕ → List ℕ = λ j. station_word (station_stream net j) net.keys.pairs j (history played j) in
    let said : ℕ → List ℕ = λ j. word_by_rule (script_turn net (length played)).says (published played ++ honest) net.stations j in
    get_or-map-range_with_len (λ j. if is_among net.coalition j then said j else word_of_station honest j) 0 net.stations i i zero_word low (omega arith)
    ∙ ap (λ (b : Bool). if b then said i else word_of_station honest i) (no_member net none i)
    ∙ get_or-map-range_with_len (λ j. if is_among net.coalition j then zero_word else own j) 0 net.stations i i zero_word low (omega arith)
    ∙ ap (λ (b : Bool). if b then zero_word else own i) (no_member net none i)

-- symbol by symbol
says_symbol : (net : Net) → net.coalition ≡ [] → (played : List Round) (received : List (List ℕ)) (i : ℕ) → i < net.stations → history played i ≡ received → (l : ℕ) → l < 16 →
    slice_index (word_of_station (next_words net played) i) l
    ≡ (slice_index (plain_word (station_stream net i) received) l + slice_index (key_part net.keys.pairs i received) l) % 65537
says_symbol net none played received i low same l few =
    ap (λ (w : List ℕ). slice_index w l) (station_says net none played i low ∙ ap (λ (h : List (List ℕ)). station_word (station_stream net i) net.keys.pairs i h) same)
    ∙ symbol-word_of (λ k. (slice_index (plain_word (station_stream net i) received) k + slice_index (key_part net.keys.pairs i received) k) % 65537) l few

-- the words of a round, station by station
words_of : (net : Net) (played : List Round) (f : List ℕ → ℕ) → sum_by f (next_words net played) ≡ sum_by (λ i. f (word_of_station (next_words net played) i)) (range_with_len 0 net.stations)
words_of net played f =
    let said : ℕ → List ℕ = λ j. if is_among net.coalition j then word_by_rule (script_turn net (length played)).says (published played ++ honest_words net played) net.stations j
    else word_of_station (honest_words net played) j in
    sum_by-map f said (range_with_len 0 net.stations)
    ∙ sum_by-same (λ j. f (said j)) (λ i. f (word_of_station (next_words net played) i)) (range_with_len 0 net.stations)
    (λ i there. let low : i < 0 + net.stations = below_range 0 net.stations i there in
    ap f (sym (get_or-map-range_with_len said 0 net.stations i i zero_word (omega arith) (omega arith))))

-- a sum of which one part is zero
without : (x p k : ℕ) → x ≡ (p + k) % 65537 → k % 65537 ≡ 0 → x ≡ p % 65537
without x p k is zero_is = omega arith

-- the sum of a round in which all stations have one history
round_plain : (net : Net) → IsNet net → net.coalition ≡ [] → (played : List Round) (received : List (List ℕ)) → ((i : ℕ) → i < net.stations → history played i ≡ received)
    → (next_round net played).sum ≡ plain_sum net received
round_plain net is none played received same = word_of-same _ _ (λ l few.
    let stations = range_with_len 0 net.stations in
    let p : ℕ → ℕ = λ i. slice_index (plain_word (station_stream net i) received) l in
    let k : ℕ → ℕ = λ i. slice_index (key_part net.keys.pairs i received) l in
    let by_station = words_of net played (λ w. slice_index w l)
    ∙ sum_by-same (λ i. slice_index (word_of_station (next_words net played) i) l) (λ i. (p i + k i) % 65537) stations
    (λ i there. let low : i < 0 + net.stations = below_range 0 net.stations i there in
    says_symbol net none played received i (omega arith) (same i (omega arith)) l few) in
    let apart : sum_by (λ i. p i + k i) stations % 65537 ≡ (sum_by p stations + sum_by k stations) % 65537 = ap (λ s. s % 65537) (sum_by-plus p k stations) in
    let keys_zero : sum_by k stations % 65537 ≡ 0 = sym (ap (λ s. s % 65537) (sum_by-map (λ w. slice_index w l) (λ i. key_part net.keys.pairs i received) stations))
    ∙ sym (symbol-word_of (λ m. sum_by (λ w. slice_index w m) (map (λ i. key_part net.keys.pairs i received) stations) % 65537) l few)
    ∙ ap (λ (w : List ℕ). slice_index w l) (keys-cancel net.stations net.keys.pairs received (below_u net is) (below_v net is))
    ∙ symbol-word_of (λ _. 0) l few in
    let plain : sum_by p stations ≡ sum_by (λ w. slice_index w l) (map (λ i. plain_word (station_stream net i) received) stations) =
    sym (sum_by-map (λ w. slice_index w l) (λ i. plain_word (station_stream net i) received) stations) in
    without _ (sum_by p stations) (sum_by k stations) (ap (λ s. s % 65537) by_station ∙ sum_by-mod (λ i. p i + k i) stations ∙ apart) keys_zero
    ∙ ap (λ s. s % 65537) plain)
  where
    ends : (net : Net) → IsNet net → All (λ (pair : Pair). (pair.u < pair.v) × (pair.v < net.stations)) net.keys.pairs
    ends net is = let count = (all_agree net is.agrees).key_stations in
        All-weaker (IsPair net.keys.stations net.keys.words) (λ (pair : Pair). (pair.u < pair.v) × (pair.v < net.stations)) (λ pair fits.
        (fits.ends, let low = fits.within in omega arith)) net.keys.pairs is.keys.are_pairs

    below_u : (net : Net) → IsNet net → All (λ (pair : Pair). pair.u < net.stations) net.keys.pairs
    below_u net is = All-weaker (λ (pair : Pair). (pair.u < pair.v) × (pair.v < net.stations)) (λ (pair : Pair). pair.u < net.stations)
        (λ pair e. let up = e.0 in let low = e.1 in omega arith) net.keys.pairs (ends net is)

    below_v : (net : Net) → IsNet net → All (λ (pair : Pair). pair.v < net.stations) net.keys.pairs
    below_v net is = All-weaker (λ (pair : Pair). (pair.u < pair.v) × (pair.v < net.stations)) (λ (pair : Pair). pair.v < net.stations) (λ pair e. e.1) net.keys.pairs (ends net is)

-- the sum of round t
sum_at : (net : Net) (t : ℕ) → t < net.words → slice_index_or (run_of net).sums t [] ≡ (next_round net (rounds_of net t)).sum
unfolding rounds_of
sum_at net t less =
    let sum : Round → List ℕ = λ r. r.sum in
    let played = rounds_of net t in
    let sums = map sum played in
    let round = next_round net played in
    let size = length-rounds_of net t in
    let mapped = length-map played sum in
    sym (get_or-take (suc t) (run_of net).sums t [] (omega arith))
    ∙ ap (λ (ws : List (List ℕ)). get_or ws t []) (first_sums net (suc t) (omega arith) ∙ map_push sum played round)
    ∙ ap (λ (k : ℕ). get_or (sums ++ round.sum ∷ []) k []) (let e : t ≡ length sums + 0 = omega arith in e)
    ∙ get_or-append-add sums (round.sum ∷ []) 0 []

-- the sum of each round is the sum of all plain words
pub sums-plain : (net : Net) → IsNet net → net.coalition ≡ [] → (t : ℕ) → t < net.words → slice_index_or (run_of net).sums t [] ≡ plain_sum net (take t (run_of net).sums)
sums-plain net is none t less = sum_at net t less ∙ round_plain net is none (rounds_of net t) (take t (run_of net).sums) (λ i low. histories-sums net is none t (omega arith) i low)

-- one history gives one log
pub logs-agree : (net : Net) → IsNet net → net.coalition ≡ [] → (t : ℕ) → t ≤ net.words → (i j : ℕ) → i < net.stations → j < net.stations
    → log_of (history (rounds_of net t) i) ≡ log_of (history (rounds_of net t) j)
logs-agree net is none t le i j low_i low_j = ap log_of (histories-sums net is none t le i low_i ∙ sym (histories-sums net is none t le j low_j))
