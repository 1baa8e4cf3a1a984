-- A session whose accepted words are those of a net's run is a live session of the net.
use Rattle.std.proofs.Common.{◌≡◌, ℕ, zero, suc, ◌+◌, ◌*◌, ◌<◌, ◌≤◌, false, List, ◌++◌, map, slice_get, Option, Some, unwrap_or, refl, sym, ◌∙◌, ap, ap₂, arith}
use Rattle.std.specs.List.{range_with_len}
use Rattle.std.proofs.Math.Nat.{mul-le-mul_right}
use Rattle.std.proofs.lemmas.Option.{slice_get-get_or}
use Rattle.dc_spec.specs.Lists.{is_among}
use Rattle.dc_spec.specs.Words.{zero_word}
use Rattle.dc_spec.specs.Net.{Net}
use Rattle.dc_spec.specs.Scripts.{word_by_rule}
use Rattle.dc_hub_rules.specs.Hubs.{Arrival, accepted, complete_rounds, round_start}
use Rattle.dc_hub_rules.proofs.OneMore.{accepted_complete, rounds_counted}
use Rattle.dc_net_rules.specs.Runs.{word_of_station, station_stream, station_word, script_turn, published, honest_words, next_words, rounds_of, DeliversSums}
use Rattle.dc_net_rules.proofs.RoundLemmas.{published_more}
use Rattle.dc_net_rules.proofs.RunLemmas.{honest_below}
use Rattle.dc_live_rules.specs.LiveRuns.{accepted_word, honest_accepted, IsLiveRun, AcceptsRun}
use Rattle.dc_live_rules.proofs.Rows.{pieces_more, rows, length-rows, row_item}
use Rattle.dc_live_rules.proofs.RunWords.{no_member, own_word, next_own, next_said, honest_same, words_same}
use Rattle.dc_live_rules.proofs.LiveRounds.{AreRunRounds, no_rounds, one_more}

-- the word of a station in a round of the run
abbrev run_word : Net → ℕ → ℕ → List ℕ
run_word net i t = word_of_station (next_words net (rounds_of net t)) i

-- all words of the first rounds
published_rows : (net : Net) (t : ℕ) → published (rounds_of net t) ≡ rows (run_word net) net.stations t
unfolding rounds_of
published_rows net zero = refl
published_rows net (suc t) =
    published_more net (rounds_of net t)
    ∙ ap₂ (λ (us vs : List (List ℕ)). us ++ vs) (published_rows net t) (sym (words_same net t (λ i. run_word net i t) (λ i low. refl)))
    ∙ sym (pieces_more (λ r. map (λ i. run_word net i r) (range_with_len 0 net.stations)) t)

-- the accepted words are those of the run
accepted_is : (net : Net) (xs : List Arrival) → AcceptsRun net xs → (i t : ℕ) → i < net.stations → t < net.words → accepted net.stations xs i t ≡ Some (run_word net i t)
accepted_is net xs accepts i t low less =
    let n = net.stations in
    let size = length-rows (run_word net) n net.words in
    let e : suc t * n ≤ net.words * n = mul-le-mul_right n less in
    let split : suc t * n ≡ t * n + n = omega arith in
    sym (accepts i t low less)
    ∙ ap (λ (ws : List (List ℕ)). slice_get ws (t * n + i)) (published_rows net net.words)
    ∙ slice_get-get_or (rows (run_word net) n net.words) (t * n + i) zero_word (omega arith)
    ∙ ap (λ (w : List ℕ). Some w) (row_item (run_word net) n net.words i t zero_word low less)

word_is : (net : Net) (xs : List Arrival) → AcceptsRun net xs → (i t : ℕ) → i < net.stations → t < net.words → accepted_word net.stations xs i t ≡ run_word net i t
word_is net xs accepts i t low less = ap (λ (o : Option (List ℕ)). unwrap_or o zero_word) (accepted_is net xs accepts i t low less)

-- so all rounds are complete
begins : (net : Net) (xs : List Arrival) → AcceptsRun net xs → (t : ℕ) → t ≤ net.words → (s : ℕ) × (round_start net.stations xs t ≡ Some s)
unfolding round_start
begins net xs accepts zero le = (0, refl)
begins net xs accepts (suc t) le =
    let before = begins net xs accepts t (omega arith) in
    accepted_complete net.stations xs t before.0 before.1 (λ i low. (run_word net i t, accepted_is net xs accepts i t low (omega arith)))

all_complete : (net : Net) (xs : List Arrival) → AcceptsRun net xs → complete_rounds net.stations net.words xs ≡ net.words
all_complete net xs accepts =
    let last = begins net xs accepts net.words (omega arith) in
    rounds_counted net.stations net.words xs net.words last.0 (omega arith) last.1 (λ less. absurd (omega arith))

-- the rounds are the run's
run_rounds : (net : Net) (xs : List Arrival) → AcceptsRun net xs → (t : ℕ) → t ≤ net.words → AreRunRounds net xs t
run_rounds net xs accepts zero le = no_rounds net xs
run_rounds net xs accepts (suc t) le =
    one_more net xs t (all_complete net xs accepts) (omega arith) (run_rounds net xs accepts t (omega arith))
    (words_same net t (λ i. accepted_word net.stations xs i t) (λ i low. word_is net xs accepts i t low (omega arith)))

pub runs-are-live : (net : Net) (xs : List Arrival) → DeliversSums net → AcceptsRun net xs → IsLiveRun net xs
runs-are-live net xs sums accepts =
    let n = net.stations in
    let own : (i t : ℕ) → i < n → t < net.words → is_among net.coalition i ≡ false → accepted_word n xs i t ≡ own_word net t i = λ i t low less honest.
    word_is net xs accepts i t low less ∙ next_own net sums t i low honest in
    record {
      sums = sums;
      complete = all_complete net xs accepts;
      honest = λ i t honest less. own i t (honest_below net i honest) less (no_member net i honest)
          ∙ ap (station_word (station_stream net i) net.keys.pairs i) (sym (run_rounds net xs accepts t (omega arith)).sums);
      members = λ i t low member less. (
          let honest_are : honest_words net (rounds_of net t) ≡ honest_accepted net xs t = honest_same net sums t (λ j. accepted_word n xs j t) (λ j here honest. own j t here less honest) in
          word_is net xs accepts i t low less ∙ next_said net t i low member
          ∙ ap₂ (λ (us vs : List (List ℕ)). word_by_rule (script_turn net t).says (us ++ vs) n i) (sym (run_rounds net xs accepts t (omega arith)).words) honest_are);
    }
