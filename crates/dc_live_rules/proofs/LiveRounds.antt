-- The accepted words of a live session of a net are the words of its run.
use Rattle.std.proofs.Common.{◌≡◌, ℕ, zero, suc, ◌+◌, ◌*◌, ◌<◌, ◌≤◌, false, List, [], ◌∷◌, ◌++◌, slice_get, Option, Some, unwrap_or, refl, sym, ◌∙◌, ap, ap₂, inl, inr, arith}
use Rattle.std.specs.List.{range_with_len}
use Rattle.std.proofs.Math.Nat.{mul-le-mul_right}
use Rattle.std.proofs.lemmas.Bool.{cases_Bool}
use Rattle.std.proofs.lemmas.List.{map_push}
use Rattle.std.proofs.lemmas.Option.{slice_get-get_or}
use Rattle.dc_spec.specs.Lists.{is_among}
use Rattle.dc_spec.specs.Words.{zero_word, word_sum}
use Rattle.dc_spec.specs.Net.{Net}
use Rattle.dc_spec.specs.Scripts.{word_by_rule}
use Rattle.dc_spec.proofs.ListLemmas.{below_range}
use Rattle.dc_hub_rules.specs.Hubs.{Arrival, accepted, accepted_sum, complete_rounds}
use Rattle.dc_hub_rules.proofs.HubLemmas.{progress_began}
use Rattle.dc_hub_rules.proofs.OneMore.{began_before, complete_accepted}
use Rattle.dc_net_rules.specs.Runs.{Round, station_stream, script_turn, published, station_word, honest_words, next_words, next_round, rounds_of, run_of}
use Rattle.dc_net_rules.proofs.RoundLemmas.{published_more}
use Rattle.dc_live_rules.specs.LiveRuns.{accepted_word, round_accepted, accepted_words, accepted_sums, honest_accepted, IsLiveRun, AcceptsRun}
use Rattle.dc_live_rules.proofs.Rows.{filter_map-all, pieces_more, map_more, length-rows, row_item}
use Rattle.dc_live_rules.proofs.RunWords.{sums_of, is_honest, own_word, next_own, next_said, honest_same, words_same}

-- where all rounds are complete, each station has an accepted word in each
pub all_accepted : (n rounds : ℕ) (xs : List Arrival) → complete_rounds n rounds xs ≡ rounds → (i t : ℕ) → i < n → t < rounds → accepted n xs i t ≡ Some (accepted_word n xs i t)
all_accepted n rounds xs all i t low less =
    let last = progress_began n rounds xs rounds all in
    let ended = began_before n xs rounds last.0 (suc t) last.1 (omega arith) in
    let word = complete_accepted n xs t ended.0 i ended.1 low in
    word.1 ∙ ap (λ (w : List ℕ). Some w) (sym (ap (λ (o : Option (List ℕ)). unwrap_or o zero_word) word.1))

-- and its sum is that of these words
pub sum_accepted : (n rounds : ℕ) (xs : List Arrival) → complete_rounds n rounds xs ≡ rounds → (t : ℕ) → t < rounds → accepted_sum n xs t ≡ word_sum (round_accepted n xs t)
sum_accepted n rounds xs all t less = ap word_sum (filter_map-all (λ i. accepted n xs i t) zero_word (range_with_len 0 n) (λ i there.
    let low : i < 0 + n = below_range 0 n i there in all_accepted n rounds xs all i t (omega arith) less))

-- the accepted words of the first rounds are the run's, and so are the sums
pub record AreRunRounds (net : Net) (xs : List Arrival) (t : ℕ) : Type 0 where
  pub words : accepted_words net.stations xs t ≡ published (rounds_of net t)
  pub sums : accepted_sums net.stations xs t ≡ sums_of net t

pub no_rounds : (net : Net) (xs : List Arrival) → AreRunRounds net xs 0
unfolding rounds_of
no_rounds net xs = record { words = refl; sums = refl }

-- one round more
pub one_more : (net : Net) (xs : List Arrival) (t : ℕ) → complete_rounds net.stations net.words xs ≡ net.words → t < net.words → AreRunRounds net xs t
    → round_accepted net.stations xs t ≡ next_words net (rounds_of net t) → AreRunRounds net xs (suc t)
unfolding rounds_of
one_more net xs t all less are same =
    let n = net.stations in
    let played = rounds_of net t in
    record {
      words = pieces_more (round_accepted n xs) t ∙ ap₂ (λ (us vs : List (List ℕ)). us ++ vs) are.words same ∙ sym (published_more net played);
      sums = map_more (accepted_sum n xs) t
          ∙ ap₂ (λ (us : List (List ℕ)) (w : List ℕ). us ++ w ∷ []) are.sums (sum_accepted n net.words xs all t less ∙ ap word_sum same)
          ∙ sym (map_push (λ (r : Round). r.sum) played (next_round net played));
    }

-- the words of a round over those of the rounds before
round_same : (net : Net) (xs : List Arrival) → IsLiveRun net xs → (t : ℕ) → t < net.words → AreRunRounds net xs t → round_accepted net.stations xs t ≡ next_words net (rounds_of net t)
round_same net xs live t less are =
    let n = net.stations in
    let own : (i : ℕ) → i < n → is_among net.coalition i ≡ false → accepted_word n xs i t ≡ own_word net t i = λ i low honest.
    live.honest i t (is_honest net i low honest) less ∙ ap (station_word (station_stream net i) net.keys.pairs i) are.sums in
    let honest_are : honest_words net (rounds_of net t) ≡ honest_accepted net xs t = honest_same net live.sums t (λ i. accepted_word n xs i t) own in
    words_same net t (λ i. accepted_word n xs i t) (λ i low. elim (cases_Bool (is_among net.coalition i)) [
      | inl member ↦ live.members i t low member less
          ∙ ap₂ (λ (us vs : List (List ℕ)). word_by_rule (script_turn net t).says (us ++ vs) n i) are.words (sym honest_are)
          ∙ sym (next_said net t i low member)
      | inr honest ↦ own i low honest ∙ sym (next_own net live.sums t i low honest)
    ])

live_rounds : (net : Net) (xs : List Arrival) → IsLiveRun net xs → (t : ℕ) → t ≤ net.words → AreRunRounds net xs t
live_rounds net xs live zero le = no_rounds net xs
live_rounds net xs live (suc t) le =
    let before = live_rounds net xs live t (omega arith) in
    one_more net xs t live.complete (omega arith) before (round_same net xs live t (omega arith) before)

-- all rounds
pub live-runs : (net : Net) (xs : List Arrival) → IsLiveRun net xs
    → (accepted_words net.stations xs net.words ≡ (run_of net).words) × (accepted_sums net.stations xs net.words ≡ (run_of net).sums) × AcceptsRun net xs
live-runs net xs live =
    let n = net.stations in
    let all = live_rounds net xs live net.words (omega arith) in (
      all.words,
      all.sums,
      λ i t low less. (
          let size = length-rows (accepted_word n xs) n net.words in
          let e : suc t * n ≤ net.words * n = mul-le-mul_right n less in
          let split : suc t * n ≡ t * n + n = omega arith in
          ap (λ (ws : List (List ℕ)). slice_get ws (t * n + i)) (sym all.words)
          ∙ slice_get-get_or (accepted_words n xs net.words) (t * n + i) zero_word (omega arith)
          ∙ ap (λ (w : List ℕ). Some w) (row_item (accepted_word n xs) n net.words i t zero_word low less)
          ∙ sym (all_accepted n net.words xs live.complete i t low less)),
    )
