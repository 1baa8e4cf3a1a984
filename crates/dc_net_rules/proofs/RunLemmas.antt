-- Runs: where every delivery is the sum, all honest stations receive alike.
use Rattle.std.proofs.Common.{◌≡◌, ℕ, zero, suc, ◌+◌, ◌<◌, not, List, [], ◌++◌, length, nat_lt, All, sym, ◌∙◌, ap, inl, inr, arith, ltb-true, ltb-false}
use Rattle.std.proofs.Math.ListN.{get_or-eq_default}
use Rattle.std.proofs.lemmas.List.FromFn.{get_or-map-range_with_len}
use Rattle.std.proofs.lemmas.List.Elements.{All-push}
use Rattle.std.specs.List.{range_with_len}
use Rattle.std.proofs.lemmas.Bool.{cases_Bool}
use Rattle.dc_spec.specs.Words.{zero_word}
use Rattle.dc_spec.specs.Scripts.{all_sum, Turn}
use Rattle.dc_spec.specs.Net.{Net}
use Rattle.dc_spec.specs.Lists.{is_among}
use Rattle.dc_net_rules.specs.Runs.{Round, word_of_station, script_turn, published, next_words, heard, next_round, rounds_of, IsHonest, IsAlikeIn, IsAlike, DeliversSums}
use Rattle.dc_spec.proofs.ListLemmas.{kept_stands, below_range}

-- where the script delivers sums, each round does
sum_delivered : (net : Net) → DeliversSums net → (t : ℕ) → (script_turn net t).delivery ≡ all_sum
sum_delivered net sums t = elim (cases_Bool (nat_lt t (length net.script.rounds))) [
  | inl inside ↦ sums t _ (ltb-true t (length net.script.rounds) inside)
  | inr past ↦ ap (λ (turn : Turn). turn.delivery) (get_or-eq_default net.script.rounds (record { says = []; delivery = all_sum }) (ltb-false t (length net.script.rounds) past))
]

-- what a round lets a station hear
pub heard_in : (net : Net) (played : List Round) (i : ℕ) → i < net.stations → word_of_station (next_round net played).received i ≡ heard net (script_turn net (length played)).delivery
    (published played ++ next_words net played) (next_round net played).sum i
heard_in net played i low =
    get_or-map-range_with_len (heard net (script_turn net (length played)).delivery (published played ++ next_words net played) (next_round net played).sum) 0 net.stations i i zero_word low (omega arith)

-- an honest station is a station
pub honest_below : (net : Net) (i : ℕ) → IsHonest net i → i < net.stations
honest_below net i honest = let bound : i < 0 + net.stations = below_range 0 net.stations i (kept_stands (λ j. not (is_among net.coalition j)) (range_with_len 0 net.stations) i honest) in omega arith

-- where the sum is delivered, an honest station hears it
hears_sum : (net : Net) → DeliversSums net → (played : List Round) (i : ℕ) → IsHonest net i → word_of_station (next_round net played).received i ≡ (next_round net played).sum
hears_sum net sums played i honest = heard_in net played i (honest_below net i honest) ∙ ap (λ d. heard net d (published played ++ next_words net played) (next_round net played).sum i) (sum_delivered net sums (length played))

-- so in the first rounds all honest stations receive alike
first_rounds_alike : (net : Net) → DeliversSums net → (t : ℕ) → All (IsAlikeIn net) (rounds_of net t)
unfolding rounds_of
first_rounds_alike net sums zero = λ k d low. absurd (omega arith)
first_rounds_alike net sums (suc t) = All-push (IsAlikeIn net) (rounds_of net t) (next_round net (rounds_of net t)) (first_rounds_alike net sums t)
    (λ i j honest_i honest_j. hears_sum net sums (rounds_of net t) i honest_i ∙ sym (hears_sum net sums (rounds_of net t) j honest_j))

-- where every delivery is the sum, all honest stations receive alike
pub sums-alike : (net : Net) → DeliversSums net → IsAlike net
sums-alike net sums = first_rounds_alike net sums net.words
