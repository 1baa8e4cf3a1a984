-- The rounds of a twin are those of its net.
use Rattle.std.proofs.Common.{◌≡◌, ℕ, zero, suc, ◌<◌, ◌≤◌, Bool, true, false, cond, List, [], ◌∷◌, ◌++◌, length, map, refl, sym, ◌∙◌, ap, subst, arith}
use Rattle.std.specs.List.{All, range_with_len}
use Rattle.dc_spec.specs.Lists.{is_among}
use Rattle.dc_spec.specs.Words.{zero_word, word_sum}
use Rattle.dc_spec.specs.Scripts.{word_by_rule}
use Rattle.dc_spec.specs.Net.{Net}
use Rattle.dc_net_rules.specs.Nets.{IsNet}
use Rattle.dc_net_rules.specs.Runs.{Round, word_of_station, station_stream, station_word, script_turn, published, history, honest_words, heard, next_round, rounds_of, all_rounds, IsAlike, IsAlikeIn}
use Rattle.dc_twin_rules.specs.Twins.{Admits, twin}
use Rattle.dc_twin_rules.proofs.KeyedSums.{all_range}
use Rattle.dc_twin_rules.proofs.Changes.{map-same}
use Rattle.dc_twin_rules.proofs.StationRounds.{word-kept}

-- the words of a round, from those of its honest stations
words_from : Net → List Round → List (List ℕ) → List (List ℕ)
words_from net played honest = map (λ i.
    cond (is_among net.coalition i) (word_by_rule (script_turn net (length played)).says (published played ++ honest) net.stations i) (word_of_station honest i)
    ) (range_with_len 0 net.stations)

-- and the round, from its words
round_from : Net → List Round → List (List ℕ) → Round
round_from net played words = record {
  words = words;
  sum = word_sum words;
  received = map (heard net (script_turn net (length played)).delivery (published played ++ words) (word_sum words)) (range_with_len 0 net.stations);
}

-- the honest words of a round stay
honest-kept : (net : Net) (p : List ℕ) → IsNet net → IsAlike net → Admits net p → (t : ℕ) → t < net.words → honest_words (twin net p) (rounds_of net t) ≡ honest_words net (rounds_of net t)
honest-kept net p is alike admits t within =
    let new : ℕ → List ℕ = λ i. station_word (station_stream (twin net p) i) (twin net p).keys.pairs i (history (rounds_of net t) i) in
    let old : ℕ → List ℕ = λ i. station_word (station_stream net i) net.keys.pairs i (history (rounds_of net t) i) in
    map-same (λ i. cond (is_among net.coalition i) zero_word (new i)) (λ i. cond (is_among net.coalition i) zero_word (old i)) (range_with_len 0 net.stations)
    (all_range (λ i. cond (is_among net.coalition i) zero_word (new i) ≡ cond (is_among net.coalition i) zero_word (old i)) net.stations
    (λ i low. by_case (is_among net.coalition i) (new i) (old i) (λ honest. word-kept net p is alike admits t within i low honest)))
  where
    by_case : (b : Bool) (v w : List ℕ) → (b ≡ false → v ≡ w) → cond b zero_word v ≡ cond b zero_word w
    by_case true v w same = refl
    by_case false v w same = same refl

-- so the round stays
round-kept : (net : Net) (p : List ℕ) → IsNet net → IsAlike net → Admits net p → (t : ℕ) → t < net.words → next_round (twin net p) (rounds_of net t) ≡ next_round net (rounds_of net t)
unfolding words_from round_from
round-kept net p is alike admits t within = ap (λ (honest : List (List ℕ)). round_from net (rounds_of net t) (words_from net (rounds_of net t) honest)) (honest-kept net p is alike admits t within)

first-rounds : (net : Net) (p : List ℕ) → IsNet net → IsAlike net → Admits net p → (t : ℕ) → t ≤ net.words → rounds_of (twin net p) t ≡ rounds_of net t
unfolding rounds_of
first-rounds net p is alike admits zero within = refl
first-rounds net p is alike admits (suc t) within =
    ap (λ (played : List Round). played ++ next_round (twin net p) played ∷ []) (first-rounds net p is alike admits t (omega arith))
    ∙ ap (λ (round : Round). rounds_of net t ++ round ∷ []) (round-kept net p is alike admits t (omega arith))

-- the rounds of a twin are those of its net
pub rounds-kept : (net : Net) (p : List ℕ) → IsNet net → IsAlike net → Admits net p → all_rounds (twin net p) ≡ all_rounds net
rounds-kept net p is alike admits = first-rounds net p is alike admits net.words (omega arith)

-- and it is alike too
pub alike-kept : (net : Net) (p : List ℕ) → IsNet net → IsAlike net → Admits net p → IsAlike (twin net p)
alike-kept net p is alike admits = subst (λ (rounds : List Round). All (IsAlikeIn net) rounds) (sym (rounds-kept net p is alike admits)) alike
