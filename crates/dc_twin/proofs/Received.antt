-- The words that a station received, from the words that a run delivered.
use Rattle.std.proofs.Common.{◌≡◌, ℕ, ◌+◌, ◌*◌, ◌<◌, List, [], length, map, take, drop, get_or, sym, ◌∙◌, ap, arith}
use Rattle.std.specs.List.{All}
use Rattle.std.proofs.lemmas.List.{length-map, get_or-map}
use Rattle.std.proofs.lemmas.List.FromFn.{fill_by_all}
use Rattle.dc_spec.specs.Words.{zero_word}
use Rattle.dc_spec.specs.Net.{Net}
use Rattle.dc_net_rules.specs.Runs.{Round, word_of_station, honest_stations, history, all_rounds, run_of}
use Rattle.dc_net_rules.proofs.RoundLemmas.{length-rounds_of, length-history}
use Rattle.dc_twin.specs.Demands.{words_at}
use Rattle.dc_twin.proofs.FlatRows.{length-rows, row-at, item-at}

-- what honest stations received in a round
abbrev pub row : Net → Round → List (List ℕ)
row net round = map (word_of_station round.received) (honest_stations net)

-- a word for each honest station
even : (net : Net) (played : List Round) → All (λ round. length (row net round) ≡ length (honest_stations net)) played
even net played k d low = length-map (honest_stations net) (word_of_station (get_or played k d).received)

pub delivered-size : (net : Net) → length (run_of net).delivered ≡ net.words * length (honest_stations net)
delivered-size net =
    length-rows (row net) (length (honest_stations net)) (all_rounds net) (even net (all_rounds net)) ∙ ap (λ (m : ℕ). m * length (honest_stations net)) (length-rounds_of net net.words)

-- a round without words
abbrev pub no_words : Round
no_words = record { words = []; sum = []; received = [] }

-- what was delivered in a round
pub delivered-row : (net : Net) (t : ℕ) → t < net.words
    → take (length (honest_stations net)) (drop (t * length (honest_stations net)) (run_of net).delivered) ≡ row net (get_or (all_rounds net) t no_words)
delivered-row net t low =
    let count = length-rounds_of net net.words in
    row-at (row net) (length (honest_stations net)) (all_rounds net) t no_words (even net (all_rounds net)) (omega arith)

-- the words at the place of an honest station are those that it received
pub received_is : (net : Net) (i j : ℕ) → j < length (honest_stations net) → get_or (honest_stations net) j 0 ≡ i
    → words_at net.words (length (honest_stations net)) j (run_of net).delivered ≡ history (all_rounds net) i
received_is net i j place is =
    let count = length-rounds_of net net.words in
    sym (fill_by_all (λ t. get_or (run_of net).delivered (t * length (honest_stations net) + j) zero_word) (history (all_rounds net) i) net.words zero_word (length-history net net.words i)
    (λ k low. get_or-map (λ (round : Round). word_of_station round.received i) (all_rounds net) k no_words zero_word (omega arith)
    ∙ ap (λ (w : ℕ). word_of_station (get_or (all_rounds net) k no_words).received w) (sym is)
    ∙ sym (get_or-map (word_of_station (get_or (all_rounds net) k no_words).received) (honest_stations net) j 0 zero_word place)
    ∙ sym (item-at (length (honest_stations net)) k j (run_of net).delivered (row net (get_or (all_rounds net) k no_words)) zero_word (delivered-row net k low) place)))
