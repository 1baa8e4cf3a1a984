-- The words of a round of a net in which every delivery is the sum.
use Rattle.std.proofs.Common.{◌≡◌, ℕ, zero, suc, ◌+◌, ◌<◌, not, Bool, true, false, List, [], ◌∷◌, ◌++◌, length, map, if◌then◌else◌, refl, sym, ◌∙◌, ap, inl, inr, arith, nat_lt, ltb-true, ltb-false}
use Rattle.std.specs.List.{range_with_len}
use Rattle.std.proofs.Math.ListN.{get_or-eq_default}
use Rattle.std.proofs.lemmas.Bool.{cases_Bool}
use Rattle.std.proofs.lemmas.List.{map_push}
use Rattle.std.proofs.lemmas.List.FromFn.{get_or-map-range_with_len}
use Rattle.dc_spec.specs.Lists.{is_among}
use Rattle.dc_spec.specs.Words.{zero_word}
use Rattle.dc_spec.specs.Net.{Net}
use Rattle.dc_spec.specs.Scripts.{Delivery, all_sum, Turn, word_by_rule}
use Rattle.dc_spec.proofs.ListLemmas.{below_range, in_range, passes_kept, kept_passes}
use Rattle.dc_net_rules.specs.Runs.{Round, word_of_station, station_stream, script_turn, published, history, station_word, honest_words, next_words, heard, next_round, rounds_of, IsHonest, DeliversSums}
use Rattle.dc_net_rules.proofs.RoundLemmas.{length-rounds_of, history_more}
use Rattle.dc_net_rules.proofs.RunLemmas.{heard_in}
use Rattle.dc_live_rules.proofs.Rows.{map-same}

-- the sums of the first rounds
abbrev pub sums_of : Net → ℕ → List (List ℕ)
sums_of net t = map (λ (r : Round). r.sum) (rounds_of net t)

-- each round delivers the sum
delivered : (net : Net) → DeliversSums net → (t : ℕ) → (script_turn net t).delivery ≡ all_sum
delivered net sums t = elim (cases_Bool (nat_lt t (length net.script.rounds))) [
  | inl inside ↦ sums t _ (ltb-true t (length net.script.rounds) inside)
  | inr past ↦ ap (λ (turn : Turn). turn.delivery) (get_or-eq_default net.script.rounds (record { says = []; delivery = all_sum }) (ltb-false t (length net.script.rounds) past))
]

-- what a station received is the sums
pub received_sums : (net : Net) → DeliversSums net → (t i : ℕ) → i < net.stations → history (rounds_of net t) i ≡ sums_of net t
unfolding rounds_of
received_sums net sums zero i low = refl
received_sums net sums (suc t) i low =
    let played = rounds_of net t in
    let round = next_round net played in
    let hears : word_of_station round.received i ≡ round.sum = heard_in net played i low
    ∙ ap (λ (d : Delivery). heard net d (published played ++ next_words net played) round.sum i) (delivered net sums (length played)) in
    history_more played round i
    ∙ ap (λ (ws : List (List ℕ)). ws ++ word_of_station round.received i ∷ []) (received_sums net sums t i low)
    ∙ ap (λ (w : List ℕ). sums_of net t ++ w ∷ []) hears
    ∙ sym (map_push (λ (r : Round). r.sum) played round)

-- a station that is no member is honest, and the other way round
pub is_honest : (net : Net) (i : ℕ) → i < net.stations → is_among net.coalition i ≡ false → IsHonest net i
is_honest net i low no_member = passes_kept (λ j. not (is_among net.coalition j)) (range_with_len 0 net.stations) i (in_range 0 net.stations i (omega arith) (omega arith)) (ap not no_member)

pub no_member : (net : Net) (i : ℕ) → IsHonest net i → is_among net.coalition i ≡ false
no_member net i honest = turned (is_among net.coalition i) (kept_passes (λ j. not (is_among net.coalition j)) (range_with_len 0 net.stations) i honest)
  where
    turned : (b : Bool) → not b ≡ true → b ≡ false
    turned true h = sym h
    turned false h = refl

-- the word of an honest station over the sums
abbrev pub own_word : Net → ℕ → ℕ → List ℕ
own_word net t i = station_word (station_stream net i) net.keys.pairs i (sums_of net t)

pub honest_own : (net : Net) → DeliversSums net → (t i : ℕ) → i < net.stations → is_among net.coalition i ≡ false → word_of_station (honest_words net (rounds_of net t)) i ≡ own_word net t i
honest_own net sums t i low honest =
    let own : ℕ → List ℕ = λ j. station_word (station_stream net j) net.keys.pairs j (history (rounds_of net t) j) in
    get_or-map-range_with_len (λ j. if is_among net.coalition j then zero_word else own j) 0 net.stations i i zero_word low (omega arith)
    ∙ ap (λ (b : Bool). if b then zero_word else own i) honest
    ∙ ap (station_word (station_stream net i) net.keys.pairs i) (received_sums net sums t i low)

-- the words of the round
abbrev pub said_by_rule : Net → ℕ → ℕ → List ℕ
said_by_rule net t i = word_by_rule (script_turn net t).says (published (rounds_of net t) ++ honest_words net (rounds_of net t)) net.stations i

pub next_own : (net : Net) → DeliversSums net → (t i : ℕ) → i < net.stations → is_among net.coalition i ≡ false → word_of_station (next_words net (rounds_of net t)) i ≡ own_word net t i
next_own net sums t i low honest =
    let played = rounds_of net t in
    let said : ℕ → List ℕ = λ j. word_by_rule (script_turn net (length played)).says (published played ++ honest_words net played) net.stations j in
    get_or-map-range_with_len (λ j. if is_among net.coalition j then said j else word_of_station (honest_words net played) j) 0 net.stations i i zero_word low (omega arith)
    ∙ ap (λ (b : Bool). if b then said i else word_of_station (honest_words net played) i) honest
    ∙ honest_own net sums t i low honest

pub next_said : (net : Net) (t i : ℕ) → i < net.stations → is_among net.coalition i ≡ true → word_of_station (next_words net (rounds_of net t)) i ≡ said_by_rule net t i
next_said net t i low member =
    let played = rounds_of net t in
    let said : ℕ → ℕ → List ℕ = λ r j. word_by_rule (script_turn net r).says (published played ++ honest_words net played) net.stations j in
    get_or-map-range_with_len (λ j. if is_among net.coalition j then said (length played) j else word_of_station (honest_words net played) j) 0 net.stations i i zero_word low (omega arith)
    ∙ ap (λ (b : Bool). if b then said (length played) i else word_of_station (honest_words net played) i) member
    ∙ ap (λ (r : ℕ). said r i) (length-rounds_of net t)

-- words that are those of the honest stations, each member's place left zero
pub honest_same : (net : Net) → DeliversSums net → (t : ℕ) (words : ℕ → List ℕ) → ((i : ℕ) → i < net.stations → is_among net.coalition i ≡ false → words i ≡ own_word net t i)
    → honest_words net (rounds_of net t) ≡ map (λ i. if is_among net.coalition i then zero_word else words i) (range_with_len 0 net.stations)
honest_same net sums t words are =
    let own : ℕ → List ℕ = λ j. station_word (station_stream net j) net.keys.pairs j (history (rounds_of net t) j) in
    map-same (λ i. if is_among net.coalition i then zero_word else own i) (λ i. if is_among net.coalition i then zero_word else words i) (range_with_len 0 net.stations) (λ i there.
    let low : i < 0 + net.stations = below_range 0 net.stations i there in
    elim (cases_Bool (is_among net.coalition i)) [
      | inl member ↦ ap (λ (b : Bool). if b then zero_word else own i) member ∙ sym (ap (λ (b : Bool). if b then zero_word else words i) member)
      | inr honest ↦ ap (λ (b : Bool). if b then zero_word else own i) honest
          ∙ ap (station_word (station_stream net i) net.keys.pairs i) (received_sums net sums t i (omega arith))
          ∙ sym (are i (omega arith) honest) ∙ sym (ap (λ (b : Bool). if b then zero_word else words i) honest)
    ])

-- words that are those of all stations
pub words_same : (net : Net) (t : ℕ) (words : ℕ → List ℕ) → ((i : ℕ) → i < net.stations → words i ≡ word_of_station (next_words net (rounds_of net t)) i)
    → map words (range_with_len 0 net.stations) ≡ next_words net (rounds_of net t)
words_same net t words are =
    let played = rounds_of net t in
    let said : ℕ → List ℕ = λ j. if is_among net.coalition j then word_by_rule (script_turn net (length played)).says (published played ++ honest_words net played) net.stations j
    else word_of_station (honest_words net played) j in
    map-same words said (range_with_len 0 net.stations) (λ i there.
    let low : i < 0 + net.stations = below_range 0 net.stations i there in
    are i (omega arith) ∙ get_or-map-range_with_len said 0 net.stations i i zero_word (omega arith) (omega arith))
