-- Without a coalition each station receives the sum of each round.
use Rattle.std.proofs.Common.{◌≡◌, ℕ, zero, suc, ◌+◌, ◌<◌, ◌≤◌, ◌&&◌, ◌==◌, not, List, [], ◌∷◌, ◌++◌, length, map, take, get_or, Option, Some, None, All, if◌then◌else◌, refl, sym, ◌∙◌, ap, inl, inr, arith, eq-or-lt_of_le}
use Rattle.std.specs.List.{enumerate_from, range_with_len}
use Rattle.std.proofs.lemmas.List.{get_or-map, map_push, take-map, take_all, take-append-le, length-map}
use Rattle.std.proofs.lemmas.List.Elements.{All-cons}
use Rattle.std.proofs.lemmas.List.FromFn.{get_or-enumerate_from, length-enumerate_from}
use Rattle.dc_spec.specs.Scripts.{Delivery, all_sum, each, Turn}
use Rattle.dc_spec.specs.Net.{Net}
use Rattle.dc_net_rules.specs.Agreement.{key_stations, key_words, script_rounds, script_delivery, first_of, first_by, missing_key, stray_key, stream_fault, station_fault, is_sum, delivery_fault, rule_fault, Agrees}
use Rattle.dc_net_rules.specs.Nets.{IsNet}
use Rattle.dc_net_rules.specs.Runs.{Round, word_of_station, script_turn, history, published, next_words, heard, next_round, rounds_of, all_rounds, run_of}
use Rattle.dc_net_rules.proofs.Agreeing.{all_agree}
use Rattle.dc_net_rules.proofs.RoundLemmas.{length-rounds_of, history_more}
use Rattle.dc_net_rules.proofs.RunLemmas.{heard_in}

-- where there is no first answer, there is none at all
none_each : {A : Type 0} (os : List (Option A)) → first_of os ≡ None → All (λ o. o ≡ None) os
none_each [] h = λ k d within. absurd (omega arith)
none_each (None ∷ rest) h = All-cons (λ o. o ≡ None) None rest refl (none_each rest h)
none_each (Some x ∷ rest) h = let clash : ⊥ = cc in absurd clash

-- a round has no fault of delivery
round_passes : (net : Net) → Agrees net → (t : ℕ) → t < length net.script.rounds → delivery_fault net (t, script_turn net t) ≡ None
round_passes net agrees t within =
    let d : Turn = record { says = []; delivery = all_sum } in
    let turns = enumerate_from 0 net.script.rounds in
    let tests : first_by (delivery_fault net) turns ≡ None = none_each (
    (if net.keys.stations == net.stations then None else Some (key_stations net.keys.stations net.stations))
    ∷ (if net.keys.words == net.words then None else Some (key_words net.keys.words net.words))
    ∷ missing_key net
    ∷ stray_key net
    ∷ first_by (stream_fault net) (range_with_len 0 net.stations)
    ∷ (if length net.script.rounds == net.words then None else Some (script_rounds (length net.script.rounds) net.words))
    ∷ first_by (station_fault net) turns
    ∷ first_by (delivery_fault net) turns
    ∷ first_by (rule_fault net) turns
    ∷ []) agrees 7 None (omega arith) in
    let size = length-enumerate_from 0 net.script.rounds in
    let here : get_or (map (delivery_fault net) turns) t None ≡ None = none_each (map (delivery_fault net) turns) tests t None
    (let mapped = length-map turns (delivery_fault net) in omega arith) in
    let is : get_or turns t (0, d) ≡ (t, script_turn net t) = get_or-enumerate_from 0 net.script.rounds t (0, d) within
    ∙ ap (λ (k : ℕ). (k, get_or net.script.rounds t d)) (let e : 0 + t ≡ t = omega arith in e) in
    sym (ap (delivery_fault net) is) ∙ sym (get_or-map (delivery_fault net) turns t (0, d) None (omega arith)) ∙ here

-- without a coalition, a delivery without a fault is the sum
is_all : (coalition : List ℕ) (round : ℕ) (d : Delivery) → coalition ≡ [] → (if length coalition == 0 && not (is_sum d) then Some (script_delivery round) else None) ≡ None → d ≡ all_sum
is_all coalition round all_sum none h = refl
is_all [] round (each dealt) none h = let clash : ⊥ = cc in absurd clash
is_all (m ∷ ms) round (each dealt) none h = let clash : ⊥ = cc in absurd clash

-- so each round delivers the sum
delivered : (net : Net) → IsNet net → net.coalition ≡ [] → (t : ℕ) → t < net.words → (script_turn net t).delivery ≡ all_sum
delivered net is none t less =
    is_all net.coalition t (script_turn net t).delivery none (round_passes net is.agrees t (let e = (all_agree net is.agrees).rounds in omega arith))

-- and each station hears it
hears_sum : (net : Net) → IsNet net → net.coalition ≡ [] → (t : ℕ) → t < net.words → (i : ℕ) → i < net.stations → word_of_station (next_round net (rounds_of net t)).received i
    ≡ (next_round net (rounds_of net t)).sum
hears_sum net is none t less i low =
    let played = rounds_of net t in
    heard_in net played i low
    ∙ ap (λ (d : Delivery). heard net d (published played ++ next_words net played) (next_round net played).sum i)
    (ap (λ (k : ℕ). (script_turn net k).delivery) (length-rounds_of net t) ∙ delivered net is none t less)

-- what a station heard is the sums
heard_sums : (net : Net) → IsNet net → net.coalition ≡ [] → (t : ℕ) → t ≤ net.words → (i : ℕ) → i < net.stations → history (rounds_of net t) i
    ≡ map (λ (r : Round). r.sum) (rounds_of net t)
unfolding rounds_of
heard_sums net is none zero le i low = refl
heard_sums net is none (suc t) le i low =
    let played = rounds_of net t in
    let round = next_round net played in
    history_more played round i
    ∙ ap (λ (ws : List (List ℕ)). ws ++ word_of_station round.received i ∷ []) (heard_sums net is none t (omega arith) i low)
    ∙ ap (λ (w : List ℕ). map (λ (r : Round). r.sum) played ++ w ∷ []) (hears_sum net is none t (omega arith) i low)
    ∙ sym (map_push (λ (r : Round). r.sum) played round)

-- the first rounds of more rounds
first_rounds : (net : Net) (t m : ℕ) → t ≤ m → take t (rounds_of net m) ≡ rounds_of net t
unfolding rounds_of
first_rounds net t zero le = let none : t ≡ 0 = omega arith in ap (λ (k : ℕ). take k (rounds_of net zero)) none ∙ sym (ap (λ (k : ℕ). rounds_of net k) none)
first_rounds net t (suc m) le = elim (eq-or-lt_of_le le) [
  | inl same ↦ take_all t (rounds_of net (suc m)) (let size = length-rounds_of net (suc m) in omega arith) ∙ sym (ap (λ (k : ℕ). rounds_of net k) same)
  | inr less ↦ (let size = length-rounds_of net m in
      take-append-le t (rounds_of net m) (next_round net (rounds_of net m) ∷ []) (omega arith) ∙ first_rounds net t m (omega arith))
]

-- the sums of the first rounds
pub first_sums : (net : Net) (t : ℕ) → t ≤ net.words → take t (run_of net).sums ≡ map (λ (r : Round). r.sum) (rounds_of net t)
first_sums net t le = take-map (λ (r : Round). r.sum) t (all_rounds net) ∙ ap (λ (rounds : List Round). map (λ (r : Round). r.sum) rounds) (first_rounds net t net.words le)

-- what a station received in the first rounds is their sums
pub histories-sums : (net : Net) → IsNet net → net.coalition ≡ [] → (t : ℕ) → t ≤ net.words → (i : ℕ) → i < net.stations → history (rounds_of net t) i ≡ take t (run_of net).sums
histories-sums net is none t le i low = heard_sums net is none t le i low ∙ sym (first_sums net t le)
