use Rattle.std.proofs.Common.{◌≡◌, ℕ, List, not, length, filter, ap, ◌∙◌, arith}
use Rattle.std.specs.List.{range_with_len}
use Rattle.std.proofs.lemmas.Result.{IfOk-weaker}
use Rattle.dc_spec.specs.Lists.{is_among}
use Rattle.dc_spec.specs.Net.{Net, Run}
use Rattle.dc_net_rules.specs.Runs.{honest_stations, history, all_rounds, run_of}
use Rattle.dc_net.specs.WordList.{column}
use Rattle.dc_steer.proofs.Histories.{place_of, at_place, received_is}
use Rattle.dc_steer.proofs.received.received_words.Goals as goal

-- how many honest stations there are
counted : (net : Net) (n stations count : ℕ) → count ≡ length (filter (λ i. not (is_among net.coalition i)) (range_with_len 0 n)) → n ≡ stations → stations ≡ net.stations
    → count ≡ length (honest_stations net)
counted net n stations count is same all = is ∙ ap (λ (m : ℕ). length (filter (λ i. not (is_among net.coalition i)) (range_with_len 0 m))) (same ∙ all)

pub column-requires : goal.column-requires
column-requires c =
    let net = c.args.net.now in
    let count = counted net _ _ _ c.honest_below-count.ensures c.stations.ensures.value (ap (λ (n : Net). n.stations) c.net.view_is) in
    omega (arith, count, c.honest_below-place.ensures, (at_place net c.args.i c.requires.station c.requires.honest).0)

-- the words at the station's place
heard : (net : Net) (i count place : ℕ) (delivered words : List (List ℕ)) → count ≡ length (honest_stations net) → place ≡ place_of net i → delivered ≡ (run_of net).delivered
    → column (length (honest_stations net)) (place_of net i) (run_of net).delivered ≡ history (all_rounds net) i → words ≡ column count place delivered → words ≡ history (all_rounds net) i
heard net i count place delivered words counted placed same received is =
    is ∙ ap (λ (n : ℕ). column n place delivered) counted ∙ ap (λ (j : ℕ). column (length (honest_stations net)) j delivered) placed
    ∙ ap (λ (ws : List (List ℕ)). column (length (honest_stations net)) (place_of net i) ws) same ∙ received

pub returns : goal.returns
returns c =
    let net = c.args.net.now in
    let count = counted net _ _ _ c.honest_below-count.ensures c.stations.ensures.value (ap (λ (n : Net). n.stations) c.net.view_is) in
    let same = c.as_slice.ensures ∙ ap (λ (r : Run). r.delivered) (c.run.view_is ∙ c.requires.run) in
    IfOk-weaker c.column.result _ _ (λ words is. heard net c.args.i _ _ _ words count c.honest_below-place.ensures same
    (received_is net c.args.i c.requires.station c.requires.honest) is) c.column.ensures
