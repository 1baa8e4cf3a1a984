use Rattle.std.proofs.Common.{◌≡◌, ℕ, ◌*◌, ◌<◌, List, ◌++◌, length, sym, ap, ◌∙◌, arith}
use Rattle.std.proofs.lemmas.List.FromFn.{length-map-range_with_len}
use Rattle.dc_spec.specs.Net.{Net}
use Rattle.dc_graph_rules.specs.Graphs.{key_graph}
use Rattle.dc_graph_rules.specs.Forests.{below_sums}
use Rattle.dc_graph.proofs.ForestProofs.{stations_of_forest}
use Rattle.dc_twin.specs.Edges.{row_in}
use Rattle.dc_twin.proofs.Rows.{pieces_more, row-size}
use Rattle.dc_twin.proofs.summing.sums_below.Goals as goal

-- a row of the demands has a word for each station
row-whole : (net : Net) (n t words : ℕ) (demands given row : List (List ℕ)) → n ≡ net.stations → words ≡ net.words → t < words → given ≡ demands → length demands ≡ net.words * net.stations
    → row ≡ row_in n given t → (length row ≡ net.stations) × (row ≡ row_in net.stations demands t)
row-whole net n t words demands given row wide many low same size is =
    let here : row ≡ row_in net.stations demands t = is ∙ ap (λ (ws : List (List ℕ)). row_in n ws t) same ∙ ap (λ (m : ℕ). row_in m demands t) wide in
    (ap (λ (ws : List (List ℕ)). length ws) here ∙ row-size net.words net.stations t demands (omega arith) (omega arith), here)

pub below_sums-requires-clause-demands : goal.below_sums-requires-clause-demands
below_sums-requires-clause-demands c =
    let net = c.args.net.now in
    let long = stations_of_forest (key_graph net) c.args.forest.now c.requires.forest in
    let row = row-whole net c.from-n.result c.loop-t.t c.net.inside.words c.args.demands.now c.as_slice-demands.result.now c.row.result.now
    (c.from-n.ensures ∙ c.stations.ensures.value ∙ ap (λ (n : Net). n.stations) c.net.view_is) (ap (λ (n : Net). n.words) c.net.view_is) c.loop-t-test.true c.as_slice-demands.ensures c.requires.demands
    c.row.ensures in
    ap (λ (ws : List (List ℕ)). length ws) c.put_row.ensures ∙ row.0 ∙ sym long

pub below_sums-requires-clause-out : goal.below_sums-requires-clause-out
below_sums-requires-clause-out c =
    let long = stations_of_forest (key_graph c.args.net.now) c.args.forest.now c.requires.forest in c.loop-t.invariant.below ∙ sym long

pub loop-t-preserved : goal.loop-t-preserved
loop-t-preserved c =
    let net = c.args.net.now in
    let g = key_graph net in
    let row = row-whole net c.from-n.result c.loop-t.t c.net.inside.words c.args.demands.now c.as_slice-demands.result.now c.row.result.now
    (c.from-n.ensures ∙ c.stations.ensures.value ∙ ap (λ (n : Net). n.stations) c.net.view_is) (ap (λ (n : Net). n.words) c.net.view_is) c.loop-t-test.true c.as_slice-demands.ensures c.requires.demands
    c.row.ensures in
    let made = c.below_sums.ensures g c.requires.forest in
    let given = ap (λ (ws : List (List ℕ)). row_in net.stations ws c.loop-t.t) (sym c.as_slice-demands.ensures) in
    record {
      demands_now = ap (λ (ws : List (List ℕ)). length ws) c.put_row.ensures ∙ row.0;
      below = ap (λ (ws : List (List ℕ)). length ws) made ∙ length-map-range_with_len _ 0 net.stations;
      sums = pieces_more (λ t. below_sums (key_graph net) (row_in net.stations c.as_slice-demands.result.now t)) c.loop-t.t c.loop-t.sums.items c.extend_from_slice.new.self.items c.loop-t.invariant.sums
          (c.in_ok-extend_from_slice.ensures.items
          ∙ ap (λ (ws : List (List ℕ)). c.loop-t.sums.items ++ ws) (c.as_slice.ensures ∙ made ∙ ap (below_sums (key_graph net)) (c.put_row.ensures ∙ row.1 ∙ given)));
    }
