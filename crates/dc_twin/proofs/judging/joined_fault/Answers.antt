use Rattle.std.proofs.Common.{◌≡◌, ◌<◌, ℕ, not, Bool, true, false, List, slice_index, Some, option_map, sym, ap, ◌∙◌, arith}
use Rattle.dc_spec.specs.Net.{Net}
use Rattle.dc_graph_rules.specs.Graphs.{key_graph, is_joined}
use Rattle.dc_graph.proofs.ForestProofs.{stations_of_forest}
use Rattle.dc_twin.specs.declared.fault.TwinFault.TheVariants.{NotJoined}
use Rattle.dc_twin.proofs.FirstFaults.{found-here, found-past, found-none}
use Rattle.dc_twin.proofs.judging.joined_fault.Goals as goal

tested : (net : Net) (p : List ℕ) (i at : ℕ) (joined b : Bool) → at ≡ i → joined ≡ is_joined (key_graph net) i (slice_index p at) → joined ≡ b → not (is_joined (key_graph net) i (slice_index p i)) ≡ not b
tested net p i at joined b place is was =
    ap not (ap (λ (k : ℕ). is_joined (key_graph net) i (slice_index p k)) (sym place) ∙ sym is ∙ was)

pub joined-requires : goal.joined-requires
joined-requires c =
    let long = stations_of_forest (key_graph c.args.net.now) c.args.forest.now c.requires.forest in
    let stations = c.stations-i-end.ensures.value ∙ ap (λ (n : Net). n.stations) c.net.view_is in
    let low : c.loop-i.i < c.args.net.now.stations = let less = c.loop-i-test.true in omega arith in
    let place = c.from.ensures in
    let count = c.requires.count in
    let below = c.requires.stations c.from.result 0 (omega arith) in (omega arith, omega arith)

pub returns-then-not-joined : goal.returns-then-not-joined
returns-then-not-joined c =
    let net = c.args.net.now in
    let p = c.args.perm.now in
    let stations = c.stations-i-end.ensures.value ∙ ap (λ (n : Net). n.stations) c.net.view_is in
    let low : c.loop-i.i < c.args.net.now.stations = let less = c.loop-i-test.true in omega arith in
    let passes = tested net p c.loop-i.i c.from.result c.joined.result false c.from.ensures (c.joined.ensures (key_graph net) c.requires.forest) c.if-not-joined.true in
    ap (λ (k : ℕ). Some (NotJoined c.loop-i.i (slice_index p k))) c.from.ensures
    ∙ sym (ap (option_map (λ k. NotJoined k (slice_index p k))) (found-here (λ k. not (is_joined (key_graph net) k (slice_index p k))) net.stations c.loop-i.i low c.loop-i.invariant passes))

pub loop-i-preserved : goal.loop-i-preserved
loop-i-preserved c =
    let net = c.args.net.now in
    let p = c.args.perm.now in
    let stations = c.stations-i-end.ensures.value ∙ ap (λ (n : Net). n.stations) c.net.view_is in
    let low : c.loop-i.i < c.args.net.now.stations = let less = c.loop-i-test.true in omega arith in
    let fails = tested net p c.loop-i.i c.from.result c.joined.result true c.from.ensures (c.joined.ensures (key_graph net) c.requires.forest) c.if-not-joined.false in
    found-past (λ k. not (is_joined (key_graph net) k (slice_index p k))) net.stations c.loop-i.i low c.loop-i.invariant fails

pub returns : goal.returns
returns c =
    let net = c.args.net.now in
    let p = c.args.perm.now in
    let stations = c.stations-i-end.ensures.value ∙ ap (λ (n : Net). n.stations) c.net.view_is in
    sym (ap (option_map (λ k. NotJoined k (slice_index p k)))
    (found-none (λ k. not (is_joined (key_graph net) k (slice_index p k))) net.stations c.loop-i.i (let done = c.loop-i-test.false in omega arith) c.loop-i.invariant))
