use Rattle.std.proofs.Common.{◌≡◌, Ok, length, ap, subst, rules}
use Rattle.dc_graph.specs.Graph.{IsGraph, AreMembers}
use Rattle.dc_graph.specs.Faults.{graph_fault, member_fault}
use Rattle.dc_manifest.specs.Reading.{GivenNumbers, numbers_of, graph_of, coalition_of, sized}
use Rattle.dc_manifest.proofs.Accepted.{accepted}
use Rattle.dc_manifest.proofs.content.read_content.Goals as goal

pub invariant_of-result : goal.invariant_of-result
invariant_of-result c =
    let numbers = c.in_ok-numbers.numbers in
    let inside = c.numbers.inside in
    let edges = c.as_slice.result.now in
    let members = c.as_slice-2.result.now in
    let graph = c.in_ok-graph.graph in
    let coalition = c.in_ok-coalition.coalition in
    let words = c.in_ok-words.words in
    let count = c.edge_count.result in
    let read : numbers_of c.args.values ≡ Ok numbers = c.in_ok-numbers.ensures in
    let made : graph_of inside.stations edges (graph_fault inside.stations edges) ≡ Ok graph = c.in_ok-graph.ensures in
    let joined : coalition_of graph.stations members (member_fault graph.stations members) ≡ Ok coalition = c.in_ok-coalition.ensures in
    let counted : count ≡ length graph.edges = c.edge_count.ensures in
    let fits : sized count inside.words ≡ Ok words = c.in_ok-words.ensures in
    accepted c.args.values numbers (record { graph = graph; coalition = coalition; words = words; keys = c.values.inside.keys; streams = c.values.inside.streams; script = c.values.inside.script }) inside.stations edges members
    (graph_fault inside.stations edges) (member_fault graph.stations members) count inside.words read (ap (λ (g : GivenNumbers). g.stations) c.numbers.view_is) made (subst IsGraph c.graph.view_is c.graph.invariant) joined (subst AreMembers c.coalition.view_is c.coalition.invariant) counted
    (ap (λ (g : GivenNumbers). g.words) c.numbers.view_is) fits (search rules)
