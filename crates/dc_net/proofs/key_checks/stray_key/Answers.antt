use Rattle.std.proofs.Common.{List, map, sym, ap, subst, ◌∙◌, Some, None}
use Rattle.dc_spec.specs.Net.{Net}
use Rattle.dc_spec.specs.Pads.{Pair, Keys}
use Rattle.dc_formats.specs.KeyFile.{AreEndsRising}
use Rattle.dc_graph.specs.Graph.{AreRisingEdges}
use Rattle.dc_net.proofs.KeyChecks.{pair_ends, pairs_rise, edges_rise, stray_fault_is}
use Rattle.dc_net.proofs.key_checks.stray_key.Goals as goal

-- both lists are in rising order
pub first_absent-absent-requires : goal.first_absent-absent-requires
first_absent-absent-requires c =
    let edges : AreRisingEdges c.edges.result.now = subst AreRisingEdges (sym c.edges.ensures.value) c.edges.ensures.graph.rising in
    let P : List Pair → Type 0 = λ ps. AreEndsRising (map pair_ends ps) in
    let pairs : P c.as_slice.result.now = subst P (sym c.as_slice.ensures) c.keys.invariant.rising in
    record { items = pairs_rise c.as_slice.result.now pairs; others = edges_rise c.edges.result.now edges }

pub returns-in-Some : goal.returns-in-Some
returns-in-Some c =
    stray_fault_is c.args.net.now c.edges.result.now c.as_slice.result.now (Some c.in-Some.e)
    (c.edges.ensures.value ∙ ap (λ (n : Net). n.edges) c.net.view_is)
    (c.as_slice.ensures ∙ ap (λ (k : Keys). k.pairs) c.keys.view_is ∙ ap (λ (n : Net). n.keys.pairs) c.net.view_is)
    c.in-Some.ensures

pub returns-in-None : goal.returns-in-None
returns-in-None c =
    stray_fault_is c.args.net.now c.edges.result.now c.as_slice.result.now None
    (c.edges.ensures.value ∙ ap (λ (n : Net). n.edges) c.net.view_is)
    (c.as_slice.ensures ∙ ap (λ (k : Keys). k.pairs) c.keys.view_is ∙ ap (λ (n : Net). n.keys.pairs) c.net.view_is)
    c.in-None.ensures
