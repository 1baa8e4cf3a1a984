use Rattle.std.proofs.Common.{◌≡◌, None, sym, refl, ◌∙◌}
use Rattle.dc_graph.specs.Faults.{graph_fault}
use Rattle.dc_graph.proofs.FirstFault.{IsGraph-from_sort}
use Rattle.dc_graph.proofs.graph.Graph.new.Goals as goal

pub invariant_of-result : goal.invariant_of-result
invariant_of-result c =
    IsGraph-from_sort c.args.n c.args.edges.now c.sort_unstable.new.self.items (sym c.in_ok-fault.ensures ∙ c.in-None.is) (rw c.in_ok-kept-in-None.ensures.items at c.sort_unstable.ensures.permutation) c.sort_unstable.ensures.sorted

pub returns-in_ok-kept-in-None : goal.returns-in_ok-kept-in-None
returns-in_ok-kept-in-None c =
    let none : graph_fault c.args.n c.args.edges.now ≡ None = sym c.in_ok-fault.ensures ∙ c.in-None.is in
    let moved = rw c.in_ok-kept-in-None.ensures.items at c.sort_unstable.ensures.permutation in
    record {
      no_fault = none;
      stations = refl;
      same_edges = moved;
      rising = (IsGraph-from_sort c.args.n c.args.edges.now c.sort_unstable.new.self.items none moved c.sort_unstable.ensures.sorted).rising;
    }
