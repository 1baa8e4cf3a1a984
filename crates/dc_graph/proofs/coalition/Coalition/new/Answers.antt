use Rattle.std.proofs.Common.{sym, ◌∙◌, ap, ℕ, arith}
use Rattle.dc_graph.specs.Faults.{member_fault}
use Rattle.dc_graph.proofs.FirstFault.{AreMembers-from_sort}
use Rattle.dc_graph.proofs.coalition.Coalition.new.Goals as goal

pub invariant_of-result : goal.invariant_of-result
invariant_of-result c =
    let few = c.stations.ensures.graph.most_stations in
    AreMembers-from_sort c.stations.result c.args.members.now c.sort_unstable.new.self.items (let same = c.stations.ensures.value in omega arith) (sym c.member_fault.ensures ∙ c.in-None.is) (rw c.in_ok-kept-in-None.ensures.items at c.sort_unstable.ensures.permutation) c.sort_unstable.ensures.sorted

pub returns-in_ok-kept-in-None : goal.returns-in_ok-kept-in-None
returns-in_ok-kept-in-None c =
    let few = c.stations.ensures.graph.most_stations in
    let none = sym c.member_fault.ensures ∙ c.in-None.is in
    let moved = rw c.in_ok-kept-in-None.ensures.items at c.sort_unstable.ensures.permutation in
    record {
      no_fault = ap (λ (n : ℕ). member_fault n c.args.members.now) (sym c.stations.ensures.value) ∙ none;
      same_members = moved;
      rising = AreMembers-from_sort c.stations.result c.args.members.now c.sort_unstable.new.self.items (let same = c.stations.ensures.value in omega arith) none moved c.sort_unstable.ensures.sorted;
    }
