use Rattle.std.proofs.Common.{arith}
use Rattle.dc_graph.proofs.Rising.{members_are_few}
use Rattle.dc_graph.proofs.coalition.Coalition.len.Goals as goal

pub overflow_cast-result : goal.overflow_cast-result
overflow_cast-result c =
    let few = members_are_few c.self.inside.members.items c.self.invariant in
    omega arith
