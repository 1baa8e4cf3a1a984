use Rattle.std.proofs.Common.{arith}
use Rattle.dc_graph.proofs.Rising.{edges_are_few}
use Rattle.dc_graph.proofs.graph.Graph.edge_count.Goals as goal

pub overflow_cast-result : goal.overflow_cast-result
overflow_cast-result c =
    let i = c.self.invariant in
    let few = edges_are_few c.self.inside.edges.items c.self.inside.stations i.most_stations i.are_edges i.rising in
    omega arith
