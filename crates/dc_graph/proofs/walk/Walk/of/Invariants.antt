use Rattle.std.proofs.Common.{◌≤◌, length}
use Rattle.dc_graph.specs.Walk.{edge_at, IsWalk}
use Rattle.dc_graph.proofs.walk.Walk.of.Given as goal

-- the walk looked at the edges of the stations so far
abbrev pub invariant-loop-head : goal.invariant-loop-head
invariant-loop-head l = record {
  walk : IsWalk (edge_at l.n l.table) l.n l.head l.walk.order.items l.walk.found.items;
  head : l.head ≤ length l.walk.order.items;
}
