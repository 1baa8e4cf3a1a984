use Rattle.std.proofs.Common.{◌≡◌, ◌<◌, ℕ, true, length, slice_index}
use Rattle.dc_graph.specs.Walk.{edge_at, IsNextTo, IsWalk}
use Rattle.dc_graph.proofs.walk.Walk.look_around.Given as goal

-- the neighbours so far are found from the station at the head
abbrev pub invariant-loop-w : goal.invariant-loop-w
invariant-loop-w l = record {
  walk : IsWalk (edge_at l.n l.table) l.n l.head l.self.order.items l.self.found.items;
  head : l.head < length l.self.order.items;
  row : (x : ℕ) → x < l.w → edge_at l.n l.table (slice_index l.self.order.items l.head) x ≡ true → IsNextTo l.self.found.items (slice_index l.self.order.items l.head) x;
}
