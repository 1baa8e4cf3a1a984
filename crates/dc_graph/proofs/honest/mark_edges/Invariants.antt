use Rattle.std.proofs.Common.{◌≡◌, ◌*◌, ◌<◌, ◌||◌, ◌&&◌, not, ℕ, length, false, take, slice_index_or}
use Rattle.dc_graph_rules.specs.Graphs.{has_edge}
use Rattle.dc_graph.specs.Walk.{edge_at}
use Rattle.dc_graph.proofs.honest.mark_edges.Given as goal

-- the flags of the honest edges so far are set
abbrev pub invariant-loop-e : goal.invariant-loop-e
invariant-loop-e l = record {
  wide : length l.table ≡ l.n * l.n;
  flags : (u v : ℕ) → u < l.n → v < l.n → edge_at l.n l.table u v
      ≡ (has_edge (take l.e-index l.edges) u v && not (slice_index_or l.members u false || slice_index_or l.members v false));
}
