use Rattle.std.proofs.Common.{◌≡◌, map, take}
use Rattle.std.specs.List.{filter_map}
use Rattle.dc_graph_rules.specs.Graphs.{key_graph}
use Rattle.dc_twin.specs.Edges.{edge_shift, with_shift}
use Rattle.dc_twin.proofs.shifting.shifted_pairs.Given as goal

-- the shifts and the pairs so far
abbrev pub invariant-loop-pair : goal.invariant-loop-pair
invariant-loop-pair l = record {
  shifts : l.shifts.items ≡ filter_map (edge_shift (key_graph l.net) l.net.words l.sums) (take l.pair-index l.pairs);
  pairs : l.shifted.items ≡ map (λ pair. with_shift (edge_shift (key_graph l.net) l.net.words l.sums pair) pair) (take l.pair-index l.pairs);
}
