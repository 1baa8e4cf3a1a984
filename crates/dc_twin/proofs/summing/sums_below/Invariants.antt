use Rattle.std.proofs.Common.{◌≡◌, length}
use Rattle.dc_graph_rules.specs.Graphs.{key_graph}
use Rattle.dc_twin.specs.Edges.{sums_in}
use Rattle.dc_twin.proofs.summing.sums_below.Given as goal

-- both rows have a word for each station, and the sums of the rows so far are there
abbrev pub invariant-loop-t : goal.invariant-loop-t
invariant-loop-t l = record {
  demands_now : length l.demands_now ≡ l.net.stations;
  below : length l.below ≡ l.net.stations;
  sums : l.sums.items ≡ sums_in (key_graph l.net) l.t l.demands;
}
