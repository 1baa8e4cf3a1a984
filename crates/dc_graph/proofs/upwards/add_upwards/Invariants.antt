use Rattle.std.proofs.Common.{◌≡◌, ◌-◌, length}
use Rattle.dc_graph_rules.specs.Graphs.{KeyGraph}
use Rattle.dc_graph_rules.specs.Forests.{parents}
use Rattle.dc_graph_rules.proofs.UpwardLemmas.{ArePartial}
use Rattle.dc_graph.specs.Forest.{IsForestOf}
use Rattle.dc_graph.proofs.upwards.add_upwards.Given as goal

-- each word is the sum of its own and those below its children so far
abbrev pub invariant-loop-k : goal.invariant-loop-k
invariant-loop-k l = record {
  count : length l.sums ≡ length l.places;
  partial : (g : KeyGraph) → IsForestOf g l.places → ArePartial (parents g) l.fn.sums l.order (length l.order - l.k) l.sums;
}
