use Rattle.std.proofs.Common.{length}
use Rattle.std.specs.List.{flat_map}
use Rattle.dc_run_texts.specs.View.{edge_line}
use Rattle.dc_print.proofs.PutSoFar.{PutSoFar}
use Rattle.dc_view.proofs.net_text.put_edges.Given as goal

-- all lines but those of the rest were put
abbrev pub invariant-loop-rest : goal.invariant-loop-rest
invariant-loop-rest g l = PutSoFar (flat_map (λ e. edge_line e.0 e.1) l.edges) (flat_map (λ e. edge_line e.0 e.1) l.rest) (g.K.Sink.state l.initial.out) (g.K.Sink.state l.out)

abbrev pub decreases-loop-rest : goal.decreases-loop-rest
decreases-loop-rest g l = length l.rest
