use Rattle.std.proofs.Common.{◌*◌, ◌≤◌, take}
use Rattle.std.specs.List.{flat_map}
use Rattle.dc_run_texts.specs.View.{edge_line}
use Rattle.dc_print.specs.Filling.{Fills}
use Rattle.dc_view.proofs.pieces.fill_edges.Given as goal

-- the lines of the edges so far are filled in
abbrev pub invariant-loop-e : goal.invariant-loop-e
invariant-loop-e l = record {
  place : l.end ≤ 106 * l.e-index;
  filled : Fills (flat_map (λ e. edge_line e.0 e.1) (take l.e-index l.edges)) 0 l.initial.buffer l.buffer l.end;
}
