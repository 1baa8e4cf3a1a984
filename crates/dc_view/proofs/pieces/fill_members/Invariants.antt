use Rattle.std.proofs.Common.{◌*◌, ◌≤◌, ◌++◌, filter}
use Rattle.std.specs.Prelude.{codes, decimal}
use Rattle.std.specs.List.{flat_map, range_with_len}
use Rattle.dc_spec.specs.Lists.{is_among}
use Rattle.dc_spec.specs.Text.{line}
use Rattle.dc_print.specs.Filling.{Fills}
use Rattle.dc_view.proofs.pieces.fill_members.Given as goal

-- the lines of the members so far are filled in
abbrev pub invariant-loop-i : goal.invariant-loop-i
invariant-loop-i l = record {
  place : l.end ≤ 106 * l.i;
  filled : Fills (flat_map (λ i. line (codes "member " ++ decimal i)) (filter (is_among l.coalition) (range_with_len 0 l.i))) 0 l.initial.buffer l.buffer l.end;
}
