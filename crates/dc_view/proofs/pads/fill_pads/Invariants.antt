use Rattle.std.proofs.Common.{◌+◌, ◌-◌, ◌*◌, ◌≤◌}
use Rattle.std.specs.List.{flat_map, range_with_len}
use Rattle.dc_formats.specs.WordLines.{pair_word_line, items_of_round}
use Rattle.dc_print.specs.Filling.{Fills}
use Rattle.dc_view.proofs.pads.fill_pads.Given as goal

-- the lines of the rounds so far are filled in
abbrev pub invariant-loop-r : goal.invariant-loop-r
invariant-loop-r l = record {
  place : l.end + 106 * l.from ≤ 106 * l.r;
  filled : Fills (flat_map (λ r. pair_word_line l.beginning l.ends.0 l.ends.1 r (items_of_round 16 r l.pads)) (range_with_len l.from (l.r - l.from)))
      0 l.initial.buffer l.buffer l.end;
}
