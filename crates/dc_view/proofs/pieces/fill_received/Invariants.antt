use Rattle.std.proofs.Common.{◌+◌, ◌*◌, ◌≤◌, take}
use Rattle.std.specs.Prelude.{codes, zip}
use Rattle.std.specs.List.{flat_map}
use Rattle.dc_formats.specs.WordLines.{station_word_line}
use Rattle.dc_print.specs.Filling.{Fills}
use Rattle.dc_view.proofs.pieces.fill_received.Given as goal

-- the lines of the words so far are filled in
abbrev pub invariant-loop-j : goal.invariant-loop-j
invariant-loop-j l = record {
  place : l.end ≤ l.at + 106 * l.j;
  filled : Fills (flat_map (λ g. station_word_line (codes "got ") g.0 g.1) (take l.j (zip l.stations l.words))) l.at l.initial.buffer l.buffer l.end;
}
