use Rattle.std.proofs.Common.{◌+◌, ◌*◌, ◌≤◌, take}
use Rattle.std.specs.Prelude.{codes}
use Rattle.std.specs.List.{flat_map, enumerate_from}
use Rattle.dc_formats.specs.WordLines.{station_word_line}
use Rattle.dc_print.specs.Filling.{Fills}
use Rattle.dc_view.proofs.pieces.fill_published.Given as goal

-- the lines of the words so far are filled in
abbrev pub invariant-loop-i : goal.invariant-loop-i
invariant-loop-i l = record {
  place : l.end ≤ l.at + 106 * l.i;
  filled : Fills (flat_map (λ w. station_word_line (codes "word ") w.0 w.1) (enumerate_from 0 (take l.i l.words))) l.at l.initial.buffer l.buffer l.end;
}
