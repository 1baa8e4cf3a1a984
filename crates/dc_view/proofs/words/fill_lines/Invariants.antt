use Rattle.std.proofs.Common.{◌≡◌, ◌*◌, take}
use Rattle.dc_spec.specs.Text.{words_text}
use Rattle.dc_print.specs.Filling.{Fills}
use Rattle.dc_view.proofs.words.fill_lines.Given as goal

-- the lines of the words so far are filled in
abbrev pub invariant-loop-w : goal.invariant-loop-w
invariant-loop-w l = record {
  place : l.end ≡ 81 * l.w-index;
  filled : Fills (words_text (take l.w-index l.words)) 0 l.initial.lines l.lines l.end;
}
