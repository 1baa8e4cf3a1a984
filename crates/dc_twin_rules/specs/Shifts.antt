-- The text of the shifts of a twin: what is added to the first pads of the edges of its forest.
use Rattle.std.specs.Prelude.{ℕ, Bool, List, [], ◌==◌, if◌then◌else◌, codes}
use Rattle.std.specs.List.{flat_map, list_all, enumerate_from}
use Rattle.dc_twin_rules.specs.Twins.{Shift}
use Rattle.dc_formats.specs.WordLines.{pair_word_line}

-- whether a word is all zeros
abbrev pub is_zero : List ℕ → Bool
is_zero w = list_all (λ x. x == 0) w

-- the line of one round; no line where the word is zero
abbrev pub shift_line : ℕ → ℕ → ℕ → List ℕ → List ℕ
shift_line u v r w = if is_zero w then [] else pair_word_line (codes "shift ") u v r w

-- the lines of one edge, round by round
abbrev pub shift_lines : Shift → List ℕ
shift_lines s = flat_map (λ w. shift_line s.u s.v w.0 w.1) (enumerate_from 0 s.words)

-- edge by edge, round by round
abbrev pub shifts_text : List Shift → List ℕ
shifts_text shifts = flat_map shift_lines shifts
