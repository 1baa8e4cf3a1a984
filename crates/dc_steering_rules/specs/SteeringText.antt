-- The text of a steering: where two neighbours first received different symbols, and the changes of
-- their first and second pads.
use Rattle.std.specs.Prelude.{ℕ, List, [], ◌++◌, ◌==◌, if◌then◌else◌, codes}
use Rattle.std.specs.List.{flat_map, enumerate_from}
use Rattle.std.specs.Fmt.{decimal}
use Rattle.dc_spec.specs.Text.{line, symbol_text}
use Rattle.dc_steering_rules.specs.Steerings.{Steering}

-- the line of one change; no line where it is 0
abbrev pub change_line : List ℕ → ℕ → ℕ → List ℕ
change_line beginning n x =
    if x == 0 then [] else line (beginning ++ decimal n ++ codes " " ++ symbol_text x)

-- the lines of one list of changes, numbered from 0
abbrev pub change_lines : List ℕ → List ℕ → List ℕ
change_lines beginning changes =
    flat_map (λ c. change_line beginning c.0 c.1) (enumerate_from 0 changes)

-- the place of the first difference, all changes of first pads, all changes of second pads
abbrev pub steering_text : Steering → List ℕ
steering_text s = line (codes "differ " ++ decimal s.round ++ codes " " ++ decimal s.symbol)
    ++ change_lines (codes "first ") s.first
    ++ change_lines (codes "second ") s.second
