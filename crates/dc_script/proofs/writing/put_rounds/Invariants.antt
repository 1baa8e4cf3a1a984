use Rattle.std.proofs.Common.{◌≡◌, ◌++◌, take}
use Rattle.std.specs.List.{flat_map, enumerate_from}
use Rattle.dc_formats.specs.ScriptFile.{turn_lines}
use Rattle.dc_script.proofs.writing.put_rounds.Given as goal

-- the rounds so far stand at the end
abbrev pub invariant-loop-r : goal.invariant-loop-r
invariant-loop-r l = l.text.items ≡ l.initial.text.items ++ flat_map (λ t. turn_lines t.0 t.1) (enumerate_from 0 (take l.r l.rounds))
