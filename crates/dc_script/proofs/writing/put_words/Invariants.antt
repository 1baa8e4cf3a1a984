use Rattle.std.proofs.Common.{◌≡◌, ◌++◌, take}
use Rattle.std.specs.List.{flat_map}
use Rattle.dc_formats.specs.ScriptFile.{said_lines}
use Rattle.dc_script.proofs.writing.put_words.Given as goal

-- the lines so far stand at the end
abbrev pub invariant-loop-said : goal.invariant-loop-said
invariant-loop-said l = l.text.items ≡ l.initial.text.items ++ flat_map (said_lines l.beginning) (take l.said-index l.listed)
