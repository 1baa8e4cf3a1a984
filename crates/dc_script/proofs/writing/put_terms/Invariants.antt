use Rattle.std.proofs.Common.{◌≡◌, ◌++◌, take}
use Rattle.std.specs.List.{flat_map}
use Rattle.dc_formats.specs.ScriptFile.{term_line}
use Rattle.dc_script.proofs.writing.put_terms.Given as goal

-- the lines so far stand at the end
abbrev pub invariant-loop-term : goal.invariant-loop-term
invariant-loop-term l = l.text.items ≡ l.initial.text.items ++ flat_map term_line (take l.term-index l.terms)
