use Rattle.std.proofs.Common.{◌≡◌, ◌++◌, take}
use Rattle.std.specs.List.{flat_map}
use Rattle.dc_formats.specs.StreamFile.{short_line}
use Rattle.dc_stream.proofs.writing.put_shorts.Given as goal

-- the lines so far stand at the end
abbrev pub invariant-loop-value : goal.invariant-loop-value
invariant-loop-value l = l.text.items ≡ l.initial.text.items ++ flat_map short_line (take l.value-index l.shorts)
