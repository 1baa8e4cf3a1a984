use Rattle.std.proofs.Common.{◌≡◌, ◌++◌, take}
use Rattle.std.specs.List.{flat_map}
use Rattle.dc_formats.specs.StreamFile.{long_line}
use Rattle.dc_stream.proofs.writing.put_longs.Given as goal

-- the lines so far stand at the end
abbrev pub invariant-loop-message : goal.invariant-loop-message
invariant-loop-message l = l.text.items ≡ l.initial.text.items ++ flat_map long_line (take l.message-index l.longs)
