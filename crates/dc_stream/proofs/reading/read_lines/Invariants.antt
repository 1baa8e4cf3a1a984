use Rattle.std.proofs.Common.{◌≡◌, ◌+◌, length}
use Rattle.dc_stream.specs.ReadingByLists.{lines_by_lists, stream_by_lists}
use Rattle.dc_stream.proofs.reading.read_lines.Given as goal

-- what the lines so far make of a stream, the other lines make into what they all make
abbrev pub invariant-loop-lines : goal.invariant-loop-lines
invariant-loop-lines l = lines_by_lists (l.lines.before + 1) l.stream l.lines.bytes ≡ stream_by_lists l.b

abbrev pub decreases-loop-lines : goal.decreases-loop-lines
decreases-loop-lines l = length l.lines.bytes
