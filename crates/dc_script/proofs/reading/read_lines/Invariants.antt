use Rattle.std.proofs.Common.{length}
use Rattle.dc_script.proofs.ReadSoFar.{ReadSoFar}
use Rattle.dc_script.proofs.reading.read_lines.Given as goal

-- the lines so far make the progress, and the others are left
abbrev pub invariant-loop-alloc : goal.invariant-loop-alloc
invariant-loop-alloc l = ReadSoFar l.version l.fn.after_head.bytes l.lines l.progress

abbrev pub decreases-loop-alloc : goal.decreases-loop-alloc
decreases-loop-alloc l = length l.lines.bytes
