use Rattle.std.proofs.Common.{◌-◌, length}
use Rattle.dc_live.proofs.FrameLemmas.{PieceSoFar}
use Rattle.dc_live.proofs.receiving.receive_frame.Given as goal

abbrev pub invariant-loop-frame : goal.invariant-loop-frame
invariant-loop-frame g l = PieceSoFar l.peer l.initial.reader l.reader (g.W.Wire.state l.initial.wire) (g.W.Wire.state l.wire)

abbrev pub decreases-loop-frame : goal.decreases-loop-frame
decreases-loop-frame g l = 69 - length l.reader.part
