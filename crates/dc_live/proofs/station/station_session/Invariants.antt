use Rattle.dc_frame.specs.Frames.{frame_of}
use Rattle.dc_live.specs.StationSession.{greeting_of}
use Rattle.dc_live.proofs.StationLemmas.{SoFar}
use Rattle.dc_live.proofs.station.station_session.Given as goal

-- the rounds before this one were played
abbrev pub invariant-loop-round : goal.invariant-loop-round
invariant-loop-round g l =
    SoFar l.peer l.round (greeting_of (frame_of l.hello)) l.fn.st l.st l.fn.mask l.mask l.reader (g.W.Wire.state l.fn.wire) (g.W.Wire.state l.wire)
