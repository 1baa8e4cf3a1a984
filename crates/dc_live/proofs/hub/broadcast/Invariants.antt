use Rattle.dc_formats.specs.Frames.{frame_bytes}
use Rattle.dc_spec.specs.Frames.{all}
use Rattle.dc_live.proofs.TalkAllLemmas.{SentSoFar}
use Rattle.dc_live.proofs.hub.broadcast.Given as goal

-- the peers of the stations so far were sent the sum
abbrev pub invariant-loop-station : goal.invariant-loop-station
invariant-loop-station g l = SentSoFar l.seats (frame_bytes (all l.round l.sum)) l.station (g.W.Wire.state l.fn.wire) (g.W.Wire.state l.wire)
