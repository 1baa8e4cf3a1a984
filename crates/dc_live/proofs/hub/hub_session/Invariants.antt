use Rattle.dc_live.proofs.HubAtLemmas.{HubSoFar, bytes_left}
use Rattle.dc_live.proofs.hub.hub_session.Given as goal

-- the rounds so far were played
abbrev pub invariant-loop-wire : goal.invariant-loop-wire
invariant-loop-wire g l = HubSoFar l.fn.seats l.seats l.core (g.W.Wire.state l.fn.wire) (g.W.Wire.state l.wire)

abbrev pub decreases-loop-wire : goal.decreases-loop-wire
decreases-loop-wire g l = bytes_left l.seats.words l.seats.seats
