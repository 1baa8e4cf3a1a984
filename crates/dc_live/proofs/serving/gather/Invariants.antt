use Rattle.dc_live.proofs.ServeLemmas.{GreetedSoFar}
use Rattle.dc_live.proofs.serving.gather.Given as goal

-- so many peers were greeted
abbrev pub invariant-loop : goal.invariant-loop
invariant-loop g l = GreetedSoFar l.addr l.fn.seats l.seats l.counter (g.W.Wire.state l.fn.wire) (g.W.Wire.state l.wire)
