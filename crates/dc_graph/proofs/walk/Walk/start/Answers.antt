use Rattle.dc_graph.proofs.WalkSteps.{no_walk}
use Rattle.dc_graph.proofs.walk.Walk.start.Goals as goal

pub returns : goal.returns
returns c = λ edge. rw (c.in_ok-order.ensures.items, c.in_ok-found.ensures) (no_walk edge c.args.n)
