use Rattle.std.proofs.Common.{ltb}
use Rattle.dc_net.proofs.TrialLists.{edges_more}
use Rattle.dc_net.proofs.trial.trial_edges.Goals as goal

pub loop-i-preserved : goal.loop-i-preserved
loop-i-preserved c = edges_more (λ e. ltb e.1 c.args.n) c.loop-i.i _ _ c.loop-i.invariant c.in_ok-push_edges.ensures
