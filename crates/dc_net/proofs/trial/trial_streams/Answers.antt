use Rattle.dc_net.specs.TrialNets.{trial_stream}
use Rattle.dc_net.proofs.TrialLists.{one_more}
use Rattle.dc_net.proofs.trial.trial_streams.Goals as goal

pub loop-i-preserved : goal.loop-i-preserved
loop-i-preserved c =
    one_more (trial_stream c.args.base.now) c.loop-i.i _ _ _ c.loop-i.invariant c.in_ok-trial_stream.ensures c.in_ok-push.ensures.items
