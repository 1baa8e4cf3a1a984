-- The net's own pair is steered from the run's own sums.
use Rattle.dc_steering_rules.proofs.EquallyMany.{steered_net_is_steered}
use Rattle.dc_steering_rules.proofs.laws.steered_sums_are_wanted.Goals as goal

pub returns : goal.returns
returns c = steered_net_is_steered
