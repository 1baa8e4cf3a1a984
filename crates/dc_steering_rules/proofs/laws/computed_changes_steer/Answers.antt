-- Each change is chosen so that its symbol gains what is wanted.
use Rattle.dc_steering_rules.proofs.SteeringLemmas.{computed-steers}
use Rattle.dc_steering_rules.proofs.laws.computed_changes_steer.Goals as goal

pub returns : goal.returns
returns c = computed-steers
