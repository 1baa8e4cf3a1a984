-- The words up to round s are the same, and the script fixes what is received later.
use Rattle.dc_steering_rules.proofs.EquallyMany.{heard_alike}
use Rattle.dc_steering_rules.proofs.laws.key_lists_are_heard_alike.Goals as goal

pub returns : goal.returns
returns c = heard_alike
