-- The net is itself with its own pair put in.
use Rattle.dc_steering_rules.proofs.EquallyMany.{own_list}
use Rattle.dc_steering_rules.proofs.laws.own_pads_are_listed.Goals as goal

pub returns : goal.returns
returns c = own_list
