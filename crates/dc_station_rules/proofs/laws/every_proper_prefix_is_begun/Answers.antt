use Rattle.dc_station_rules.proofs.GoingOn.{prefix_is_begun}
use Rattle.dc_station_rules.proofs.laws.every_proper_prefix_is_begun.Goals as goal

pub returns : goal.returns
returns c = prefix_is_begun
