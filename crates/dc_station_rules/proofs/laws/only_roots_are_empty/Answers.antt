use Rattle.dc_station_rules.proofs.FilledGroups.{only-roots_empty}
use Rattle.dc_station_rules.proofs.laws.only_roots_are_empty.Goals as goal

pub returns : goal.returns
returns c = only-roots_empty
