use Rattle.dc_station_rules.proofs.AddUp.{leaves_add_up}
use Rattle.dc_station_rules.proofs.laws.leaves_add_up.Goals as goal

pub returns : goal.returns
returns c = leaves_add_up
