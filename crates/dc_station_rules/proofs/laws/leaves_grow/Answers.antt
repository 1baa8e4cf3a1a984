use Rattle.dc_station_rules.proofs.MoreLeaves.{leaves-push}
use Rattle.dc_station_rules.proofs.laws.leaves_grow.Goals as goal

pub returns : goal.returns
returns c = leaves-push
