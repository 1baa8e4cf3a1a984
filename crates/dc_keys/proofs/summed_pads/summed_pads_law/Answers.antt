use Rattle.dc_keys.proofs.StationKeys.{station_key-key_part}
use Rattle.dc_keys.proofs.summed_pads.summed_pads_law.Goals as goal

pub returns : goal.returns
returns c = station_key-key_part
