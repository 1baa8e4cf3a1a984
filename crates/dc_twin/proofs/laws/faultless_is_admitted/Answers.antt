use Rattle.dc_twin.proofs.Faultless.{faultless}
use Rattle.dc_twin.proofs.laws.faultless_is_admitted.Goals as goal

pub returns : goal.returns
returns c = faultless
