use Rattle.dc_steer.proofs.Faultless.{faultless}
use Rattle.dc_steer.proofs.laws.faultless_may_steer.Goals as goal

pub returns : goal.returns
returns c = faultless
