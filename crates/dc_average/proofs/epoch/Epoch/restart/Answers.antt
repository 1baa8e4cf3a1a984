use Rattle.dc_average.proofs.TakeLemmas.{StandsFor-nil}
use Rattle.dc_average.proofs.epoch.Epoch.restart.Goals as goal

pub returns : goal.returns
returns c = StandsFor-nil c.clear.new.self c.clear.ensures
