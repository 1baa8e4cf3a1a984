use Rattle.dc_average.proofs.TakeLemmas.{StandsFor-nil}
use Rattle.dc_average.proofs.epoch.Epoch.start.Goals as goal

pub returns : goal.returns
returns c = StandsFor-nil c.in_ok-stack.stack c.in_ok-stack.ensures
