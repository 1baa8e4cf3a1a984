use Rattle.dc_steer.proofs.SameWords.{never_differed}
use Rattle.dc_steer.proofs.laws.never_differed_is_alike.Goals as goal

pub returns : goal.returns
returns c = never_differed
