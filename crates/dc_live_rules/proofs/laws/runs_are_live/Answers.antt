-- Round by round.
use Rattle.dc_live_rules.proofs.RunsLive.{runs-are-live}
use Rattle.dc_live_rules.proofs.laws.runs_are_live.Goals as goal

pub returns : goal.returns
returns c = runs-are-live
