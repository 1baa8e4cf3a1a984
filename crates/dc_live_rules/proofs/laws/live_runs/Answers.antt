-- Round by round.
use Rattle.dc_live_rules.proofs.LiveRounds.{live-runs}
use Rattle.dc_live_rules.proofs.laws.live_runs.Goals as goal

pub returns : goal.returns
returns c = live-runs
