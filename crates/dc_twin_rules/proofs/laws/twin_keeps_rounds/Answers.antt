-- The demands of a part sum to zero, so each station's keys gain its own.
use Rattle.dc_twin_rules.proofs.Rounds.{rounds-kept}
use Rattle.dc_twin_rules.proofs.laws.twin_keeps_rounds.Goals as goal

pub returns : goal.returns
returns c = rounds-kept
