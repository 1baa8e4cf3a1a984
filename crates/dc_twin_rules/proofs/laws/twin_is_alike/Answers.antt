-- Its rounds are those of the net.
use Rattle.dc_twin_rules.proofs.Rounds.{alike-kept}
use Rattle.dc_twin_rules.proofs.laws.twin_is_alike.Goals as goal

pub returns : goal.returns
returns c = alike-kept
