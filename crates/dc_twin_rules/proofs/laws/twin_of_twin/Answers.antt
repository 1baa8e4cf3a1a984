-- The demands of a twin by the inverse are the opposites.
use Rattle.dc_twin_rules.proofs.Back.{twin-back}
use Rattle.dc_twin_rules.proofs.laws.twin_of_twin.Goals as goal

pub returns : goal.returns
returns c = twin-back
