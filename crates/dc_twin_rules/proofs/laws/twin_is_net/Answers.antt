-- A permutation within parts leaves each member in place.
use Rattle.dc_twin_rules.proofs.Kept.{net-kept}
use Rattle.dc_twin_rules.proofs.laws.twin_is_net.Goals as goal

pub returns : goal.returns
returns c = net-kept
