-- Walks lead back.
use Rattle.dc_twin_rules.proofs.Back.{inverse-admitted}
use Rattle.dc_twin_rules.proofs.laws.twin_admits_inverse.Goals as goal

pub returns : goal.returns
returns c = inverse-admitted
