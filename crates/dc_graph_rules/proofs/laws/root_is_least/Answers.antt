-- A part is listed in rising order.
use Rattle.dc_graph_rules.proofs.DistanceLemmas.{root-least}
use Rattle.dc_graph_rules.proofs.laws.root_is_least.Goals as goal

pub returns : goal.returns
returns c = root-least
