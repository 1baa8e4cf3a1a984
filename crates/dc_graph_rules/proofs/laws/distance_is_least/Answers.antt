-- Stations are reached step by step.
use Rattle.dc_graph_rules.proofs.DistanceLemmas.{distance-least}
use Rattle.dc_graph_rules.proofs.laws.distance_is_least.Goals as goal

pub returns : goal.returns
returns c = distance-least
