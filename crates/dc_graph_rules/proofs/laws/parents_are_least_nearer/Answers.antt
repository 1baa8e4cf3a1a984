-- A search finds the first station that passes its test.
use Rattle.dc_graph_rules.proofs.ParentLemmas.{parents-least}
use Rattle.dc_graph_rules.proofs.laws.parents_are_least_nearer.Goals as goal

pub returns : goal.returns
returns c = parents-least
