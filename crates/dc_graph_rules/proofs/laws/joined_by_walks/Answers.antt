-- What computes to joined is joined by a walk, and the other way round.
use Rattle.dc_graph_rules.proofs.GraphLemmas.{joined-walks}
use Rattle.dc_graph_rules.proofs.laws.joined_by_walks.Goals as goal

pub returns : goal.returns
returns c = joined-walks
