-- The sum below a station splits by the chains of parents that meet it.
use Rattle.dc_graph_rules.proofs.ForestLemmas.{sums-meet_demands}
use Rattle.dc_graph_rules.proofs.laws.sums_meet_demands.Goals as goal

pub returns : goal.returns
returns c = sums-meet_demands
