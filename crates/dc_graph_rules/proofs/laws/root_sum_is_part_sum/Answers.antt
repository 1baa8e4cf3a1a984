-- The chain of each station of a part reaches its root.
use Rattle.dc_graph_rules.proofs.DistanceLemmas.{root-sum}
use Rattle.dc_graph_rules.proofs.laws.root_sum_is_part_sum.Goals as goal

pub returns : goal.returns
returns c = root-sum
