-- By induction on the depth, at each node of the tree.
use Rattle.dc_transform_rules.proofs.CoefficientLemmas.{scaled_one}
use Rattle.dc_transform_rules.proofs.TransformLemmas.{backward-forward, product-by_transforms, product-divided, top_node}
use Rattle.dc_transform_rules.proofs.laws.way_back.Goals as goal

pub returns-clause-undone : goal.returns-clause-undone
returns-clause-undone c = λ width depth a low long symbols. backward-forward width depth 0 a (top_node depth low) long (scaled_one a symbols)

pub returns-clause-multiplied : goal.returns-clause-multiplied
returns-clause-multiplied c = product-by_transforms

pub returns-clause-divided : goal.returns-clause-divided
returns-clause-divided c = product-divided
