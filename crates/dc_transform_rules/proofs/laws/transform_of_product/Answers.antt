-- By induction on the depth, at each node of the tree.
use Rattle.dc_transform_rules.proofs.TransformLemmas.{forward-product-top}
use Rattle.dc_transform_rules.proofs.laws.transform_of_product.Goals as goal

pub returns : goal.returns
returns c = forward-product-top
