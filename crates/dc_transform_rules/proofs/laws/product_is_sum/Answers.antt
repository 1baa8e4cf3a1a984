-- By the multiples of the first factor that the second one takes.
use Rattle.dc_transform_rules.proofs.CoefficientLemmas.{product-sum, product-carry}
use Rattle.dc_transform_rules.proofs.laws.product_is_sum.Goals as goal

pub returns-clause-all : goal.returns-clause-all
returns-clause-all c = product-sum

pub returns-clause-carried : goal.returns-clause-carried
returns-clause-carried c = product-carry
