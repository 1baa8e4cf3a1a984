-- Each honest station hears the sum of each round.
use Rattle.dc_net_rules.proofs.RunLemmas.{sums-alike}
use Rattle.dc_net_rules.proofs.laws.sums_are_alike.Goals as goal

pub returns : goal.returns
returns c = sums-alike
