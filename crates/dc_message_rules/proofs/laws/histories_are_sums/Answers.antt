-- Each round delivers the sum.
use Rattle.dc_message_rules.proofs.Deliveries.{histories-sums}
use Rattle.dc_message_rules.proofs.laws.histories_are_sums.Goals as goal

pub returns : goal.returns
returns c = histories-sums
