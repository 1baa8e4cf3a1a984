-- The keys cancel over one history.
use Rattle.dc_message_rules.proofs.PlainSums.{sums-plain}
use Rattle.dc_message_rules.proofs.laws.sums_are_plain.Goals as goal

pub returns : goal.returns
returns c = sums-plain
