-- Each word of an epoch splits a group or shows that its values are equal.
use Rattle.dc_message_rules.proofs.NetCycles.{net-lengths}
use Rattle.dc_message_rules.proofs.laws.epoch_lengths.Goals as goal

pub returns : goal.returns
returns c = net-lengths
