-- Each cycle of a session is undisturbed.
use Rattle.dc_message_rules.proofs.NetCycles.{epochs-rise}
use Rattle.dc_message_rules.proofs.laws.epochs_rise.Goals as goal

pub returns : goal.returns
returns c = epochs-rise
