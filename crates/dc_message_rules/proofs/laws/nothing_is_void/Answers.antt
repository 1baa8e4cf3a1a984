-- Each cycle of a session is undisturbed.
use Rattle.dc_message_rules.proofs.NetCycles.{nothing-void}
use Rattle.dc_message_rules.proofs.laws.nothing_is_void.Goals as goal

pub returns : goal.returns
returns c = nothing-void
