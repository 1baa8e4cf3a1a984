-- A word that the called stations send is always a part of its group.
use Rattle.dc_message_rules.proofs.Delivered.{epochs-stand}
use Rattle.dc_message_rules.proofs.laws.epochs_stand.Goals as goal

pub returns : goal.returns
returns c = epochs-stand
