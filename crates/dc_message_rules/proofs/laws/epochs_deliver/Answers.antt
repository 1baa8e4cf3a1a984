-- The leaves cover all numbers.
use Rattle.dc_message_rules.proofs.Delivered.{epochs-deliver}
use Rattle.dc_message_rules.proofs.laws.epochs_deliver.Goals as goal

pub returns : goal.returns
returns c = epochs-deliver
