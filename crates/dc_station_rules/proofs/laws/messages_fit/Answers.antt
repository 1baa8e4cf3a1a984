use Rattle.dc_station_rules.proofs.MessageOrVoid.{messages_fit}
use Rattle.dc_station_rules.proofs.laws.messages_fit.Goals as goal

pub returns : goal.returns
returns c = messages_fit
