use Rattle.dc_station_rules.proofs.MessageBursts.{fragments-give}
use Rattle.dc_reserve.proofs.laws.fragments_give_their_message.Goals as goal

pub returns : goal.returns
returns c = fragments-give
