-- The sums of the rounds are a session of the stations' streams.
use Rattle.dc_message_rules.proofs.NetBalance.{messages-balance}
use Rattle.dc_message_rules.proofs.laws.messages_balance.Goals as goal

pub returns : goal.returns
returns c = messages-balance
