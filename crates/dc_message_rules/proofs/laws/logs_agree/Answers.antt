-- All stations have one history.
use Rattle.dc_message_rules.proofs.PlainSums.{logs-agree}
use Rattle.dc_message_rules.proofs.laws.logs_agree.Goals as goal

pub returns : goal.returns
returns c = logs-agree
