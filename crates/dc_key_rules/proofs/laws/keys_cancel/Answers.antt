-- Each pair counts once with plus, at its smaller end, and once with minus, at its larger end.
use Rattle.dc_key_rules.proofs.KeyLemmas.{keys-cancel}
use Rattle.dc_key_rules.proofs.laws.keys_cancel.Goals as goal

pub returns : goal.returns
returns c = keys-cancel
