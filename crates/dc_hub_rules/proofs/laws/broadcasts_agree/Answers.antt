-- Each word is accepted once, in its own round, in whatever order the arrivals come.
use Rattle.dc_hub_rules.proofs.HubLemmas.{broadcasts-agree}
use Rattle.dc_hub_rules.proofs.laws.broadcasts_agree.Goals as goal

pub returns : goal.returns
returns c = broadcasts-agree
