-- Place by place.
use Rattle.dc_live_rules.proofs.RecordedWords.{recorded-live}
use Rattle.dc_live_rules.proofs.laws.recorded_live.Goals as goal

pub returns : goal.returns
returns c = recorded-live
