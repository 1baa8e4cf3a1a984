use Rattle.dc_station_rules.proofs.FewEntries.{log-fit, sent-fit}
use Rattle.dc_station_rules.proofs.laws.logs_fit.Goals as goal

pub returns : goal.returns
returns c = λ stream words. (log-fit words, sent-fit stream words)
