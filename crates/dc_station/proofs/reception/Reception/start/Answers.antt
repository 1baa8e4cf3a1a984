use Rattle.std.proofs.Common.{refl, ap}
use Rattle.dc_station.proofs.ReceivingLemmas.{receives_none}
use Rattle.dc_station.proofs.reception.Reception.start.Goals as goal

pub returns-clause-receives : goal.returns-clause-receives
returns-clause-receives c = receives_none _ refl (ap (λ l. l.entries) c.in_ok-log.ensures)
