use Rattle.std.proofs.Common.{refl}
use Rattle.dc_station_rules.proofs.MessageBursts.{none_go_on}
use Rattle.dc_reserve.proofs.burst.Burst.start.Goals as goal

pub returns-clause-stands : goal.returns-clause-stands
returns-clause-stands c = record { kept = rw none_go_on (refl, c.in_ok-bytes.ensures.items) }
