use Rattle.std.proofs.Common.{refl}
use Rattle.dc_station.specs.declared.reception.Effect.TheVariants.{Nothing}
use Rattle.dc_station.proofs.ReceivingLemmas.{no_last}
use Rattle.dc_station.proofs.receiver.Receiver.start.Goals as goal

pub returns : goal.returns
returns c = record { session = refl; counted = refl; receives = c.in_ok-kept.ensures.receives; last = no_last Nothing c.in_ok-kept.kept }
