use Rattle.std.proofs.Common.{refl}
use Rattle.dc_station.proofs.ReceivingLemmas.{took_reservation}
use Rattle.dc_station.proofs.reception.Reception.take_reservation.Goals as goal

pub returns : goal.returns
returns c = took_reservation c.args.self.now _ c.args.w.now c.requires c.granted-self.ensures.fields c.place_from-self.ensures refl
