use Rattle.std.proofs.Common.{refl, sym}
use Rattle.dc_station.proofs.FieldLemmas.{fields_from-first, fields_from-none}
use Rattle.dc_station.proofs.reception.place_from.Goals as goal

pub returns-in-Some : goal.returns-in-Some
returns-in-Some c = rw (fields_from-first c.args.granted.now c.args.from c.in-Some.field (sym c.in-Some.ensures.least)) (refl, refl, c.in-Some.ensures.field)

pub returns-in-None : goal.returns-in-None
returns-in-None c = rw (fields_from-none c.args.granted.now c.args.from (sym c.in-None.ensures.least)) (refl, c.restart.ensures)
