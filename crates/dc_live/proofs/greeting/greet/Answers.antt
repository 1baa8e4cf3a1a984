use Rattle.std.proofs.Common.{refl}
use Rattle.std.proofs.lemmas.Result.{err_from_is_err_and}
use Rattle.dc_live.proofs.ReadLemmas.{HasRead-new}
use Rattle.dc_live.proofs.GreetLemmas.{greet-stops, greet-fits, greet-unfit}
use Rattle.dc_live.proofs.greeting.greet.Goals as goal

pub receive_frame-requires-clause-waits : goal.receive_frame-requires-clause-waits
receive_frame-requires-clause-waits g c = (HasRead-new c.new-reader.result c.new-reader.ensures).0.waits

pub returns-in_err-frame : goal.returns-in_err-frame
returns-in_err-frame g c =
    let p = err_from_is_err_and c.from_residual.result c.from_residual.ensures.1 in
    rw (p.1, p.2) (greet-stops c.args.seats.now c.args.seats.now c.in_err-frame.field-0.0 refl c.new-reader.ensures (c.in_err-frame.ensures))

pub returns-in-Ok : goal.returns-in-Ok
returns-in-Ok g c = greet-fits c.args.seats.now c.seat_next.new.self _ c.in_ok-frame.frame c.in-Ok.station c.new-reader.ensures (c.in_ok-frame.ensures) c.in-Ok.ensures c.seat_next.ensures c.requires.free c.requires.seats

pub returns-in-Err : goal.returns-in-Err
returns-in-Err g c = greet-unfit c.args.seats.now c.args.seats.now c.in_ok-frame.frame c.in-Err.fault refl c.new-reader.ensures (c.in_ok-frame.ensures) c.in-Err.ensures
