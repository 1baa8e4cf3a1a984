use Rattle.std.proofs.lemmas.Result.{err_from_is_err_and}
use Rattle.dc_live.proofs.SumLemmas.{sum_heard, sum_unfit, sum_stops}
use Rattle.dc_live.proofs.station.hear_sum.Goals as goal

pub returns-in_err-frame : goal.returns-in_err-frame
returns-in_err-frame g c =
    let p = err_from_is_err_and c.from_residual.result c.from_residual.ensures.1 in
    rw (p.1, p.2) (sum_stops c.args.round c.in_err-frame.field-0.0 (c.in_err-frame.ensures))

pub returns-in-Ok : goal.returns-in-Ok
returns-in-Ok g c = sum_heard c.args.round c.in_ok-frame.frame c.in-Ok.sum (c.in_ok-frame.ensures) c.in-Ok.ensures

pub returns-in-Err : goal.returns-in-Err
returns-in-Err g c = sum_unfit c.args.round c.in_ok-frame.frame c.in-Err.fault (c.in_ok-frame.ensures) c.in-Err.ensures
