use Rattle.std.proofs.Common.{sym, subst}
use Rattle.dc_cli.specs.Playing.{Plays}
use Rattle.dc_cli.specs.declared.outcome.Outcome.{Outcome}
use Rattle.dc_cli.proofs.PlayingLemmas.{played, plays_done, plays_failed, plays_fault}
use Rattle.dc_cli.proofs.playing.play.Goals as goal

pub returns-in-Ok-put_station : goal.returns-in-Ok-put_station
returns-in-Ok-put_station g c =
    plays_done _ _ _ _ _ _ _ _ _ _ c.in-Ok.ensures c.in-Ok-station_session.ensures.runs c.in-Ok-station_session.ensures.complete c.in-Ok-put_station.ensures

pub returns-in-Ok-station_session : goal.returns-in-Ok-station_session
returns-in-Ok-station_session g c =
    plays_failed _ _ _ _ _ _ _ _ _ _ c.in-Err-put_station.field-0 c.in-Ok.ensures c.in-Ok-station_session.ensures.runs c.in-Ok-station_session.ensures.complete c.in-Err-put_station.ensures

pub returns : goal.returns
returns g c =
    let out = g.K.Sink.state c.args.out.now in
    let before = g.W.Wire.state c.args.wire.now in
    let after = g.W.Wire.state c.station_session.new.wire in
    let P : Outcome → Type 0 = λ x. Plays c.args.addr.now c.args.player out out before after x in
    subst P (sym c.outcome_of_session.ensures)
    (plays_fault c.args.addr.now c.args.player out before after c.in-Err.fault (played _ _ _ _ _ _ _ _ _ c.in-Ok.ensures c.in-Err.ensures.runs c.in-Err.ensures.complete))
