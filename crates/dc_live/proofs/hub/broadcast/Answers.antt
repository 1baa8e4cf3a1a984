use Rattle.std.proofs.Common.{arith, ◌≡◌, subst, ℕ}
use Rattle.std.proofs.lemmas.Result.{err_from_is_err_and}
use Rattle.dc_spec.specs.Frames.{all}
use Rattle.dc_formats.specs.Frames.{frame_bytes}
use Rattle.dc_live.proofs.SeatLemmas.{has_peer}
use Rattle.dc_live.proofs.TalkAllLemmas.{SentSoFar, SentSoFar-none, SentSoFar-more, SentSoFar-done, SentSoFar-stops}
use Rattle.dc_live.proofs.hub.broadcast.Goals as goal

pub loop-station-init : goal.loop-station-init
loop-station-init g c = SentSoFar-none c.args.seats.now (frame_bytes (all c.args.round c.args.sum.now)) (g.W.Wire.state c.args.wire.now)

pub peer_of-requires : goal.peer_of-requires
peer_of-requires g c =
    let low = c.loop-station-test.true in
    let last = c.stations-station-end.ensures in
    has_peer c.args.seats.now c.requires.seats c.requires.all c.loop-station.station (omega arith)

pub returns-in_err-send_frame : goal.returns-in_err-send_frame
returns-in_err-send_frame g c =
    let p = err_from_is_err_and c.from_residual.result c.from_residual.ensures.1 in
    rw (p.1, p.2) (SentSoFar-stops {s = c.args.seats.now} {round = c.args.round} {station = c.loop-station.station} {sum = c.args.sum.now} c.peer_of.result c.in_err-send_frame.field-0.0 c.requires.seats c.requires.all
    c.loop-station.invariant c.peer_of.ensures.peer c.peer_of.ensures.station (c.in_err-send_frame.ensures))

pub loop-station-preserved : goal.loop-station-preserved
loop-station-preserved g c =
    SentSoFar-more {s = c.args.seats.now} {text = frame_bytes (all c.args.round c.args.sum.now)} {station = c.loop-station.station} c.peer_of.result c.requires.seats c.requires.all c.loop-station.invariant
    c.peer_of.ensures.peer c.peer_of.ensures.station (c.in_ok-send_frame.ensures)

pub returns : goal.returns
returns g c =
    let ended = c.loop-station-test.false in
    let within = c.loop-station.auto.station-end in
    let last = c.stations-station-end.ensures in
    let same : c.loop-station.station ≡ c.args.seats.now.stations = omega arith in
    SentSoFar-done {s = c.args.seats.now} {round = c.args.round} {sum = c.args.sum.now} c.requires.seats c.requires.all
    (subst (λ (n : ℕ). SentSoFar c.args.seats.now (frame_bytes (all c.args.round c.args.sum.now)) n (g.W.Wire.state c.args.wire.now) (g.W.Wire.state c.loop-station.wire)) same c.loop-station.invariant)
