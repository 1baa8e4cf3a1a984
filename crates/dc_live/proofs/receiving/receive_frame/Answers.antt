use Rattle.std.proofs.lemmas.Result.{err_from_is_err_and}
use Rattle.dc_live.proofs.FrameLemmas.{PieceSoFar-none, PieceSoFar-more, frame_later, piece_longer}
use Rattle.dc_live.proofs.receiving.receive_frame.Goals as goal

pub loop-frame-init : goal.loop-frame-init
loop-frame-init g c = PieceSoFar-none c.args.peer c.args.reader.now (g.W.Wire.state c.args.wire.now) c.requires.waits

pub returns-in_err-frame : goal.returns-in_err-frame
returns-in_err-frame g c =
    let p = err_from_is_err_and c.from_residual.result c.from_residual.ensures.1 in
    rw (p.1, p.2) (frame_later c.loop-frame.invariant (c.in_err-frame.ensures))

pub returns-in-Some : goal.returns-in-Some
returns-in-Some g c = rw (← c.in-Some.is) (frame_later c.loop-frame.invariant (c.in_ok-frame.ensures))

pub loop-frame-smaller : goal.loop-frame-smaller
loop-frame-smaller g c = piece_longer c.in_ok-frame.field-0 c.in_default.is c.loop-frame.invariant (c.in_ok-frame.ensures)

pub loop-frame-preserved : goal.loop-frame-preserved
loop-frame-preserved g c = PieceSoFar-more c.in_ok-frame.field-0 c.in_default.is c.loop-frame.invariant (c.in_ok-frame.ensures)
