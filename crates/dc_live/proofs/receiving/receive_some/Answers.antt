use Rattle.std.proofs.lemmas.Result.{err_from_is_err_and}
use Rattle.dc_live.proofs.FrameLemmas.{frame_stops, frame_taken}
use Rattle.dc_live.proofs.receiving.receive_some.Goals as goal

pub returns-in_err-receive_piece : goal.returns-in_err-receive_piece
returns-in_err-receive_piece g c =
    let p = err_from_is_err_and c.from_residual.result c.from_residual.ensures.1 in
    rw (p.1, p.2) (frame_stops _ _ _ _ _ c.in_err-receive_piece.field-0.0 (c.in_err-receive_piece.ensures))

pub returns : goal.returns
returns g c =
    frame_taken _ _ c.receive_piece.new.reader _ _ _ _ _ (c.in_ok-receive_piece.ensures) c.take.ensures.value c.take.ensures.stands c.take.ensures.begins c.take.ensures.kept
