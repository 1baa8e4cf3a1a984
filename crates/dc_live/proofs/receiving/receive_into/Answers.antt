use Rattle.dc_live.proofs.PieceLemmas.{piece_ended}
use Rattle.dc_live.proofs.receiving.receive_into.Goals as goal

pub returns-then-count-eq0 : goal.returns-then-count-eq0
returns-then-count-eq0 g c = piece_ended _ c.in-Ok.count _ _ _ _ _ c.in-Ok.ensures c.if-count-eq0.true c.ended.ensures
