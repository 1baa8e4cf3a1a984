use Rattle.dc_print.proofs.GatherLemmas.{Puts-kept}
use Rattle.dc_steer.proofs.text.put_steered.Goals as goal

pub returns : goal.returns
returns g c = Puts-kept _ _ _ _ _ _ _ c.in_ok-end.ensures c.put.ensures
