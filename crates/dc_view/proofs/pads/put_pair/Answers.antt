use Rattle.std.proofs.Common.{rules}
use Rattle.dc_edge.proofs.PutLemmas.{Puts-then, Puts-stops}
use Rattle.dc_view.proofs.pads.put_pair.Goals as goal

pub returns-in_err-put_pads : goal.returns-in_err-put_pads
returns-in_err-put_pads g c = rw (← c.pair.view_is, ← c.as_slice.ensures.value) (Puts-stops _ _ _ _ _ _ c.in_err-put_pads.ensures (search rules))

pub returns : goal.returns
returns g c = rw (← c.pair.view_is, ← c.as_slice.ensures.value, ← c.as_slice-2.ensures.value) (Puts-then _ _ _ _ _ _ _ c.in_ok-put_pads.ensures c.put_pads-2.ensures)
