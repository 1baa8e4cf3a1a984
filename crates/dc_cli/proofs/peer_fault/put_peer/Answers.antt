use Rattle.std.proofs.Common.{rules}
use Rattle.dc_edge.proofs.PutLemmas.{Puts-then, Puts-stops}
use Rattle.dc_cli.proofs.peer_fault.put_peer.Goals as goal

pub returns-in_err-put_number : goal.returns-in_err-put_number
returns-in_err-put_number g c = rw (← c.from.ensures) (Puts-stops _ _ _ _ _ _ c.in_err-put_number.ensures (search rules))

pub returns : goal.returns
returns g c = rw (← c.from.ensures) (Puts-then _ _ _ _ _ _ _ c.in_ok-put_number.ensures c.put_rest_of_peer.ensures)
