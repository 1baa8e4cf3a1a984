use Rattle.std.proofs.Common.{rules}
use Rattle.dc_edge.proofs.PutLemmas.{Puts-then, Puts-stops}
use Rattle.dc_cli.proofs.peer_fault.put_rest_of_peer.Goals as goal

pub returns-in_err-put : goal.returns-in_err-put
returns-in_err-put g c = Puts-stops _ _ _ _ _ _ c.in_err-put.ensures (search rules)

pub returns : goal.returns
returns g c = Puts-then _ _ _ _ _ _ _ c.in_ok-put.ensures c.put_peer_fault.ensures
