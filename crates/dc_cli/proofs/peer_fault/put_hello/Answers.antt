use Rattle.std.proofs.Common.{rules}
use Rattle.dc_edge.proofs.PutLemmas.{Puts-then, Puts-stops}
use Rattle.dc_cli.proofs.peer_fault.put_hello.Goals as goal

pub returns-in_err-put_two_small : goal.returns-in_err-put_two_small
returns-in_err-put_two_small g c = Puts-stops _ _ _ _ _ _ c.in_err-put_two_small.ensures (search rules)

pub returns : goal.returns
returns g c = Puts-then _ _ _ _ _ _ _ c.in_ok-put_two_small.ensures c.put_small.ensures
