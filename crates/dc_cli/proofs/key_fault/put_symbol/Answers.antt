use Rattle.std.proofs.Common.{rules}
use Rattle.dc_edge.proofs.PutLemmas.{Puts-then, Puts-stops}
use Rattle.dc_cli.proofs.key_fault.put_symbol.Goals as goal

pub returns-in_err-put_two_numbers : goal.returns-in_err-put_two_numbers
returns-in_err-put_two_numbers g c = Puts-stops _ _ _ _ _ _ c.in_err-put_two_numbers.ensures (search rules)

pub returns : goal.returns
returns g c = Puts-then _ _ _ _ _ _ _ c.in_ok-put_two_numbers.ensures c.put_number.ensures
