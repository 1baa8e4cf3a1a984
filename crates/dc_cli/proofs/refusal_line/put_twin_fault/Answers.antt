use Rattle.dc_cli.proofs.refusal_line.put_twin_fault.Goals as goal

pub returns-in-PermCount : goal.returns-in-PermCount
returns-in-PermCount g c = rw (c.in-PermCount.is, ← c.from.ensures, ← c.from-in-PermCount.ensures) c.put_two_numbers.ensures
