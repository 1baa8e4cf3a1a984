use Rattle.dc_cli.proofs.net_fault.put_script_kind.Goals as goal

pub returns-in-Round : goal.returns-in-Round
returns-in-Round g c = rw (c.in-Round.is, ← c.from.ensures, ← c.from-in-Round.ensures) c.put_two_numbers.ensures

pub returns-in-Order : goal.returns-in-Order
returns-in-Order g c = rw (c.in-Order.is, ← c.from-in-Order.ensures) c.put_number.ensures

pub returns-in-Late : goal.returns-in-Late
returns-in-Late g c = rw (c.in-Late.is, ← c.from-in-Late.ensures, ← c.from-in-Late-2.ensures) c.put_two_numbers-in-Late.ensures
