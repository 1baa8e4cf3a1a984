use Rattle.dc_cli.proofs.peer_fault.put_peer_fault.Goals as goal

pub returns-in-Unexpected : goal.returns-in-Unexpected
returns-in-Unexpected g c = rw (c.in-Unexpected.is, ← c.from.ensures) c.put_number.ensures

pub returns-in-Round : goal.returns-in-Round
returns-in-Round g c = rw c.in-Round.is c.put_two_small.ensures

pub returns-in-Ended : goal.returns-in-Ended
returns-in-Ended g c = rw c.in-Ended.is c.put_number-in-Ended.ensures
