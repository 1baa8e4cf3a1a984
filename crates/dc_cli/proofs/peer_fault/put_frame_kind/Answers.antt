use Rattle.dc_cli.proofs.peer_fault.put_frame_kind.Goals as goal

pub returns-in-Tag : goal.returns-in-Tag
returns-in-Tag g c = rw (c.in-Tag.is, ← c.from.ensures) c.put_number.ensures

pub returns-in-Length : goal.returns-in-Length
returns-in-Length g c = rw c.in-Length.is c.put_small.ensures

pub returns-in-Symbol : goal.returns-in-Symbol
returns-in-Symbol g c = rw (c.in-Symbol.is, ← c.from-in-Symbol.ensures) c.put_number-in-Symbol.ensures
