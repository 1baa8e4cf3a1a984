use Rattle.dc_cli.proofs.net_fault.put_stream_kind.Goals as goal

pub returns-in-Length : goal.returns-in-Length
returns-in-Length g c = rw (c.in-Length.is, ← c.from.ensures) c.put_number.ensures
