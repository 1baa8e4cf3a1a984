use Rattle.dc_cli.proofs.manifest_fault.put_graph_fault.Goals as goal

pub returns-in-Stations : goal.returns-in-Stations
returns-in-Stations g c = rw (c.in-Stations.is, ← c.from.ensures) c.put_number.ensures

pub returns-in-Ends : goal.returns-in-Ends
returns-in-Ends g c = rw (c.in-Ends.is, ← c.from-in-Ends.ensures) c.put_number-in-Ends.ensures

pub returns-in-Repeated : goal.returns-in-Repeated
returns-in-Repeated g c = rw (c.in-Repeated.is, ← c.from-in-Repeated.ensures) c.put_number-in-Repeated.ensures
