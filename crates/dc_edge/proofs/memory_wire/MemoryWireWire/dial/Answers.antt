use Rattle.dc_edge.proofs.WireLemmas.{Dials-met}
use Rattle.dc_edge.proofs.memory_wire.MemoryWireWire.dial.Goals as goal

pub returns-clause-dials : goal.returns-clause-dials
returns-clause-dials c =
    let asked = c.in_ok-ask.ensures.ok in
    Dials-met c.args.addr.now c.args.self.now c.meet.new.self c.meet.result (rw asked at c.meet.ensures.counted) (rw asked at c.meet.ensures.unsent) (rw asked at c.meet.ensures.exact)
