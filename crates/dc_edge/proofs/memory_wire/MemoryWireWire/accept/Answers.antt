use Rattle.std.proofs.Common.{[]}
use Rattle.dc_edge.proofs.WireLemmas.{Dials-met}
use Rattle.dc_edge.proofs.memory_wire.MemoryWireWire.accept.Goals as goal

pub returns-clause-accepts : goal.returns-clause-accepts
returns-clause-accepts c =
    let asked = c.in_ok-ask.ensures.ok in
    Dials-met [] c.args.self.now c.meet.new.self c.meet.result (rw asked at c.meet.ensures.counted) (rw asked at c.meet.ensures.unsent) (rw asked at c.meet.ensures.exact)
