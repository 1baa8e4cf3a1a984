use Rattle.std.proofs.Common.{arith}
use Rattle.std.proofs.lemmas.Grind.{common_steps}
use Rattle.dc_edge.proofs.WireLemmas.{Listens-failed}
use Rattle.dc_edge.proofs.memory_wire.MemoryWireWire.listen.Goals as goal

pub returns-then-fails-clause-listens : goal.returns-then-fails-clause-listens
returns-then-fails-clause-listens c = Listens-failed c.args.addr.now c.args.self.now c.fails.new.self (grind (arith, common_steps)) (grind (arith, common_steps))
