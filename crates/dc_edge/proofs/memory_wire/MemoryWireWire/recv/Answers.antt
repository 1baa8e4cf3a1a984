use Rattle.std.proofs.Common.{arith}
use Rattle.std.proofs.lemmas.Grind.{common_steps}
use Rattle.std.specs.Vec.{with_item}
use Rattle.dc_edge.specs.WireBook.{WireBook}
use Rattle.dc_edge.specs.contracts.memory_wire.MemoryWire.{the_view}
use Rattle.dc_edge.proofs.WireLemmas.{Receives-failed, Receives-given}
use Rattle.dc_edge.proofs.memory_wire.MemoryWireWire.recv.Goals as goal

pub returns-then-fails-clause-receives : goal.returns-then-fails-clause-receives
returns-then-fails-clause-receives c = Receives-failed c.args.peer c.args.buf.now c.args.self.now c.fails.new.self _ (grind (arith, common_steps)) (grind (arith, common_steps))

pub returns-clause-receives : goal.returns-clause-receives
returns-clause-receives c =
    let now : WireBook = the_view (record c.self.inside { fed = with_item c.self.inside.fed c.args.peer c.give.new.self }) in
    Receives-given c.args.peer c.give.result c.args.buf.now c.give.new.buf c.args.self.now now (grind (arith, common_steps)) (grind (arith, common_steps)) (grind (arith, common_steps))
    (grind (arith, common_steps)) (grind (arith, common_steps)) (grind (arith, common_steps))
