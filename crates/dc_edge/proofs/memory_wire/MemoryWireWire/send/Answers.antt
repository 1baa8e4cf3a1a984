use Rattle.std.proofs.Common.{arith}
use Rattle.std.proofs.lemmas.Grind.{common_steps}
use Rattle.std.specs.Vec.{with_item}
use Rattle.dc_edge.specs.WireBook.{WireBook}
use Rattle.dc_edge.specs.contracts.memory_wire.MemoryWire.{the_view}
use Rattle.dc_edge.proofs.WireLemmas.{Sends-failed, Sends-part}
use Rattle.dc_edge.proofs.memory_wire.MemoryWireWire.send.Goals as goal

pub returns-then-fails-clause-sends : goal.returns-then-fails-clause-sends
returns-then-fails-clause-sends c =
    Sends-failed c.args.peer c.args.bytes.now c.args.self.now c.fails.new.self _ (grind (arith, common_steps)) (grind (arith, common_steps)) (grind (arith, common_steps))

pub returns-clause-sends : goal.returns-clause-sends
returns-clause-sends c =
    let now : WireBook = the_view (record c.self.inside { fed = with_item c.self.inside.fed c.args.peer c.take.new.self; numbered = c.count_fault.new.self }) in
    Sends-part c.args.peer c.args.bytes.now c.args.self.now now _ (grind (arith, common_steps)) (grind (arith, common_steps)) (grind (arith, common_steps)) (grind (arith, common_steps))
