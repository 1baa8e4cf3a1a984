use Rattle.std.proofs.Common.{arith}
use Rattle.std.proofs.lemmas.Grind.{common_steps}
use Rattle.dc_frame.proofs.Readers.{some_missing}
use Rattle.dc_live.proofs.receiving.receive_piece.Goals as goal

pub receive_into-requires-clause-some : goal.receive_into-requires-clause-some
receive_into-requires-clause-some g c =
    let some = some_missing c.args.reader.now.part c.requires.waits in
    let need = c.need-need.ensures.value in
    grind (arith, common_steps)
