use Rattle.std.proofs.Common.{arith}
use Rattle.dc_frame.proofs.Readers.{within}
use Rattle.dc_frame.proofs.first.missing.Goals as goal

pub overflow_sub-result : goal.overflow_sub-result
overflow_sub-result c =
    let most = within c.args.b.now c.requires (omega arith) in
    let got = c.unwrap_or.ensures in
    let wide = c.from.ensures in
    rw (c.from.ensures, c.unwrap_or.ensures, c.body_length.ensures) most
