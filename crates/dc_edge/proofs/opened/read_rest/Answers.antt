use Rattle.std.proofs.Common.{arith, ◌≡◌, ◌≤◌, ◌+◌, ◌-◌, ◌^◌, ◌<◌, ◌∙◌, min, length}
use Rattle.dc_edge.proofs.Rest.{rest_whole}
use Rattle.dc_edge.proofs.opened.read_rest.Goals as goal

pub returns-clause-rest : goal.returns-clause-rest
returns-clause-rest g c =
    let read = rw (c.in_ok-bytes.ensures.items, c.take-front.ensures.inner) at c.in_default.ensures.bytes in
    let count : c.take-front.result.limit ≡ min (c.args.limit + 1) (2 ^ 64 - 1) = c.take-front.ensures.limit ∙ c.saturating_add.ensures in
    let within : length c.read_to_end.new.buf.items ≤ c.args.limit = omega (arith, c.len.ensures, c.if-len-limit.false) in
    let small : length c.read_to_end.new.buf.items < 2 ^ 64 - 1 = omega (arith, c.len.ensures) in
    rw c.from_vec.ensures (rest_whole (g.S.Read.remaining c.args.reader) c.args.limit c.take-front.result.limit c.read_to_end.new.buf.items count read within small)
