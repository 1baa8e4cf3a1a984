use Rattle.std.proofs.Common.{arith}
use Rattle.dc_text.specs.Payload.{payload_in}
use Rattle.dc_text.proofs.PayloadDigits.{some_there, length-payload_in}
use Rattle.dc_text.proofs.payload.payload_bytes.Goals as goal

pub decode_payload-requires-clause-sized : goal.decode_payload-requires-clause-sized
decode_payload-requires-clause-sized c =
    let read = some_there (payload_in c.args.text.now) c.requires in
    let even = length-payload_in c.args.text.now read.0 read.1 in
    omega (arith, even, c.as_mut_slice.ensures.len, c.in_ok-bytes.ensures.len)
