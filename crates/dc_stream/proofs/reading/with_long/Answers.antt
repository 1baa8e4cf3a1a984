use Rattle.std.proofs.Common.{◌≡◌, None, arith}
use Rattle.std.proofs.lemmas.Grind.{common_steps}
use Rattle.dc_text.specs.Payload.{payload_in}
use Rattle.dc_stream.specs.ReadingByLists.{lists_with_long}
use Rattle.dc_stream.proofs.Lengths.{no_payload, payload_of_length}
use Rattle.dc_stream.proofs.reading.with_long.Goals as goal

pub returns-in-None : goal.returns-in-None
unfolding lists_with_long
returns-in-None c =
    let none : payload_in c.args.payload.now ≡ None = no_payload (payload_in c.args.payload.now) c.in-None.ensures.counted in
    grind (arith, common_steps)

pub returns-in-Some-2 : goal.returns-in-Some-2
unfolding lists_with_long
returns-in-Some-2 c =
    let read = payload_of_length (payload_in c.args.payload.now) c.in-Some-2.seen c.in-Some-2.ensures.counted in
    grind (arith, common_steps)
