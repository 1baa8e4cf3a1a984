use Rattle.std.proofs.Common.{◌≡◌, None, arith}
use Rattle.std.proofs.lemmas.Grind.{common_steps}
use Rattle.dc_text.specs.Payload.{payload_in}
use Rattle.dc_stream.specs.ReadingByLists.{lists_with_short}
use Rattle.dc_stream.proofs.Lengths.{no_payload, payload_of_length}
use Rattle.dc_stream.proofs.reading.with_short.Goals as goal

pub returns-in-None : goal.returns-in-None
unfolding lists_with_short
returns-in-None c =
    let none : payload_in c.args.text.now ≡ None = no_payload (payload_in c.args.text.now) c.in-None.ensures.counted in
    grind (arith, common_steps)

pub returns-in-Some : goal.returns-in-Some
unfolding lists_with_short
returns-in-Some c =
    let read = payload_of_length (payload_in c.args.text.now) c.in-Some.seen c.in-Some.ensures.counted in
    grind (arith, common_steps)
