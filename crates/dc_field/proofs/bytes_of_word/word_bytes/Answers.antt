use Rattle.std.proofs.Common.{arith}
use Rattle.dc_field.proofs.WordBytes.{word_of_bytes-word_bytes, all_written}
use Rattle.dc_field.proofs.bytes_of_word.word_bytes.Goals as goal

pub returns-clause-read : goal.returns-clause-read
returns-clause-read c =
    let items = c.numbers-x-items in
    rw (all_written c.loop-l.bytes items.result.now c.args.w.now c.loop-l.l c.loop-l.invariant.0 c.loop-l.invariant.1 (omega arith) items.ensures.value items.ensures.word)
    (word_of_bytes-word_bytes c.args.w.now items.ensures.word)
