use Rattle.std.proofs.Common.{◌≡◌, length, arith, ◌∙◌}
use Rattle.std.proofs.lemmas.List.{take_all}
use Rattle.dc_workers.proofs.Parts.{part_is, chunk_more}
use Rattle.dc_workers.proofs.mapping.joined.Goals as goal

pub loop-part-preserved : goal.loop-part-preserved
loop-part-preserved c = λ xs size are.
    c.in_ok-extend_from_slice-in-Ok.ensures.items ∙ chunk_more xs c.loop-part.words.items c.as_slice.result.now size c.loop-part.part-index (c.loop-part.invariant xs size are)
    (c.as_slice.ensures ∙ part_is xs size c.loop-part.part-index c.args.parts.now c.part-item.result _ are c.loop-part-test.true c.part-item.is c.in-Ok.is)

pub returns : goal.returns
returns c = λ xs size are long. c.from_vec.ensures ∙ c.loop-part.invariant xs size are ∙ take_all _ xs (let e = c.loop-part-test.false in let all : length c.args.parts.now ≡ c.loop-part.part-index = omega arith in rw (← all) long)
