use Rattle.std.proofs.Common.{◌^◌, ap, ◌∙◌, arith}
use Rattle.std.proofs.lemmas.List.{take_all}
use Rattle.dc_spec.specs.Values.{number_of}
use Rattle.dc_field.proofs.Digits.{number_of-below, number_of-fits, number_of-more}
use Rattle.dc_field.proofs.value.number_from.Goals as goal

pub overflow_mul-number : goal.overflow_mul-number
overflow_mul-number c =
    omega (arith, c.loop-byte.invariant, number_of-fits 1 c.args.bytes.now c.loop-byte.byte-index (omega arith) c.told-bytes (λ k. let fits = c.fits-bytes k in omega arith) (omega arith))

pub overflow_add-number : goal.overflow_add-number
overflow_add-number c =
    omega (arith, c.loop-byte.invariant, number_of-fits 1 c.args.bytes.now c.loop-byte.byte-index (omega arith) c.told-bytes (λ k. let fits = c.fits-bytes k in omega arith) (omega arith))

pub loop-byte-preserved : goal.loop-byte-preserved
loop-byte-preserved c =
    omega (arith, c.loop-byte.invariant, number_of-more c.args.bytes.now c.loop-byte.byte-index (omega arith))

pub returns-clause-number : goal.returns-clause-number
returns-clause-number c = c.loop-byte.invariant ∙ ap number_of (take_all _ c.args.bytes.now (omega arith))

pub returns-clause-value : goal.returns-clause-value
returns-clause-value c = record { fifteen = c.told-bytes; bytes = c.fits-bytes }

pub returns-clause-below : goal.returns-clause-below
returns-clause-below c =
    let is = c.loop-byte.invariant ∙ ap number_of (take_all _ c.args.bytes.now (omega arith)) in
    let below = number_of-below 1 c.args.bytes.now (λ k. let fits = c.fits-bytes k in omega arith) in
    let power = ap (λ n. 256 ^ n) c.told-bytes in
    omega (arith, is, below, power)
