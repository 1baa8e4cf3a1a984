use Rattle.std.proofs.Common.{ℕ, ◌+◌, ◌*◌, ◌<◌, ◌≢◌, length, arith, get_or-set_other, get_or-set_same, below_more}
use Rattle.std.proofs.Math.ListN.{length-set}
use Rattle.dc_text.proofs.ByTable.{digit_at, all_there}
use Rattle.dc_text.proofs.payload.decode_by.Goals as goal

pub byte_of-requires-clause-high : goal.byte_of-requires-clause-high
byte_of-requires-clause-high c =
    let n = c.loop-i.invariant.0 in
    digit_at c.args.text.now (2 * c.loop-i.i) c.requires.payload (let m = c.requires.sized in omega arith)

pub byte_of-requires-clause-low : goal.byte_of-requires-clause-low
byte_of-requires-clause-low c =
    let n = c.loop-i.invariant.0 in
    digit_at c.args.text.now (2 * c.loop-i.i + 1) c.requires.payload (let m = c.requires.sized in omega arith)

pub loop-i-preserved : goal.loop-i-preserved
loop-i-preserved c =
    let n = c.loop-i.invariant.0 in
    let within : c.loop-i.i < length c.loop-i.out = omega arith in (
      omega (arith, length-set {A = ℕ}),
      below_more _ _ (λ k lt. let other : k ≢ c.loop-i.i = omega arith in rw get_or-set_other (c.loop-i.invariant.1 k lt)) (rw get_or-set_same c.byte_of.ensures),
    )

pub returns : goal.returns
returns c =
    let n = c.loop-i.invariant.0 in
    let m = c.requires.sized in
    all_there c.args.text.now c.loop-i.out c.requires.payload (omega arith) (λ k lt. c.loop-i.invariant.1 k (omega arith))
