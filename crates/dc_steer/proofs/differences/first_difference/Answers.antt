use Rattle.std.proofs.Common.{arith}
use Rattle.dc_steer.proofs.Lists.{first_is}
use Rattle.dc_steer.proofs.differences.first_difference.Goals as goal

pub returns-then-cu-k-clause-value : goal.returns-then-cu-k-clause-value
returns-then-cu-k-clause-value c =
    first_is c.args.cu.now c.args.cv.now c.loop-k.k c.requires (omega arith) c.loop-k.invariant (λ lt. c.if-cu-k.true)

pub returns-clause-value : goal.returns-clause-value
returns-clause-value c =
    first_is c.args.cu.now c.args.cv.now _ c.requires (omega arith) (λ i lt. c.loop-k.invariant i (omega arith)) (λ lt. absurd (omega arith))
