use Rattle.std.proofs.Common.{get_or, arith}
use Rattle.dc_field.proofs.GroupLemmas.{limbs_put}
use Rattle.dc_field.proofs.value.put_limbs.Goals as goal

pub returns : goal.returns
returns c =
    limbs_put c.loop-l.word c.args.bytes.now (get_or c.args.word.now 0 0) c.args.count c.loop-l.invariant.sixteen c.told-bytes c.loop-l.invariant.first (λ k lt. c.loop-l.invariant.limbs k (omega arith))
