use Rattle.std.proofs.Common.{rules, arith}
use Rattle.dc_reserve.proofs.FragmentLemmas.{fragment_is}
use Rattle.dc_reserve.proofs.fragments.fragment.Goals as goal

pub returns : goal.returns
returns c = fragment_is c.args.bytes.now c.loop-l.word c.args.i c.requires.below c.loop-l.invariant.0 (search rules) (λ r lt. c.loop-l.invariant.2 r (omega arith))
