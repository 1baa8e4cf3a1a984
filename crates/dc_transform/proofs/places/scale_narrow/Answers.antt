use Rattle.std.proofs.Common.{arith}
use Rattle.dc_transform.proofs.HalfLemmas.{all_scaled, symbols-made, symbols-scaled}
use Rattle.dc_transform.proofs.places.scale_narrow.Goals as goal

pub returns-clause-value : goal.returns-clause-value
returns-clause-value c = all_scaled c.args.c c.loop-i.numbers c.args.numbers.now (omega arith) (λ k lt. c.loop-i.invariant.so_far k (omega arith))

pub returns-clause-symbols : goal.returns-clause-symbols
returns-clause-symbols c = symbols-made _ _ (returns-clause-value c) (symbols-scaled c.args.c c.args.numbers.now)
