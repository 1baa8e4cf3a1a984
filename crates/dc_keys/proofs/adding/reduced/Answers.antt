use Rattle.std.proofs.Common.{arith}
use Rattle.dc_spec.proofs.WordLemmas.{word_from_symbols}
use Rattle.dc_keys.proofs.adding.reduced.Goals as goal

pub returns : goal.returns
returns c = word_from_symbols _ c.loop-l.word c.loop-l.invariant.0 (λ k lt. c.loop-l.invariant.1 k (omega arith))
