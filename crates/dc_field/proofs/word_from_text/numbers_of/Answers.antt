use Rattle.std.proofs.Common.{rules}
use Rattle.dc_spec.proofs.WordLemmas.{word_from_symbols}
use Rattle.dc_field.proofs.word_from_text.numbers_of.Goals as goal

pub returns : goal.returns
returns c = word_from_symbols _ c.loop-l.numbers c.loop-l.invariant.0 (search rules)
