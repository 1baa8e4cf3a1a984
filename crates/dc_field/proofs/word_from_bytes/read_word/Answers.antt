use Rattle.std.proofs.Common.{ap, ◌∙◌, rules}
use Rattle.dc_spec.proofs.WordLemmas.{word_from_symbols}
use Rattle.dc_field.specs.WordInBytes.{word_of_numbers}
use Rattle.dc_field.proofs.word_from_bytes.read_word.Goals as goal

pub returns : goal.returns
returns c = c.of_numbers.ensures ∙ ap word_of_numbers (word_from_symbols _ c.loop-l.symbols c.loop-l.invariant.0 (search rules))
