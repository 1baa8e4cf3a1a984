use Rattle.std.proofs.Common.{ap, ◌∙◌}
use Rattle.dc_field.specs.WordInText.{word_of_text}
use Rattle.dc_field.proofs.WordText.{is_found, word_of_text-word_text}
use Rattle.dc_field.proofs.word_from_text.read_word_text.Goals as goal

pub returns-clause-found : goal.returns-clause-found
returns-clause-found c = is_found c.args.b.now c.read_text.result c.read_text.ensures

pub returns-clause-only : goal.returns-clause-only
returns-clause-only c = λ w is e. c.read_text.ensures ∙ ap word_of_text e ∙ word_of_text-word_text w is
