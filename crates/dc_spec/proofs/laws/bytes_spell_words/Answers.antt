-- Each number is read from its own bytes.
use Rattle.dc_spec.proofs.SpelledWords.{word-again, short-alone}
use Rattle.dc_spec.proofs.laws.bytes_spell_words.Goals as goal

pub returns-clause-words : goal.returns-clause-words
returns-clause-words c = word-again

pub returns-clause-numbers : goal.returns-clause-numbers
returns-clause-numbers c = short-alone
