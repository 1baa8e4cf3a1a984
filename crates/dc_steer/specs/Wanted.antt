-- Reading wanted words, one a line.
use Rattle.std.specs.Prelude.{ℕ, List, Option, Some, None, Result, Ok, Err}
use Rattle.dc_spec.specs.Limits.{most_words}
use Rattle.dc_field.specs.WordInText.{word_of_text}
use Rattle.dc_field.specs.declared.word_from_text.WordFault.{WordFault}
use Rattle.dc_field.specs.declared.list_fault.ListFault.{ListFault}
use Rattle.dc_field.specs.declared.list_fault.ListKind.TheVariants.{Word}
use Rattle.dc_text.specs.ListFiles.{list_from_bytes}

-- a word that was read, without the cause where none was
abbrev pub where_word : Result (List ℕ) WordFault → Option (List ℕ)
where_word (Ok w) = Some w
where_word (Err fault) = None

-- the word that eighty digits spell
abbrev pub word_in : List ℕ → Option (List ℕ)
word_in text = where_word (word_of_text text)

-- the wanted words that bytes spell, or their first fault
unfoldable pub wanted_from_bytes : List ℕ → Result (List (List ℕ)) ListFault
wanted_from_bytes bytes = list_from_bytes word_in Word most_words bytes
