-- Each word has one text, its eighty digits.
use Rattle.std.proofs.Common.{◌≡◌, ℕ, List, Some, Result, Ok, Err, ap}
use Rattle.dc_spec.specs.Words.{IsWord}
use Rattle.dc_spec.specs.Text.{word_text}
use Rattle.dc_formats.proofs.Pieces.{word_text_figures}
use Rattle.dc_formats.proofs.SpelledLines.{figures_printable}
use Rattle.dc_field.specs.WordInText.{word_of_text}
use Rattle.dc_field.specs.declared.word_from_text.WordFault.{WordFault}
use Rattle.dc_field.proofs.WordText.{word_text-word_of_text, word_of_text-word_text, IsWord-word_of_text}
use Rattle.dc_text.specs.ListFiles.{HasTexts}
use Rattle.dc_steer.specs.Wanted.{where_word, word_in}

word_there : (r : Result (List ℕ) WordFault) (w : List ℕ) → where_word r ≡ Some w → r ≡ Ok w
word_there (Ok v) w e = cc
word_there (Err fault) w e = absurd cc

pub word_texts : HasTexts word_in IsWord word_text
word_texts = record {
  found = λ text w e. let read = word_there (word_of_text text) w e in (IsWord-word_of_text text w read, word_text-word_of_text text w read);
  is_line = λ w is. figures_printable (word_text w) (word_text_figures w);
  only = λ w is. ap where_word (word_of_text-word_text w is);
}
