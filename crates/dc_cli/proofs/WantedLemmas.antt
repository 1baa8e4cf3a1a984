-- Wanted words that were read are words.
use Rattle.std.proofs.Common.{◌≡◌, ℕ, Bool, true, false, cond, leb, List, [], ◌∷◌, ◌++◌, length, Option, Some, None, Result, Ok, Err, refl, subst}
use Rattle.std.proofs.lemmas.List.Elements.{All-nil, All-push}
use Rattle.dc_spec.specs.Limits.{most_words}
use Rattle.dc_spec.specs.Words.{IsWord, AreWords}
use Rattle.dc_formats.specs.TextFile.{file_lines}
use Rattle.dc_field.specs.declared.list_fault.ListKind.{ListKind}
use Rattle.dc_field.specs.declared.list_fault.ListKind.TheVariants.{NotText, TooMany, Word}
use Rattle.dc_text.specs.ListFiles.{list_fault, list_with_line, with_item}
use Rattle.dc_text.proofs.LineByLine.{texts_of_lines, texts_keep}
use Rattle.dc_steer.specs.Wanted.{word_in, wanted_from_bytes}
use Rattle.dc_steer.specs.WantedTexts.{word_texts}

-- there was room for the word of a line
had_room : (b : Bool) (r : Result (List (List ℕ)) ListKind) (next : List (List ℕ)) → cond b (Err TooMany) r ≡ Ok next → r ≡ Ok next
had_room true r next e = absurd cc
had_room false r next e = e

-- and the line spelled one
had_word : (words next : List (List ℕ)) (o : Option (List ℕ)) → with_item Word words o ≡ Ok next → (w : List ℕ) × (o ≡ Some w) × (words ++ w ∷ [] ≡ next)
had_word words next None e = absurd cc
had_word words next (Some w) e = (w, refl, cc)

words_keep : (words next : List (List ℕ)) (text : List ℕ) → AreWords words → list_with_line word_in Word most_words words text ≡ Ok next → AreWords next
words_keep words next text are e =
    let more = had_word words next (word_in text) (had_room (leb most_words (length words)) (with_item Word words (word_in text)) next e) in
    subst AreWords more.2 (All-push IsWord words more.0 are (word_texts.found text more.0 more.1).0)

pub wanted_are_words : (bytes : List ℕ) (wanted : List (List ℕ)) → wanted_from_bytes bytes ≡ Ok wanted → AreWords wanted
unfolding wanted_from_bytes
wanted_are_words bytes wanted e =
    let read = texts_of_lines list_fault NotText (list_with_line word_in Word most_words) 1 [] wanted (file_lines bytes) e in
    texts_keep (list_with_line word_in Word most_words) AreWords words_keep [] wanted read.texts (All-nil IsWord) read.made
