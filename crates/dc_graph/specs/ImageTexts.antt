-- Each image has one text, its number in decimal.
use Rattle.std.proofs.Common.{◌≡◌, ℕ, ◌<◌, Bool, true, false, cond, ltb, List, Option, Some, None, refl, subst, arith}
use Rattle.std.specs.Fmt.{decimal}
use Rattle.std.proofs.lemmas.Bool.{ltb-true, lt-ltb}
use Rattle.dc_formats.proofs.Pieces.{decimal_figures}
use Rattle.dc_formats.proofs.SpelledLines.{figures_printable}
use Rattle.dc_field.specs.NumberInText.{number_in}
use Rattle.dc_field.proofs.NumberText.{number_in-decimal, written_so}
use Rattle.dc_text.specs.ListFiles.{HasTexts}
use Rattle.dc_graph.specs.Images.{image_in, where_station}

tested : (b : Bool) (n i : ℕ) → cond b (Some n) None ≡ Some i → (b ≡ true) × (n ≡ i)
tested true n i e = (refl, cc)
tested false n i e = absurd cc

station_there : (text : List ℕ) (o : Option ℕ) (i : ℕ) → number_in text ≡ o → where_station o ≡ Some i → (i < 256) × (text ≡ decimal i)
station_there text None i read e = absurd cc
station_there text (Some n) i read e =
    let here = tested (ltb n 256) n i e in
    let small : n < 256 = ltb-true _ _ here.0 in
    subst (λ (k : ℕ). (k < 256) × (text ≡ decimal k)) here.1 (small, (written_so text n read).1)

pub image_texts : HasTexts image_in (λ i. i < 256) decimal
image_texts = record {
  found = λ text i e. station_there text (number_in text) i refl e;
  is_line = λ i lt. figures_printable (decimal i) (decimal_figures i (omega arith));
  only = λ i lt. rw (number_in-decimal i (omega arith), lt-ltb i 256 lt) refl;
}
