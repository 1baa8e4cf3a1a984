use Rattle.std.proofs.Common.{◌≡◌, ◌*◌, length, take}
use Rattle.std.specs.List.{flat_map}
use Rattle.dc_spec.specs.Text.{symbol_text}
use Rattle.dc_field.proofs.text_of_word.word_text.Given as goal

-- the text so far is that of the symbols so far
abbrev pub invariant-loop-l : goal.invariant-loop-l
invariant-loop-l l =
    (length l.text ≡ 80) × (take (5 * l.l) l.text ≡ flat_map symbol_text (take l.l l.x-items))
