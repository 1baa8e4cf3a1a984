-- The next line of what is left of a file.
use Rattle.std.proofs.Common.{◌≡◌, ℕ, ◌+◌, List, ◌∷◌, length, drop, refl, sym, ◌∙◌, ap, subst, arith}
use Rattle.std.proofs.lemmas.List.{length-drop}
use Rattle.dc_formats.specs.TextFile.{ended, file_lines}
use Rattle.dc_text.specs.Lines.{LinesLeft, IsFirstLine, IsNextLine}
use Rattle.dc_text.proofs.LineByLine.{text_in-ended}

-- the first line of the bytes is the next line
pub next_line : (old : LinesLeft) (bytes text rest : List ℕ) (before : ℕ) → record { bytes = bytes; before = before } ≡ old → IsFirstLine bytes text → rest ≡ drop (length text + 1) bytes
    → IsNextLine old (record { bytes = rest; before = before + 1 }) text
next_line old bytes text rest before view first left =
    let shorter : length rest ≡ length (drop (length text + 1) bytes) = ap (λ (xs : List ℕ). length xs) left in
    subst (λ (lines : LinesLeft). IsNextLine lines (record { bytes = rest; before = before + 1 }) text) view (record {
      is_text = text_in-ended text first.is_text;
      is_first = first.is_first ∙ ap (λ (xs : List ℕ). ended text ∷ file_lines xs) (sym left);
      shorter = omega (arith, shorter, length-drop (length text + 1) bytes, first.fits);
      counted = refl;
    })
