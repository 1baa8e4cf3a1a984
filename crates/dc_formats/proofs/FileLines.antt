-- The lines of a file, and the files whose lines are all ended.
use Rattle.std.proofs.Common.{◌≡◌, ℕ, ◌≢◌, List, [], ◌∷◌, ◌++◌, map, All, refl, sym, ◌∙◌, ap, subst, inl, inr, arith}
use Rattle.std.proofs.lemmas.List.Elements.{All-head, All-tail}
use Rattle.std.proofs.lemmas.Bool.{ne_eqb}
use Rattle.std.proofs.lemmas.Bool.Decides.{eqb_tells}
use Rattle.dc_spec.specs.Text.{line}
use Rattle.dc_formats.specs.TextFile.{IsPrintable, IsTextLine, text_file, Line, ended, cut_off, begun_with, file_lines}

-- a byte that is no line feed belongs to the first line of the rest
pub no_end : (b : ℕ) (bytes : List ℕ) → b ≢ 10 → file_lines (b ∷ bytes) ≡ begun_with b (file_lines bytes)
no_end b bytes other = rw (ne_eqb b 10 other)

-- a line in front of other bytes
pub line_first : (t bytes : List ℕ) → IsTextLine t → file_lines (line t ++ bytes) ≡ ended t ∷ file_lines bytes
line_first [] bytes p = refl
line_first (c ∷ t) bytes p =
    let printable : IsPrintable c = All-head IsPrintable c t p in
    no_end c (line t ++ bytes) (λ same. omega arith) ∙ ap (begun_with c) (line_first t bytes (All-tail IsPrintable c t p))

-- the lines of a text file are its texts
pub lines_of_text_file : (texts : List (List ℕ)) → All IsTextLine texts → file_lines (text_file texts) ≡ map ended texts
lines_of_text_file [] p = refl
lines_of_text_file (t ∷ texts) p =
    line_first t (text_file texts) (All-head IsTextLine t texts p) ∙ ap (λ lines. ended t ∷ lines) (lines_of_text_file texts (All-tail IsTextLine t texts p))

-- what makes a line of bytes without their first one makes a line of them all
with_first : (b : ℕ) (bytes : List ℕ) (lines : List Line) (texts : List (List ℕ)) → ((others : List (List ℕ)) → lines ≡ map ended others → bytes ≡ text_file others) → begun_with b lines
    ≡ map ended texts → b ∷ bytes ≡ text_file texts
with_first b bytes [] [] rest e = absurd cc
with_first b bytes [] (t ∷ texts) rest e = absurd cc
with_first b bytes (ended u ∷ lines) [] rest e = absurd cc
with_first b bytes (ended u ∷ lines) (t ∷ texts) rest e =
    let after : bytes ≡ text_file (u ∷ texts) = rest (u ∷ texts) cc in
    let same : b ∷ u ≡ t = cc in
    subst (λ (whole : List ℕ). b ∷ bytes ≡ text_file (whole ∷ texts)) same (ap (λ (tail : List ℕ). b ∷ tail) after)
with_first b bytes (cut_off u ∷ lines) [] rest e = absurd cc
with_first b bytes (cut_off u ∷ lines) (t ∷ texts) rest e = absurd cc

-- a line feed ends a line, which is empty where nothing stands before it
empty_first : (bytes : List ℕ) (lines : List Line) (texts : List (List ℕ)) → ((others : List (List ℕ)) → lines ≡ map ended others → bytes ≡ text_file others) → ended [] ∷ lines ≡ map ended texts
    → 10 ∷ bytes ≡ text_file texts
empty_first bytes lines [] rest e = absurd cc
empty_first bytes lines (t ∷ texts) rest e =
    let after : bytes ≡ text_file texts = rest texts cc in
    let same : [] ≡ t = cc in
    subst (λ (whole : List ℕ). 10 ∷ bytes ≡ text_file (whole ∷ texts)) same (ap (λ (tail : List ℕ). 10 ∷ tail) after)

-- a file with ended lines alone is the text file of them
pub text_file_of_lines : (bytes : List ℕ) (texts : List (List ℕ)) → file_lines bytes ≡ map ended texts → bytes ≡ text_file texts
text_file_of_lines [] [] e = refl
text_file_of_lines [] (t ∷ texts) e = absurd cc
text_file_of_lines (b ∷ bytes) texts e = elim (eqb_tells b 10) [
  | inl ends ↦
      let feed : ended [] ∷ file_lines bytes ≡ map ended texts = rw ends.0 at e in
      rw ends.1 (empty_first bytes (file_lines bytes) texts (text_file_of_lines bytes) feed)
  | inr goes ↦ with_first b bytes (file_lines bytes) texts (text_file_of_lines bytes) (sym (no_end b bytes goes.1) ∙ e)
]
