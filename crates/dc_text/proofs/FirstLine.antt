-- The first line of a file by its first byte that no line may hold.
use Rattle.std.proofs.Common.{◌≡◌, ℕ, zero, suc, ◌+◌, ◌<◌, ◌≢◌, Bool, true, false, not, ◌&&◌, cond, List, [], ◌∷◌, ◌++◌, length, take, drop, get_or, Some, None, refl, sym, ◌∙◌, ap, arith, append_assoc}
use Rattle.std.specs.Prelude.{position}
use Rattle.std.specs.List.{list_all}
use Rattle.std.proofs.lemmas.Bool.{not-false, not-true}
use Rattle.std.proofs.lemmas.Bool.Decides.{nat_tests}
use Rattle.std.proofs.lemmas.List.{take-append-drop, drop_more, length-take-le, get_or-take}
use Rattle.std.proofs.lemmas.List.Elements.{All-from_get_or}
use Rattle.std.proofs.lemmas.List.Quantifiers.{position-Some}
use Rattle.dc_spec.specs.Text.{line}
use Rattle.dc_formats.specs.TextFile.{IsPrintable, IsTextLine, Line, ended, cut_off, begun_with, file_lines}
use Rattle.dc_formats.proofs.FileLines.{no_end, line_first}
use Rattle.dc_text.proofs.Positions.{fails_where_none}
use Rattle.dc_text.specs.Lines.{is_printable, text_in, IsFirstLine, BeginsWithoutText}

-- what the test of a character says
pub printable : (c : ℕ) → is_printable c ≡ true → IsPrintable c
printable c e = (grind (arith, nat_tests), grind (arith, nat_tests))

-- one more character in front of what is no text
longer : (a b : Bool) (t u : List ℕ) → cond b (Some t) None ≡ None → cond (a && b) (Some u) None ≡ None
longer true true t u e = absurd cc
longer true false t u e = refl
longer false b t u e = refl

-- a byte that is no line's end before a file whose first line is no text
begun_line : (c : ℕ) (bytes : List ℕ) (first : Line) (others : List Line) → c ≢ 10 → file_lines bytes ≡ first ∷ others → text_in first ≡ None → BeginsWithoutText (c ∷ bytes)
begun_line c bytes (ended t) others other e none = record {
  first = ended (c ∷ t);
  others = others;
  lines = no_end c bytes other ∙ ap (begun_with c) e;
  not_text = longer (is_printable c) (list_all is_printable t) t (c ∷ t) none;
}
begun_line c bytes (cut_off t) others other e none = record {
  first = cut_off (c ∷ t);
  others = others;
  lines = no_end c bytes other ∙ ap (begun_with c) e;
  not_text = refl;
}

begun : (c : ℕ) (bytes : List ℕ) → c ≢ 10 → BeginsWithoutText bytes → BeginsWithoutText (c ∷ bytes)
begun c bytes other r = begun_line c bytes r.first r.others other r.lines r.not_text

-- a byte that no line holds stands in front of other lines
bad_before : (c : ℕ) (bytes : List ℕ) (lines : List Line) → is_printable c ≡ false → c ≢ 10 → file_lines bytes ≡ lines → BeginsWithoutText (c ∷ bytes)
bad_before c bytes [] bad other e = record { first = cut_off (c ∷ []); others = []; lines = no_end c bytes other ∙ ap (begun_with c) e; not_text = refl }
bad_before c bytes (ended t ∷ lines) bad other e = record {
  first = ended (c ∷ t);
  others = lines;
  lines = no_end c bytes other ∙ ap (begun_with c) e;
  not_text = rw bad refl;
}
bad_before c bytes (cut_off t ∷ lines) bad other e = record { first = cut_off (c ∷ t); others = lines; lines = no_end c bytes other ∙ ap (begun_with c) e; not_text = refl }

-- a printable character is no line's end
goes_on : (c : ℕ) → is_printable c ≡ true → c ≢ 10
goes_on c p same = let is : IsPrintable c = printable c p in omega arith

-- after printable characters stands a byte that no line holds
pub no_text_at : (bytes : List ℕ) (end : ℕ) → end < length bytes → ((k : ℕ) → k < end → is_printable (get_or bytes k 0) ≡ true) → is_printable (get_or bytes end 0) ≡ false
    → get_or bytes end 0 ≢ 10 → BeginsWithoutText bytes
no_text_at [] end lt before bad other = absurd (omega arith)
no_text_at (c ∷ bytes) zero lt before bad other = bad_before c bytes (file_lines bytes) bad other refl
no_text_at (c ∷ bytes) (suc end) lt before bad other =
    begun c bytes (goes_on c (before 0 (omega arith))) (no_text_at bytes end (omega arith) (λ k less. before (suc k) (omega arith)) bad other)

-- printable characters alone
pub no_end_there : (bytes : List ℕ) → 0 < length bytes → ((k : ℕ) → k < length bytes → is_printable (get_or bytes k 0) ≡ true) → BeginsWithoutText bytes
no_end_there [] some each = absurd (omega arith)
no_end_there (c ∷ []) some each = record { first = cut_off (c ∷ []); others = []; lines = no_end c [] (goes_on c (each 0 (omega arith))); not_text = refl }
no_end_there (c ∷ d ∷ bytes) some each = begun c (d ∷ bytes) (goes_on c (each 0 (omega arith))) (no_end_there (d ∷ bytes) (omega arith) (λ k less. each (suc k) (omega arith)))

-- printable characters and a line's end are a line
pub line_at : (bytes : List ℕ) (end : ℕ) → position (λ c. not (is_printable c)) bytes ≡ Some end → get_or bytes end 0 ≡ 10 → IsFirstLine bytes (take end bytes)
line_at bytes end at ends =
    let found = position-Some (λ c. not (is_printable c)) bytes end 0 at in
    let long : length (take end bytes) ≡ end = length-take-le end bytes (omega (arith, found.0)) in
    let all : IsTextLine (take end bytes) = All-from_get_or IsPrintable (take end bytes) 0
    (λ k lt. printable _ (rw (get_or-take end bytes k 0 (omega arith)) (not-false _ (found.2 k (omega arith))))) in
    let rest : drop end bytes ≡ 10 ∷ drop (end + 1) bytes = drop_more bytes end 0 found.0 ∙ ap (λ (c : ℕ). c ∷ drop (end + 1) bytes) ends in
    let parts : bytes ≡ line (take end bytes) ++ drop (end + 1) bytes
    = sym (take-append-drop end bytes) ∙ ap (λ (xs : List ℕ). take end bytes ++ xs) rest ∙ sym (append_assoc (take end bytes) (10 ∷ []) (drop (end + 1) bytes)) in
    let lines : file_lines bytes ≡ ended (take end bytes) ∷ file_lines (drop (end + 1) bytes) = ap file_lines parts ∙ line_first (take end bytes) (drop (end + 1) bytes) all in
    record {
      is_text = all;
      fits = omega (arith, found.0);
      is_first = rw long lines;
    }

-- any other byte that no line holds
pub fault_at : (bytes : List ℕ) (end : ℕ) → position (λ c. not (is_printable c)) bytes ≡ Some end → get_or bytes end 0 ≢ 10 → BeginsWithoutText bytes
fault_at bytes end at other =
    let found = position-Some (λ c. not (is_printable c)) bytes end 0 at in
    no_text_at bytes end found.0 (λ k lt. not-false _ (found.2 k lt)) (not-true _ found.1) other

-- no such byte
pub nothing_there : (bytes : List ℕ) → 0 < length bytes → position (λ c. not (is_printable c)) bytes ≡ None → BeginsWithoutText bytes
nothing_there bytes some none = no_end_there bytes some (λ k lt. not-false _ (fails_where_none (λ c. not (is_printable c)) bytes k 0 none lt))
