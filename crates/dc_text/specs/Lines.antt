-- The lines of a text file, read one after another.
use Rattle.std.specs.Prelude.{ℕ, ◌≡◌, ◌+◌, ◌-◌, ◌^◌, ◌<◌, ◌≤◌, min, Bool, ◌&&◌, nat_le, List, ◌∷◌, [], length, drop, Option, Some, None, Result, Ok, Err, if◌then◌else◌}
use Rattle.std.specs.List.{list_all}
use Rattle.dc_formats.specs.TextFile.{IsTextLine, Line, ended, cut_off, file_lines}

-- whether a character is one that a line may hold
abbrev pub is_printable : ℕ → Bool
is_printable c = nat_le 32 c && nat_le c 126

-- the characters of a line that has only printable ones and its end
abbrev pub text_in : Line → Option (List ℕ)
text_in (ended text) = if list_all is_printable text then Some text else None
text_in (cut_off text) = None

-- the number of a line as a fault reports it: the greatest u32 where it is above that
abbrev pub reported_line : ℕ → ℕ
reported_line number = min number (2 ^ 32 - 1)

-- a content with one more line, which has to be text
abbrev pub with_line : {C K : Type 0} → K → (C → List ℕ → Result C K) → C → Option (List ℕ) → Result C K
with_line not_text with_text content None = Err not_text
with_line not_text with_text content (Some text) = with_text content text

-- what comes after a content, or the fault in its place
abbrev pub and_then : {C D F K : Type 0} → (K → F) → (C → Result D F) → Result C K → Result D F
and_then fault rest (Ok content) = rest content
and_then fault rest (Err kind) = Err (fault kind)

-- what lines make of a content one after another, the first of them having this number, or the first fault with the number of its line
abbrev pub with_lines : {C F K : Type 0} → (ℕ → K → F) → K → (C → List ℕ → Result C K) → ℕ → C → List Line → Result C F
with_lines fault not_text with_text number content [] = Ok content
with_lines fault not_text with_text number content (line ∷ lines) =
    and_then (fault (reported_line number)) (λ next. with_lines fault not_text with_text (number + 1) next lines)
    (with_line not_text with_text content (text_in line))

-- this text is the first line of a file
pub record IsFirstLine (bytes text : List ℕ) : Type 0 where
  pub is_text : IsTextLine text
  pub fits : length text + 1 ≤ length bytes
  pub is_first : file_lines bytes ≡ ended text ∷ file_lines (drop (length text + 1) bytes)

-- the first line of a file is not text
pub record BeginsWithoutText (bytes : List ℕ) : Type 0 where
  pub first : Line
  pub others : List Line
  pub lines : file_lines bytes ≡ first ∷ others
  pub not_text : text_in first ≡ None

-- the bytes after some lines of a file, and how many lines those are
pub record LinesLeft : Type 0 where
  pub bytes : List ℕ
  pub before : ℕ

-- this text is the next line, and the other lines are left
pub record IsNextLine (old new : LinesLeft) (text : List ℕ) : Type 0 where
  pub is_text : text_in (ended text) ≡ Some text
  pub is_first : file_lines old.bytes ≡ ended text ∷ file_lines new.bytes
  pub shorter : length new.bytes < length old.bytes
  pub counted : new.before ≡ old.before + 1
