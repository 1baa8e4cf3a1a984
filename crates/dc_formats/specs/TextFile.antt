-- Text files: lines of the characters from the blank to the tilde, each with a line feed at its
-- end. Payload is hexadecimal.
use Rattle.std.specs.Prelude.{ℕ, ◌/◌, ◌%◌, ◌<◌, ◌≤◌, ◌≡◌, ◌==◌, if◌then◌else◌, List, [], ◌∷◌, All}
use Rattle.std.specs.List.{flat_map}
use Rattle.dc_spec.specs.Text.{hex_digit, line}

-- a character that a line may hold
abbrev pub IsPrintable : ℕ → Type 0
IsPrintable c = (32 ≤ c) × (c ≤ 126)

-- a line without its end
abbrev pub IsTextLine : List ℕ → Type 0
IsTextLine text = All IsPrintable text

-- the file of these lines; no lines are the empty file
abbrev pub text_file : List (List ℕ) → List ℕ
text_file texts = flat_map line texts

-- the bytes are lines, and nothing follows the end of the last one
pub record IsTextFile (bytes : List ℕ) : Type 0 where
  pub texts : List (List ℕ)
  pub are_lines : All IsTextLine texts
  pub spelled : bytes ≡ text_file texts

-- a line of any file: with its line feed, or the last one without
pub data Line : Type 0 where
  ended : List ℕ → Line
  cut_off : List ℕ → Line

-- lines, with one more byte at the beginning of the first
abbrev pub begun_with : ℕ → List Line → List Line
begun_with b [] = cut_off (b ∷ []) ∷ []
begun_with b (ended text ∷ lines) = ended (b ∷ text) ∷ lines
begun_with b (cut_off text ∷ lines) = cut_off (b ∷ text) ∷ lines

-- the lines of any file
abbrev pub file_lines : List ℕ → List Line
file_lines [] = []
file_lines (b ∷ bytes) =
    if b == 10 then ended [] ∷ file_lines bytes else begun_with b (file_lines bytes)

-- each number is below 256
abbrev pub AreBytes : List ℕ → Type 0
AreBytes bytes = All (λ b. b < 256) bytes

-- the two digits of a byte
abbrev pub byte_text : ℕ → List ℕ
byte_text b = hex_digit (b / 16) ∷ hex_digit (b % 16) ∷ []

-- two lower-case hexadecimal digits for each byte, so thirty for a value
abbrev pub hex_text : List ℕ → List ℕ
hex_text bytes = flat_map byte_text bytes
