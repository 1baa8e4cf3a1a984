-- Payload: bytes in hexadecimal digits.
use Rattle.std.specs.Prelude.{◌≡◌, ℕ, ◌+◌, ◌*◌, ◌<◌, List, ◌∷◌, [], Option, Some, None, slice_index}
use Rattle.dc_field.specs.WordInText.{count_of, digit_in}

-- the byte of two digits before other bytes
abbrev pub byte_before : Option ℕ → Option ℕ → Option (List ℕ) → Option (List ℕ)
byte_before (Some high) (Some low) (Some bytes) = Some ((16 * high + low) ∷ bytes)
byte_before _ _ _ = None

-- the bytes of an even number of lower-case hexadecimal digits
abbrev pub payload_in : List ℕ → Option (List ℕ)
payload_in [] = Some []
payload_in (digit ∷ []) = None
payload_in (high ∷ low ∷ rest) = byte_before (digit_in high) (digit_in low) (payload_in rest)

-- what each character counts, by its number
abbrev pub AreCounts : List ℕ → Type 0
AreCounts counts = (c : ℕ) → c < 256 → slice_index counts c ≡ count_of c
