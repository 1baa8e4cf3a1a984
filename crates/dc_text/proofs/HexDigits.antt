-- Hexadecimal digits, read and written.
use Rattle.std.proofs.Common.{◌≡◌, ℕ, ◌<◌, Some, arith}
use Rattle.std.proofs.lemmas.Bool.Decides.{nat_tests}
use Rattle.dc_spec.specs.Text.{hex_digit}
use Rattle.dc_field.specs.WordInText.{digit_in}

-- the digit of a count is read as that count
pub digit_in-hex_digit : (d : ℕ) → d < 16 → digit_in (hex_digit d) ≡ Some d
digit_in-hex_digit d lt = grind (arith, nat_tests)

-- a digit that is read is the one of its count
pub hex_digit-digit_in : (c d : ℕ) → digit_in c ≡ Some d → (d < 16) × (c ≡ hex_digit d)
hex_digit-digit_in c d e = (grind (arith, nat_tests), grind (arith, nat_tests))
