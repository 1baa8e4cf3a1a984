-- Symbols: their differences and inverses modulo 65537.
use Rattle.std.specs.Prelude.{ℕ, zero, suc, ◌+◌, ◌-◌, ◌*◌, ◌%◌, List, slice_index}
use Rattle.dc_spec.specs.Words.{IsSymbol}

-- each number of a list is a symbol
abbrev pub AreSymbols : List ℕ → Type 0
AreSymbols xs = (k : ℕ) → IsSymbol (slice_index xs k)

-- the difference of two symbols
abbrev pub symbol_sub : ℕ → ℕ → ℕ
symbol_sub x y = (x + (65537 - y)) % 65537

-- the power of a symbol whose exponent is 2 ^ n - 1
unfoldable pub power_below : ℕ → ℕ → ℕ
power_below x zero = 1
power_below x (suc n) = let half = power_below x n in half * half % 65537 * x % 65537

-- the inverse of a symbol other than 0: its power 65535, since each such symbol has the power 65536
-- equal to 1
abbrev pub symbol_inverse : ℕ → ℕ
symbol_inverse x = power_below x 16
