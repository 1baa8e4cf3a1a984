-- Sums and products modulo 65537, and the powers of 3. The number 3 is a primitive root: its powers
-- with the exponents 0 to 65535 are the residues 1 to 65536 in some order.
use Rattle.std.specs.Prelude.{ℕ, ◌+◌, ◌*◌, ◌%◌, ◌^◌}

-- the sum of two residues
unfoldable pub plus : ℕ → ℕ → ℕ
plus x y = (x + y) % 65537

-- the product of two residues
unfoldable pub times : ℕ → ℕ → ℕ
times x y = x * y % 65537

-- the power of 3 with this exponent
unfoldable pub root : ℕ → ℕ
root x = 3 ^ x % 65537

-- the residue -1
abbrev pub minus_one : ℕ
minus_one = 65536
