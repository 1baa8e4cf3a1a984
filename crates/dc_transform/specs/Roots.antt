-- The table of the powers of 3 that the transforms take.
use Rattle.std.specs.Prelude.{ℕ, ◌<◌, ◌≡◌, List, length, slice_index}
use Rattle.dc_transform_rules.specs.Residues.{root}

-- the first numbers of the list are the powers of 3, from exponent 0 on
abbrev pub ArePowers : List ℕ → ℕ → Type 0
ArePowers xs count = (x : ℕ) → x < count → slice_index xs x ≡ root x

-- the powers with the exponents below 32768; the others are their negatives
pub record AreRoots (xs : List ℕ) : Type 0 where
  pub many : length xs ≡ 32768
  pub powers : ArePowers xs 32768
