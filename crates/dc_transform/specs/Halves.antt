-- What the steps of the transform and of the way back leave of two halves.
use Rattle.std.specs.Prelude.{ℕ, List}
use Rattle.dc_transform_rules.specs.Residues.{times, minus_one}
use Rattle.dc_transform_rules.specs.Polynomials.{sums, scaled}

-- the first half and c times the second
abbrev pub plus_half : ℕ → List ℕ → List ℕ → List ℕ
plus_half c l r = sums l (scaled c r)

-- the first half minus c times the second
abbrev pub minus_half : ℕ → List ℕ → List ℕ → List ℕ
minus_half c l r = sums l (scaled (times minus_one c) r)

-- c times the difference of both halves
abbrev pub difference_half : ℕ → List ℕ → List ℕ → List ℕ
difference_half c l r = scaled c (sums l (scaled minus_one r))
