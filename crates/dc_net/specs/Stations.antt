-- A flag for each station.
use Rattle.std.specs.Prelude.{ℕ, ◌≡◌, Bool, false, List, slice_index_or}
use Rattle.dc_spec.specs.Lists.{is_among}

-- for each station whether it is a member; past the flags no station is one
pub record AreFlags (members : List ℕ) (flags : List Bool) : Type 0 where
  pub each : (i : ℕ) → slice_index_or flags i false ≡ is_among members i
