-- Text that is filled into a buffer from a place on.
use Rattle.std.specs.Prelude.{ℕ, ◌+◌, ◌≡◌, List, ◌++◌, length, take}

-- before its end the buffer has what it had before the place, then the text
pub record Fills (text : List ℕ) (at : ℕ) (old new : List ℕ) (end : ℕ) : Type 0 where
  pub place : end ≡ at + length text
  pub filled : take end new ≡ take at old ++ text
