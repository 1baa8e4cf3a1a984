-- What the lines of a script so far make.
use Rattle.std.specs.Prelude.{ℕ, List, []}
use Rattle.dc_spec.specs.Scripts.{Turn}

-- the turns so far, and how many terms they have, up to the limit
pub record Progress : Type 0 where
  pub turns : List Turn
  pub terms : ℕ

abbrev pub no_progress : Progress
no_progress = record { turns = []; terms = 0 }
