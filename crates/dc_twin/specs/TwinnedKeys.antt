-- Shifts and keys.
use Rattle.std.specs.Prelude.{List}
use Rattle.dc_spec.specs.Pads.{Keys}
use Rattle.dc_twin_rules.specs.Twins.{Shift}

-- the words that were added to first pads, edge by edge, and the keys with these words added
pub record TwinnedKeys : Type 0 where
  pub shifts : List Shift
  pub keys : Keys
