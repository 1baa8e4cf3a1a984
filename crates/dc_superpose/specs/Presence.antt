-- Flags of stations, and the least station whose flag is not set.
use Rattle.std.specs.Prelude.{ℕ, ◌<◌, ◌≤◌, ◌≡◌, Bool, true, false, List, length, get_or, not, Option}
use Rattle.std.specs.List.{position_from}

-- the first flag that is not set
abbrev pub first_clear : List Bool → Option ℕ
first_clear flags = position_from not 0 flags

-- the room is the number of flags, and all flags before this one are set, but not this one
pub record IsPresence (flags : List Bool) (first capacity : ℕ) : Type 0 where
  pub room : capacity ≡ length flags
  pub most : length flags ≤ 65535
  pub within : first ≤ length flags
  pub before : (k : ℕ) → k < first → get_or flags k false ≡ true
  pub here : first < length flags → get_or flags first false ≡ false
