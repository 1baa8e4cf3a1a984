-- Groups that wait for their words.
use Rattle.std.specs.Prelude.{ℕ, ◌+◌, ◌≤◌, List, [], ◌∷◌}
use Rattle.dc_station_rules.specs.Epochs.{Ranged}

-- how many stations sent the values of a group
abbrev pub stations_of : Ranged → ℕ
stations_of item = item.group.count

-- how many stations sent the values of all groups of a list
abbrev pub stations_in : List Ranged → ℕ
stations_in [] = 0
stations_in (item ∷ items) = stations_of item + stations_in items

-- each group is of one station or more
abbrev pub AreOfSome : List Ranged → Type 0
AreOfSome [] = Unit {0}
AreOfSome (item ∷ items) = (1 ≤ stations_of item) × AreOfSome items

-- each group is of one station or more, and all of them of 256 at most
pub record IsStack (items : List Ranged) : Type 0 where
  pub some : AreOfSome items
  pub few : stations_in items ≤ 256
