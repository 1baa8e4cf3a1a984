-- What stands in the tree of an epoch, from left to right.
use Rattle.std.specs.Prelude.{List, [], ◌∷◌, ◌++◌, nat_lt, ◌==◌, if◌then◌else◌}
use Rattle.dc_station_rules.specs.Epochs.{Leaf, Tree, unsplit, equal_values, parts, Ranged, leaf_of}

-- a group that is not split, or the leaf of one whose own word showed that all its values are equal
pub data Item : Type 0 where
  a_group : Ranged → Item
  a_leaf : Leaf → Item

-- the items of a tree in order
abbrev pub items_of : Tree → List Item
items_of (unsplit group low high) = a_group (record { group = group; low = low; high = high }) ∷ []
items_of (equal_values leaf) = a_leaf leaf ∷ []
items_of (parts left right) = items_of left ++ items_of right

-- the groups among items
abbrev pub groups_in : List Item → List Ranged
groups_in [] = []
groups_in (a_group place ∷ items) = place ∷ groups_in items
groups_in (a_leaf leaf ∷ items) = groups_in items

-- a group's leaf, where it is of one station
abbrev pub single_leaf : Ranged → List Leaf
single_leaf place = if place.group.count == 1 then leaf_of place.group place.low place.high ∷ [] else []

-- the groups from the first open one on, which is one of count 2 or more
abbrev pub from_open : List Item → List Ranged
from_open [] = []
from_open (a_group place ∷ items) = if nat_lt place.group.count 2 then from_open items else place ∷ groups_in items
from_open (a_leaf leaf ∷ items) = from_open items

-- the leaves before the first open group
abbrev pub leaves_in : List Item → List Leaf
leaves_in [] = []
leaves_in (a_group place ∷ items) = if nat_lt place.group.count 2 then single_leaf place ++ leaves_in items else []
leaves_in (a_leaf leaf ∷ items) = leaf ∷ leaves_in items
