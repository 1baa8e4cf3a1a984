-- Epochs: a group of values is split at its mean, word by word, until each part is one value. A
-- tree has the groups that were split and those that are not.
use Rattle.std.specs.Prelude.{ℕ, ◌+◌, ◌/◌, min, max, Bool, true, false, List, [], ◌∷◌, ◌++◌, Option, Some, None, Result, Ok, Err, option_map, length, drop, nat_lt, nat_le, ◌==◌, ◌&&◌, if◌then◌else◌, is_some, is_none}
use Rattle.std.specs.Option.{option_or}
use Rattle.dc_spec.specs.Values.{number_of, last_number}
use Rattle.dc_spec.specs.Groups.{Group, GroupFault, SplitFault, group_of, minus, total, limb, uneven_limb, divided}

-- a value that was received, how many stations sent it, and the range of numbers of its group
pub record Leaf : Type 0 where
  pub value : List ℕ
  pub times : ℕ
  pub low : ℕ
  pub high : ℕ

-- why a word breaks an epoch: it is no group; it is no part of the group that it is for; or all
-- stations of that group sent again, but the count does not divide this limb (1 to 15), which is so
-- great
pub data EpochFault : Type 0 where
  no_group : GroupFault → EpochFault
  no_part : SplitFault → EpochFault
  uneven : ℕ → ℕ → EpochFault

-- the groups of an epoch: one that is not split, with its range of numbers; one whose own word
-- showed that its values are equal; or one in two parts, the left before the right
pub data Tree : Type 0 where
  unsplit : Group → ℕ → ℕ → Tree
  equal_values : Leaf → Tree
  parts : Tree → Tree → Tree

-- the leaf of a group whose values are all equal
abbrev pub leaf_of : Group → ℕ → ℕ → Leaf
leaf_of group low high =
    record { value = divided group; times = group.count; low = low; high = high }

-- a group's total divided by its count
abbrev pub mean_of : Group → ℕ
mean_of group = total group / group.count

-- a group whose stations all sent again: its values are equal, or the limb at this place is uneven
abbrev pub equal_or_fault : Group → ℕ → ℕ → Option ℕ → Result Tree EpochFault
equal_or_fault group low high None = Ok (equal_values (leaf_of group low high))
equal_or_fault group low high (Some i) = Err (uneven (i + 1) (limb group i))

-- a group in two parts: the left one has the numbers up to the mean, the right one those above it,
-- both within the group's range
abbrev pub two_parts : ℕ → ℕ → ℕ → Group → Group → Tree
two_parts mean low high left right =
    parts (unsplit left low (min high mean)) (unsplit right (max low (mean + 1)) high)

-- a group of which this part sent again: all of it, or a part that leaves this rest
abbrev pub split_or_fault : Group → ℕ → ℕ → Group → Result Group SplitFault → Result Tree EpochFault
split_or_fault whole low high part (Err fault) = Err (no_part fault)
split_or_fault whole low high part (Ok rest) =
    if part.count == whole.count then equal_or_fault whole low high (uneven_limb whole)
    else Ok (two_parts (mean_of whole) low high part rest)

-- a group on its range and its word, which is this group or none
abbrev pub split_by_group : Group → ℕ → ℕ → Result Group GroupFault → Result Tree EpochFault
split_by_group whole low high (Err fault) = Err (no_group fault)
split_by_group whole low high (Ok part) = split_or_fault whole low high part (minus whole part)

-- the rule of a split: what a group on its range becomes by its word, a part of a tree or a fault
unfoldable pub split_by : Group → ℕ → ℕ → List ℕ → Result Tree EpochFault
split_by whole low high word = split_by_group whole low high (group_of word)

-- a tree after a word was put into its left part
abbrev pub with_left : Tree → Result Tree EpochFault → Result Tree EpochFault
with_left right (Err fault) = Err fault
with_left right (Ok left) = Ok (parts left right)

-- a tree after a word was put into its right part
abbrev pub with_right : Tree → Result Tree EpochFault → Result Tree EpochFault
with_right left (Err fault) = Err fault
with_right left (Ok right) = Ok (parts left right)

-- a tree after a word was put at its first open group, one of count 2 or more that is not split;
-- none where no group is open
unfoldable pub put : List ℕ → Tree → Option (Result Tree EpochFault)
put word (unsplit group low high) =
    if nat_lt group.count 2 then None else Some (split_by group low high word)
put word (equal_values leaf) = None
put word (parts left right) =
    option_or (option_map (with_left right) (put word left))
    (option_map (with_right left) (put word right))

-- a group on its range of numbers
pub record Ranged : Type 0 where
  pub group : Group
  pub low : ℕ
  pub high : ℕ

-- the first group that is open, which the next word is for
unfoldable pub current : Tree → Option Ranged
current (unsplit group low high) =
    if nat_lt group.count 2 then None else Some (record { group = group; low = low; high = high })
current (equal_values leaf) = None
current (parts left right) = option_or (current left) (current right)

-- the leaves before the first open group
unfoldable pub come_out : Tree → List Leaf
come_out (unsplit group low high) = if group.count == 1 then leaf_of group low high ∷ [] else []
come_out (equal_values leaf) = leaf ∷ []
come_out (parts left right) =
    if is_some (current left) then come_out left else come_out left ++ come_out right

-- what words are as an epoch: no word yet; a tree; or void, with the leaves up to then and the
-- first fault
pub data Epoch : Type 0 where
  unbegun : Epoch
  resolving : Tree → Epoch
  void_epoch : List Leaf → EpochFault → Epoch

-- an epoch after its first word, which is for all values
abbrev pub root_or_fault : Result Group GroupFault → Epoch
root_or_fault (Ok group) = resolving (unsplit group 0 last_number)
root_or_fault (Err fault) = void_epoch [] (no_group fault)

-- a tree after a word was put into it
abbrev pub grown_tree : Tree → Option (Result Tree EpochFault) → Epoch
grown_tree tree None = resolving tree
grown_tree tree (Some (Ok grown)) = resolving grown
grown_tree tree (Some (Err fault)) = void_epoch (come_out tree) fault

-- an epoch after one more word
abbrev pub with_word : Epoch → List ℕ → Epoch
with_word unbegun word = root_or_fault (group_of word)
with_word (resolving tree) word = grown_tree tree (put word tree)
with_word (void_epoch leaves fault) word = void_epoch leaves fault

-- an epoch after more words
abbrev pub with_words : Epoch → List (List ℕ) → Epoch
with_words epoch [] = epoch
with_words epoch (word ∷ words) = with_words (with_word epoch word) words

-- the epoch of words
unfoldable pub epoch_of : List (List ℕ) → Epoch
epoch_of words = with_words unbegun words

-- the leaves of an epoch so far
abbrev pub leaves : Epoch → List Leaf
leaves unbegun = []
leaves (resolving tree) = come_out tree
leaves (void_epoch out fault) = out

-- the leaves that a word adds to those of the words before it
abbrev pub leaves_at : List (List ℕ) → List ℕ → List Leaf
leaves_at words word =
    drop (length (leaves (epoch_of words))) (leaves (epoch_of (words ++ word ∷ [])))

-- what the next word is for: the root, that is all values; the values of the current group that are
-- at most this mean; or nothing, since the epoch is whole or void
pub data Request : Type 0 where
  for_root : Request
  for_at_most : ℕ → Request
  for_nothing : Request

-- what the next word is for where this is the current group
abbrev pub request_for : Option Ranged → Request
request_for None = for_nothing
request_for (Some place) = for_at_most (mean_of place.group)

-- what the next word of an epoch is for
abbrev pub request_after : Epoch → Request
request_after unbegun = for_root
request_after (resolving tree) = request_for (current tree)
request_after (void_epoch out fault) = for_nothing

-- whether a number lies in the range of the current group and is at most its mean
abbrev pub is_called : ℕ → Option Ranged → Bool
is_called number None = false
is_called number (Some place) =
    nat_le place.low number && nat_le number place.high && nat_le number (mean_of place.group)

-- whether a station with this value sends it in the next word
abbrev pub calls : List ℕ → Epoch → Bool
calls value unbegun = true
calls value (resolving tree) = is_called (number_of value) (current tree)
calls value (void_epoch out fault) = false

-- whether an epoch takes no further word
abbrev pub is_over : Epoch → Bool
is_over unbegun = false
is_over (resolving tree) = is_none (current tree)
is_over (void_epoch out fault) = true
