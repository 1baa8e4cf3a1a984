-- What an epoch resolves to, as a relation: words that split a group until each part is one value.
use Rattle.std.specs.Prelude.{◌≡◌, ℕ, ◌+◌, ◌<◌, ◌≤◌, ◌⊎◌, min, max, List, [], ◌∷◌, ◌++◌, Some, None, Ok, Err}
use Rattle.dc_spec.specs.Words.{AreWords}
use Rattle.dc_spec.specs.Values.{last_number}
use Rattle.dc_spec.specs.Groups.{Group, GroupFault, group_of, minus, uneven_limb}
use Rattle.dc_station_rules.specs.Epochs.{Leaf, EpochFault, no_group, Tree, leaf_of, mean_of, split_by, Ranged, current, come_out, Epoch, unbegun, resolving, void_epoch, epoch_of, leaves}
use Rattle.dc_station_rules.specs.Grammar.{IsEpoch}

-- a word is this part of a whole group, and this is what is left of the whole
pub record Parts (whole : Group) (word : List ℕ) (part rest : Group) : Type 0 where
  pub is_part : group_of word ≡ Ok part
  pub is_rest : minus whole part ≡ Ok rest

-- these words resolve a group on a range of numbers into leaves: none where it is empty; one of its
-- value where its count is 1; one of its equal values where its word has the whole count; else
-- those of the left part, whose numbers are at most the mean, and then those of the rest
pub data Resolves : Group → ℕ → ℕ → List (List ℕ) → List Leaf → Type 0 where
  empty : {group : Group} {low high : ℕ} → group.count ≡ 0 → Resolves group low high [] []
  single : {group : Group} {low high : ℕ} → group.count ≡ 1
      → Resolves group low high [] (leaf_of group low high ∷ [])
  equal : {group part rest : Group} {low high : ℕ} {word : List ℕ} → 2 ≤ group.count
      → Parts group word part rest → part.count ≡ group.count → uneven_limb group ≡ None
      → Resolves group low high (word ∷ []) (leaf_of group low high ∷ [])
  halves : {group part rest : Group} {low high : ℕ} {word : List ℕ}
      {left right : List (List ℕ)} {leaves others : List Leaf}
      → 2 ≤ group.count → Parts group word part rest → part.count < group.count
      → Resolves part low (min high (mean_of group)) left leaves
      → Resolves rest (max low (mean_of group + 1)) high right others
      → Resolves group low high (word ∷ left ++ right) (leaves ++ others)

-- a whole epoch: a root that is a group, and words that resolve it on the range of all numbers
pub record IsWholeEpoch (words : List (List ℕ)) (leaves : List Leaf) : Type 0 where
  pub root : List ℕ
  pub group : Group
  pub rest : List (List ℕ)
  pub begins : words ≡ root ∷ rest
  pub is_group : group_of root ≡ Ok group
  pub resolves : Resolves group 0 last_number rest leaves

-- a word breaks a check after this epoch: a root that is no group, or later a word by which the
-- current group cannot be split
abbrev pub Breaks : Epoch → List ℕ → EpochFault → Type 0
Breaks unbegun word fault = (why : GroupFault) × (group_of word ≡ Err why) × (fault ≡ no_group why)
Breaks (resolving tree) word fault =
    (place : Ranged) × (current tree ≡ Some place)
    × (split_by place.group place.low place.high word ≡ Err fault)
Breaks (void_epoch out why) word fault = ⊥

-- the words of a whole epoch without one or more at their end, and then the first word that breaks
-- a check; the leaves are those up to that word
pub record BreaksOff (words : List (List ℕ)) (out : List Leaf) (fault : EpochFault) : Type 0 where
  pub before : List (List ℕ)
  pub word : List ℕ
  pub is : words ≡ before ++ word ∷ []
  pub next : List ℕ
  pub more : List (List ℕ)
  pub others : List Leaf
  pub is_part : IsWholeEpoch (before ++ next ∷ more) others
  pub breaks : Breaks (epoch_of before) word fault
  pub had_come_out : out ≡ leaves (epoch_of before)

-- a void epoch: a proper prefix of a whole epoch, whose further words can be words of sixteen
-- symbols, and then the first word that breaks a check
pub record IsVoidEpoch (words : List (List ℕ)) (out : List Leaf) (fault : EpochFault) : Type 0 where
  pub breaks_off : BreaksOff words out fault
  pub are_words : AreWords (breaks_off.next ∷ breaks_off.more)

-- words that are an epoch are a whole one or a void one and not both, and the computed epoch is
-- that one, with its leaves and fault; a void one is recognized also where the further words of the
-- whole epoch are not of sixteen symbols
pub record IsWholeOrVoid (words : List (List ℕ)) : Type 0 where
  pub one : IsEpoch words →
      ((out : List Leaf) × IsWholeEpoch words out)
      ⊎ ((out : List Leaf) × (fault : EpochFault) × IsVoidEpoch words out fault)
  pub whole : (out : List Leaf) → IsWholeEpoch words out →
      IsEpoch words × (tree : Tree) × (epoch_of words ≡ resolving tree) × (come_out tree ≡ out)
  pub void : (out : List Leaf) (fault : EpochFault) → BreaksOff words out fault →
      IsEpoch words × (epoch_of words ≡ void_epoch out fault)
  pub not_both : (out others : List Leaf) (fault : EpochFault) → IsWholeEpoch words out
      → BreaksOff words others fault → ⊥
