-- Laws of the protocol of one station.
use Rattle.std.specs.Prelude.{◌≡◌, ℕ, ◌+◌, ◌*◌, ◌≤◌, List, [], ◌∷◌, ◌++◌, length, sum_by}
use Rattle.dc_spec.specs.Entries.{Entry, Stream, bytes_in}
use Rattle.dc_spec.specs.Values.{number_of, word_count}
use Rattle.dc_spec.specs.Groups.{total}
use Rattle.dc_station_rules.specs.Bursts.{IsMessageBurst}
use Rattle.dc_station_rules.specs.Epochs.{Leaf, Tree, unsplit, equal_values, parts, resolving, epoch_of, leaves, leaves_at}
use Rattle.dc_station_rules.specs.Cycles.{Cycle, cycle_words}
use Rattle.dc_station_rules.specs.Stations.{log_of, sent_of}
use Rattle.dc_station_rules.specs.Resolving.{IsWholeEpoch, IsWholeOrVoid}
use Rattle.dc_station_rules.specs.Grammar.{IsCyclesInOneWay, IsMessageOrVoid, IsWholeCycle, IsBegunCycle, IsProperPrefixOfWhole}

-- every list of words is whole cycles and then a proper prefix of one, in just one way
abbrev pub EveryHistoryIsCyclesInOneWay : Type 0
EveryHistoryIsCyclesInOneWay = (words : List (List ℕ)) → IsCyclesInOneWay words

-- the words of a begun cycle are a proper prefix of a whole one
abbrev pub EveryBegunCycleGoesOn : Type 0
EveryBegunCycleGoesOn =
    (cycle : Cycle) → IsBegunCycle cycle → IsProperPrefixOfWhole (cycle_words cycle)

-- the words of a whole cycle without some at their end, where one is left at least, are the words
-- of a begun one; also where those at the end are not of sixteen symbols
abbrev pub EveryProperPrefixIsBegun : Type 0
EveryProperPrefixIsBegun =
    (word : List ℕ) (words : List (List ℕ)) (whole : Cycle) (next : List ℕ) (more : List (List ℕ))
    → IsWholeCycle whole → cycle_words whole ≡ (word ∷ words) ++ next ∷ more
    → (cycle : Cycle) × IsBegunCycle cycle × (cycle_words cycle ≡ word ∷ words)

-- an ended burst of words of sixteen symbols is a message or void and not both
abbrev pub EveryBurstIsMessageOrVoid : Type 0
EveryBurstIsMessageOrVoid = (words : List (List ℕ)) → IsMessageOrVoid words

-- an ended epoch is whole or void and not both
abbrev pub EveryEpochIsWholeOrVoid : Type 0
EveryEpochIsWholeOrVoid = (words : List (List ℕ)) → IsWholeOrVoid words

-- how many stations sent the leaves of a list
abbrev pub times_of : List Leaf → ℕ
times_of out = sum_by (λ (leaf : Leaf). leaf.times) out

-- what their values add up to, each so many times
abbrev pub total_of : List Leaf → ℕ
total_of out = sum_by (λ (leaf : Leaf). leaf.times * number_of leaf.value) out

-- the leaves of a whole epoch, each so many times as it was sent, have the count and the total of
-- its root
abbrev pub LeavesAddUp : Type 0
LeavesAddUp =
    (words : List (List ℕ)) (out : List Leaf) (whole : IsWholeEpoch words out)
    → (times_of out ≡ whole.group.count) × (total_of out ≡ total whole.group)

-- each group of a tree that is not split is of one station at least
abbrev pub HasNoEmptyGroup : Tree → Type 0
HasNoEmptyGroup (unsplit group low high) = 1 ≤ group.count
HasNoEmptyGroup (equal_values leaf) = 1 ≤ leaf.times
HasNoEmptyGroup (parts left right) = HasNoEmptyGroup left × HasNoEmptyGroup right

-- an epoch whose root has a count of 1 or more never has an empty group
abbrev pub OnlyRootsAreEmpty : Type 0
OnlyRootsAreEmpty =
    (root : List ℕ) (words : List (List ℕ)) (tree : Tree)
    → 1 ≤ word_count root → epoch_of (root ∷ words) ≡ resolving tree → HasNoEmptyGroup tree

-- an epoch has at most as many leaves as words
abbrev pub LeavesAreFew : Type 0
LeavesAreFew = (words : List (List ℕ)) → length (leaves (epoch_of words)) ≤ length words

-- the message of a burst takes at most fifteen bytes for each of its words, the two length bytes
-- included
abbrev pub MessagesFit : Type 0
MessagesFit =
    (words : List (List ℕ)) (message : List ℕ) → IsMessageBurst words message
    → length message + 2 ≤ 15 * length words

-- one more word of an epoch adds leaves at the end and changes none of those before
abbrev pub LeavesGrow : Type 0
LeavesGrow =
    (words : List (List ℕ)) (word : List ℕ)
    → leaves (epoch_of (words ++ word ∷ [])) ≡ leaves (epoch_of words) ++ leaves_at words word

-- there is at most one entry for each of so many words, and there are at most fifteen bytes for
-- each
abbrev pub HaveRoom : List Entry → ℕ → Type 0
HaveRoom entries count = (length entries ≤ count) × (bytes_in entries ≤ 15 * count)

-- a station's log and its sent entries take at most one entry and fifteen bytes for each received
-- word
abbrev pub LogsFit : Type 0
LogsFit =
    (stream : Stream) (words : List (List ℕ))
    → HaveRoom (log_of words) (length words) × HaveRoom (sent_of stream words) (length words)
