-- The value of each leaf of an epoch has fifteen bytes.
use Rattle.std.proofs.Common.{◌≡◌, ℕ, Bool, true, false, cond, nat_lt, ◌==◌, List, [], ◌∷◌, ◌++◌, length, Option, Some, None, Result, Ok, Err, option_map, refl, subst}
use Rattle.std.specs.Option.{option_or, is_some}
use Rattle.std.proofs.lemmas.Option.{none-some}
use Rattle.dc_spec.specs.Groups.{Group, GroupFault, group_of}
use Rattle.dc_station_rules.specs.Epochs.{Leaf, leaf_of, EpochFault, Tree, unsplit, equal_values, parts, split_by, with_left, with_right, put, current, come_out, Epoch, unbegun, resolving, void_epoch, root_or_fault, grown_tree, with_words, epoch_of, leaves}
use Rattle.dc_spec.proofs.GroupLemmas.{err-ok, ok-inj, length-fifteen}
use Rattle.dc_station_rules.proofs.Putting.{Answer, was_equal, was_split, answer-of}
use Rattle.dc_spec.proofs.Options.{some-inj}

-- leaves whose values have fifteen bytes
abbrev pub HaveFifteen : List Leaf → Type 0
HaveFifteen [] = Unit {0}
HaveFifteen (leaf ∷ out) = (length leaf.value ≡ 15) × HaveFifteen out

both-fifteen : (out more : List Leaf) → HaveFifteen out → HaveFifteen more → HaveFifteen (out ++ more)
both-fifteen [] more are others = others
both-fifteen (leaf ∷ out) more are others = (are.0, both-fifteen out more are.1 others)

-- a tree whose resolved groups have such leaves
HasValues : Tree → Type 0
HasValues (unsplit group low high) = Unit {0}
HasValues (equal_values leaf) = length leaf.value ≡ 15
HasValues (parts left right) = HasValues left × HasValues right

-- the leaves that came out of it
out-fifteen : (t : Tree) → HasValues t → HaveFifteen (come_out t)
unfolding come_out HasValues
out-fifteen (unsplit group low high) are = by_count (group.count == 1)
  where
    by_count : (b : Bool) → HaveFifteen (cond b (leaf_of group low high ∷ []) [])
    by_count true = (length-fifteen _, tt)
    by_count false = tt
out-fifteen (equal_values leaf) are = (are, tt)
out-fifteen (parts left right) are = by_open (is_some (current left)) (out-fifteen left are.0) (out-fifteen right are.1)
  where
    by_open : (b : Bool) → HaveFifteen (come_out left) → HaveFifteen (come_out right) → HaveFifteen (cond b (come_out left) (come_out left ++ come_out right))
    by_open true one other = one
    by_open false one other = both-fifteen (come_out left) (come_out right) one other

-- an answer to a group
answer-values : (group : Group) (low high : ℕ) (word : List ℕ) (next : Tree) → Answer group low high word next → HasValues next
unfolding HasValues
answer-values group low high word next (was_equal split same even e) = subst HasValues e (length-fifteen _)
answer-values group low high word next (was_split split fewer e) = subst HasValues e (tt, tt)

-- a word that is put into a tree
put-values : (word : List ℕ) (t next : Tree) → HasValues t → put word t ≡ Some (Ok next) → HasValues next
unfolding put HasValues
put-values word (unsplit group low high) next are e = by_count (nat_lt group.count 2) e
  where
    by_count : (b : Bool) → cond b None (Some (split_by group low high word)) ≡ Some (Ok next) → HasValues next
    by_count true h = absurd (none-some _ h)
    by_count false h = answer-values group low high word next (answer-of group low high word next (some-inj h))
put-values word (equal_values leaf) next are e = absurd (none-some _ e)
put-values word (parts left right) next are e = by_parts (put word left) (put word right) (λ n. put-values word left n are.0) (λ n. put-values word right n are.1) e
  where
    by_parts : (a b : Option (Result Tree EpochFault)) → ((n : Tree) → a ≡ Some (Ok n) → HasValues n) → ((n : Tree) → b ≡ Some (Ok n) → HasValues n) → option_or (option_map (with_left right) a)
        (option_map (with_right left) b) ≡ Some (Ok next) → HasValues next
    by_parts (Some (Ok l)) b one other h = subst HasValues (ok-inj (some-inj h)) (one l refl, are.1)
    by_parts (Some (Err f)) b one other h = absurd (err-ok (some-inj h))
    by_parts None (Some (Ok r)) one other h = subst HasValues (ok-inj (some-inj h)) (are.0, other r refl)
    by_parts None (Some (Err f)) one other h = absurd (err-ok (some-inj h))
    by_parts None None one other h = absurd (none-some _ h)

-- an epoch with such leaves
IsValued : Epoch → Type 0
IsValued unbegun = Unit {0}
IsValued (resolving tree) = HasValues tree
IsValued (void_epoch out fault) = HaveFifteen out

root-valued : (r : Result Group GroupFault) → IsValued (root_or_fault r)
unfolding IsValued HasValues
root-valued (Ok group) = tt
root-valued (Err fault) = tt

grown-valued : (tree : Tree) (word : List ℕ) (o : Option (Result Tree EpochFault)) → put word tree ≡ o → HasValues tree → IsValued (grown_tree tree o)
unfolding IsValued
grown-valued tree word None is are = are
grown-valued tree word (Some (Ok next)) is are = put-values word tree next are is
grown-valued tree word (Some (Err fault)) is are = out-fifteen tree are

words-valued : (e : Epoch) (words : List (List ℕ)) → IsValued e → IsValued (with_words e words)
unfolding IsValued
words-valued e [] is = is
words-valued unbegun (word ∷ words) is = words-valued (root_or_fault (group_of word)) words (root-valued (group_of word))
words-valued (resolving tree) (word ∷ words) is = words-valued (grown_tree tree (put word tree)) words (grown-valued tree word (put word tree) refl is)
words-valued (void_epoch out fault) (word ∷ words) is = words-valued (void_epoch out fault) words is

valued-fifteen : (e : Epoch) → IsValued e → HaveFifteen (leaves e)
unfolding IsValued
valued-fifteen unbegun is = tt
valued-fifteen (resolving tree) is = out-fifteen tree is
valued-fifteen (void_epoch out fault) is = is

-- the leaves after any words
pub leaves-fifteen : (words : List (List ℕ)) → HaveFifteen (leaves (epoch_of words))
unfolding epoch_of IsValued
leaves-fifteen words = valued-fifteen (with_words unbegun words) (words-valued unbegun words tt)
