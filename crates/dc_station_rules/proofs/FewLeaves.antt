-- After so many words of an epoch at most as many leaves have come out.
use Rattle.std.proofs.Common.{◌≡◌, ℕ, suc, ◌+◌, ◌≤◌, Bool, true, false, cond, nat_lt, ◌==◌, List, [], ◌∷◌, ◌++◌, length, Option, Some, None, Result, Ok, Err, option_map, refl, subst, arith, length-append}
use Rattle.std.specs.Option.{option_or, is_some}
use Rattle.std.proofs.lemmas.Option.{none-some}
use Rattle.dc_spec.specs.Groups.{Group, GroupFault, group_of}
use Rattle.dc_station_rules.specs.Epochs.{leaf_of, EpochFault, Tree, unsplit, equal_values, parts, split_by, with_left, with_right, put, current, come_out, Epoch, unbegun, resolving, void_epoch, root_or_fault, grown_tree, with_word, with_words, epoch_of, leaves}
use Rattle.dc_station_rules.specs.Laws.{LeavesAreFew}
use Rattle.dc_spec.proofs.GroupLemmas.{err-ok, ok-inj}
use Rattle.dc_station_rules.proofs.Putting.{Answer, was_equal, was_split, answer-of}
use Rattle.dc_spec.proofs.Options.{some-inj}

-- how many groups of a tree are not split
groups_in : Tree → ℕ
groups_in (unsplit group low high) = 1
groups_in (equal_values leaf) = 1
groups_in (parts left right) = groups_in left + groups_in right

-- each leaf is one of them
out-few : (t : Tree) → length (come_out t) ≤ groups_in t
unfolding come_out groups_in
out-few (unsplit group low high) = by_count (group.count == 1)
  where
    by_count : (b : Bool) → length (cond b (leaf_of group low high ∷ []) []) ≤ 1
    by_count true = omega arith
    by_count false = omega arith
out-few (equal_values leaf) = omega arith
out-few (parts left right) = by_open (is_some (current left)) (out-few left) (out-few right)
  where
    by_open : (b : Bool) → length (come_out left) ≤ groups_in left → length (come_out right) ≤ groups_in right
        → length (cond b (come_out left) (come_out left ++ come_out right)) ≤ groups_in left + groups_in right
    by_open true one other = omega arith
    by_open false one other = let both : length (come_out left ++ come_out right) ≡ length (come_out left) + length (come_out right) = length-append (come_out left) (come_out right) in omega arith

-- an answer makes at most two of one
answer-few : (group : Group) (low high : ℕ) (word : List ℕ) (next : Tree) → Answer group low high word next → groups_in next ≤ 2
unfolding groups_in
answer-few group low high word next (was_equal split same even e) = subst (λ t. groups_in t ≤ 2) e (omega arith)
answer-few group low high word next (was_split split fewer e) = subst (λ t. groups_in t ≤ 2) e (omega arith)

-- a word adds at most one
put-few : (word : List ℕ) (t next : Tree) → put word t ≡ Some (Ok next) → groups_in next ≤ groups_in t + 1
unfolding put groups_in
put-few word (unsplit group low high) next e = by_count (nat_lt group.count 2) e
  where
    by_count : (b : Bool) → cond b None (Some (split_by group low high word)) ≡ Some (Ok next) → groups_in next ≤ 2
    by_count true h = absurd (none-some _ h)
    by_count false h = answer-few group low high word next (answer-of group low high word next (some-inj h))
put-few word (equal_values leaf) next e = absurd (none-some _ e)
put-few word (parts left right) next e = by_parts (put word left) (put word right) refl refl e (put-few word left) (put-few word right)
  where
    by_parts : (a b : Option (Result Tree EpochFault)) → put word left ≡ a → put word right ≡ b → option_or (option_map (with_left right) a) (option_map (with_right left) b) ≡ Some (Ok next)
        → ((n : Tree) → put word left ≡ Some (Ok n) → groups_in n ≤ groups_in left + 1) → ((n : Tree) → put word right ≡ Some (Ok n) → groups_in n ≤ groups_in right + 1)
        → groups_in next ≤ groups_in left + groups_in right + 1
    by_parts (Some (Ok l)) b pl pr h one other = let few : groups_in l ≤ groups_in left + 1 = one l pl in subst (λ t. groups_in t ≤ groups_in left + groups_in right + 1)
        (ok-inj (some-inj h)) (omega arith)
    by_parts (Some (Err f)) b pl pr h one other = absurd (err-ok (some-inj h))
    by_parts None (Some (Ok r)) pl pr h one other = let few : groups_in r ≤ groups_in right + 1 = other r pr in subst (λ t. groups_in t ≤ groups_in left + groups_in right + 1)
        (ok-inj (some-inj h)) (omega arith)
    by_parts None (Some (Err f)) pl pr h one other = absurd (err-ok (some-inj h))
    by_parts None None pl pr h one other = absurd (none-some _ h)

-- an epoch of at most so many groups, or with at most so many leaves
Within : Epoch → ℕ → Type 0
Within unbegun count = Unit {0}
Within (resolving tree) count = groups_in tree ≤ count
Within (void_epoch out fault) count = length out ≤ count

-- one more word, one more group
root-within : (r : Result Group GroupFault) (count : ℕ) → Within (root_or_fault r) (count + 1)
unfolding Within groups_in
root-within (Ok group) count = omega arith
root-within (Err fault) count = omega arith

grown-within : (tree : Tree) (word : List ℕ) (count : ℕ) (o : Option (Result Tree EpochFault)) → put word tree ≡ o → groups_in tree ≤ count → Within (grown_tree tree o) (count + 1)
unfolding Within
grown-within tree word count None is few = omega arith
grown-within tree word count (Some (Ok next)) is few = let more : groups_in next ≤ groups_in tree + 1 = put-few word tree next is in omega arith
grown-within tree word count (Some (Err fault)) is few = let out : length (come_out tree) ≤ groups_in tree = out-few tree in omega arith

word-within : (e : Epoch) (word : List ℕ) (count : ℕ) → Within e count → Within (with_word e word) (count + 1)
unfolding Within
word-within unbegun word count few = root-within (group_of word) count
word-within (resolving tree) word count few = grown-within tree word count (put word tree) refl few
word-within (void_epoch out fault) word count few = omega arith

words-within : (e : Epoch) (words : List (List ℕ)) (count : ℕ) → Within e count → Within (with_words e words) (count + length words)
words-within e [] count few = let same : count ≡ count + 0 = omega arith in subst (Within e) same few
words-within e (word ∷ words) count few =
    let same : count + 1 + length words ≡ count + suc (length words) = omega arith in
    subst (Within (with_words (with_word e word) words)) same (words-within (with_word e word) words (count + 1) (word-within e word count few))

leaves-within : (e : Epoch) (count : ℕ) → Within e count → length (leaves e) ≤ count
unfolding Within
leaves-within unbegun count few = omega arith
leaves-within (resolving tree) count few = let out : length (come_out tree) ≤ groups_in tree = out-few tree in omega arith
leaves-within (void_epoch out fault) count few = few

-- after so many words at most as many leaves have come out
pub leaves_are_few : LeavesAreFew
unfolding epoch_of Within
leaves_are_few words = let place : 0 + length words ≡ length words = omega arith in leaves-within (epoch_of words) (length words) (subst (Within (epoch_of words)) place
    (words-within unbegun words 0 tt))
