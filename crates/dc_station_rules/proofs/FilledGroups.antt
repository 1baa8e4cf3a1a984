-- After a root of count 1 or more no group of a tree is empty.
use Rattle.std.proofs.Common.{◌≡◌, ℕ, ◌≤◌, Bool, true, false, cond, nat_lt, List, [], ◌∷◌, Option, Some, None, Result, Ok, Err, option_map, refl, subst, arith}
use Rattle.std.specs.Option.{option_or}
use Rattle.std.proofs.lemmas.Option.{none-some}
use Rattle.dc_spec.specs.Values.{word_count}
use Rattle.dc_spec.specs.Groups.{Group, GroupFault, group_of}
use Rattle.dc_station_rules.specs.Epochs.{EpochFault, Tree, unsplit, equal_values, parts, split_by, with_left, with_right, put, Epoch, unbegun, resolving, void_epoch, root_or_fault, grown_tree, with_word, with_words, epoch_of}
use Rattle.dc_station_rules.specs.Laws.{HasNoEmptyGroup, OnlyRootsAreEmpty}
use Rattle.dc_spec.proofs.GroupLemmas.{err-ok, ok-inj, group_of-ok, minus-ok}
use Rattle.dc_station_rules.proofs.Putting.{Answer, was_equal, was_split, answer-of}
use Rattle.dc_spec.proofs.Options.{some-inj}

-- an answer makes no empty group of one that is not empty
answer-filled : (group : Group) (low high : ℕ) (word : List ℕ) (next : Tree) → 1 ≤ group.count → Answer group low high word next → HasNoEmptyGroup next
answer-filled group low high word next some (was_equal split same even e) = subst HasNoEmptyGroup e some
answer-filled group low high word next some (was_split {part = x} {rest = r} split fewer e) =
    let is = minus-ok group x r split.is_rest in
    let left : 1 ≤ x.count = let one = is.some_count in omega arith in
    let right : 1 ≤ r.count = rw is.is_rest (omega arith) in
    subst HasNoEmptyGroup e (left, right)

-- nor does a word that is put into a tree
put-filled : (word : List ℕ) (t next : Tree) → HasNoEmptyGroup t → put word t ≡ Some (Ok next) → HasNoEmptyGroup next
unfolding put
put-filled word (unsplit group low high) next is e = by_count (nat_lt group.count 2) e
  where
    by_count : (b : Bool) → cond b None (Some (split_by group low high word)) ≡ Some (Ok next) → HasNoEmptyGroup next
    by_count true h = absurd (none-some _ h)
    by_count false h = answer-filled group low high word next is (answer-of group low high word next (some-inj h))
put-filled word (equal_values leaf) next is e = absurd (none-some _ e)
put-filled word (parts left right) next is e = by_parts (put word left) (put word right) (put-filled word left) (put-filled word right) refl refl e
  where
    by_parts : (a b : Option (Result Tree EpochFault)) → ((n : Tree) → HasNoEmptyGroup left → put word left ≡ Some (Ok n) → HasNoEmptyGroup n) → ((n : Tree) → HasNoEmptyGroup right → put word right
        ≡ Some (Ok n) → HasNoEmptyGroup n)
        → put word left ≡ a → put word right ≡ b → option_or (option_map (with_left right) a) (option_map (with_right left) b) ≡ Some (Ok next) → HasNoEmptyGroup next
    by_parts (Some (Ok l)) b one other pl pr h = subst HasNoEmptyGroup (ok-inj (some-inj h)) (one l is.0 pl, is.1)
    by_parts (Some (Err f)) b one other pl pr h = absurd (err-ok (some-inj h))
    by_parts None (Some (Ok r)) one other pl pr h = subst HasNoEmptyGroup (ok-inj (some-inj h)) (is.0, other r is.1 pr)
    by_parts None (Some (Err f)) one other pl pr h = absurd (err-ok (some-inj h))
    by_parts None None one other pl pr h = absurd (none-some _ h)

-- an epoch that has begun, and whose tree, if it has one, has no empty group
IsFilled : Epoch → Type 0
IsFilled unbegun = ⊥
IsFilled (resolving tree) = HasNoEmptyGroup tree
IsFilled (void_epoch out fault) = Unit {0}

-- one more word
grown-filled : (tree : Tree) (word : List ℕ) (o : Option (Result Tree EpochFault)) → put word tree ≡ o → HasNoEmptyGroup tree → IsFilled (grown_tree tree o)
unfolding IsFilled
grown-filled tree word None is some = some
grown-filled tree word (Some (Ok next)) is some = put-filled word tree next some is
grown-filled tree word (Some (Err fault)) is some = tt

word-filled : (e : Epoch) (word : List ℕ) → IsFilled e → IsFilled (with_word e word)
unfolding IsFilled
word-filled unbegun word begun = absurd begun
word-filled (resolving tree) word some = grown-filled tree word (put word tree) refl some
word-filled (void_epoch out fault) word some = tt

-- more words
words-filled : (e : Epoch) (words : List (List ℕ)) → IsFilled e → IsFilled (with_words e words)
words-filled e [] some = some
words-filled e (word ∷ words) some = words-filled (with_word e word) words (word-filled e word some)

-- a root of count 1 or more
root-filled : (root : List ℕ) (r : Result Group GroupFault) → group_of root ≡ r → 1 ≤ word_count root → IsFilled (root_or_fault r)
unfolding IsFilled
root-filled root (Ok group) is some = rw (group_of-ok root group is).0 some
root-filled root (Err fault) is some = tt

pub only-roots_empty : OnlyRootsAreEmpty
unfolding epoch_of IsFilled
only-roots_empty root words tree some is = subst IsFilled is (words-filled (root_or_fault (group_of root)) words (root-filled root (group_of root) refl some))
