-- One more word of an epoch only adds leaves, at the end.
use Rattle.std.proofs.Common.{◌≡◌, ℕ, Bool, true, false, cond, nat_lt, List, [], ◌∷◌, ◌++◌, length, drop, Option, Some, None, Result, Ok, Err, option_map, refl, sym, ap, ◌∙◌, subst, true≢false, append-nil, append_assoc, ne_eqb, ltb-false, arith}
use Rattle.std.specs.Option.{option_or, is_some, is_none}
use Rattle.std.proofs.Math.Seq.{drop-append_seam}
use Rattle.std.proofs.lemmas.Option.{none-some}
use Rattle.dc_spec.specs.Groups.{GroupFault, Group, group_of}
use Rattle.dc_station_rules.specs.Epochs.{Leaf, EpochFault, Tree, unsplit, equal_values, parts, split_by, with_left, with_right, put, current, come_out, Epoch, unbegun, resolving, void_epoch, root_or_fault, grown_tree, with_word, epoch_of, leaves, leaves_at}
use Rattle.dc_spec.proofs.GroupLemmas.{err-ok, ok-inj}
use Rattle.dc_station_rules.proofs.Putting.{none-is, open-same, put-open, out-parts}
use Rattle.dc_station_rules.proofs.Pushes.{epoch_of-push}
use Rattle.dc_spec.proofs.Options.{some-inj}

-- leaves and more of them
Adds : List Leaf → List Leaf → Type 0
Adds old new = (more : List Leaf) × (new ≡ old ++ more)

-- none more
adds-none : (old : List Leaf) → Adds old old
unfolding Adds
adds-none old = ([], sym (append-nil old))

-- more behind the same ones
adds-behind : (front old new : List Leaf) → Adds old new → Adds (front ++ old) (front ++ new)
unfolding Adds
adds-behind front old new adds = (adds.0, ap (λ ls. front ++ ls) adds.1 ∙ sym (append_assoc front old adds.0))

-- more, and perhaps others behind
adds-before : (b : Bool) (old new others : List Leaf) → Adds old new → Adds old (cond b new (new ++ others))
unfolding Adds
adds-before true old new others adds = adds
adds-before false old new others adds = (adds.0 ++ others, ap (λ ls. ls ++ others) adds.1 ∙ append_assoc old adds.0 others)

-- an option that is some
some-is : {A : Type 0} (o : Option A) → is_none o ≡ false → is_some o ≡ true
some-is None e = absurd (true≢false e)
some-is (Some x) e = refl

-- no leaf comes out before an open group
open-out : (group : Group) (low high : ℕ) → nat_lt group.count 2 ≡ false → come_out (unsplit group low high) ≡ []
unfolding come_out
open-out group low high large = let two = ltb-false _ _ large in rw (ne_eqb group.count 1 (λ e. omega arith))

open-left : (left right : Tree) → is_none (current left) ≡ false → come_out (parts left right) ≡ come_out left
unfolding come_out
open-left left right open_still = rw (some-is (current left) open_still) refl

-- a tree grown in its left part, and in its right part
left-adds : (left right grown : Tree) → is_none (current left) ≡ false → Adds (come_out left) (come_out grown) → Adds (come_out (parts left right)) (come_out (parts grown right))
unfolding come_out
left-adds left right grown open_still adds =
    subst (λ ls. Adds ls (come_out (parts grown right))) (sym (open-left left right open_still)) (adds-before (is_some (current grown)) (come_out left) (come_out grown) (come_out right) adds)

right-adds : (left right grown : Tree) → current left ≡ None → Adds (come_out right) (come_out grown) → Adds (come_out (parts left right)) (come_out (parts left grown))
right-adds left right grown closed adds =
    rw (out-parts left right closed, out-parts left grown closed) (adds-behind (come_out left) (come_out right) (come_out grown) adds)

-- a word that is put into a tree
put-adds : (word : List ℕ) (t next : Tree) → put word t ≡ Some (Ok next) → Adds (come_out t) (come_out next)
unfolding put Adds
put-adds word (unsplit group low high) next e = by_count (nat_lt group.count 2) refl e
  where
    by_count : (b : Bool) → nat_lt group.count 2 ≡ b → cond b None (Some (split_by group low high word)) ≡ Some (Ok next) → Adds (come_out (unsplit group low high)) (come_out next)
    by_count true count h = absurd (none-some _ h)
    by_count false count h = (come_out next, ap (λ ls. ls ++ come_out next) (sym (open-out group low high count)))
put-adds word (equal_values leaf) next e = absurd (none-some _ e)
put-adds word (parts left right) next e = by_parts (put word left) (put word right) refl refl e (put-adds word left) (put-adds word right)
  where
    by_parts : (a b : Option (Result Tree EpochFault)) → put word left ≡ a → put word right ≡ b → option_or (option_map (with_left right) a) (option_map (with_right left) b) ≡ Some (Ok next)
        → ((n : Tree) → put word left ≡ Some (Ok n) → Adds (come_out left) (come_out n)) → ((n : Tree) → put word right ≡ Some (Ok n) → Adds (come_out right) (come_out n))
        → Adds (come_out (parts left right)) (come_out next)
    by_parts (Some (Ok l)) b pl pr h one other = subst (λ t. Adds (come_out (parts left right)) (come_out t)) (ok-inj (some-inj h)) (left-adds left right l (put-open word left (Ok l) pl)
        (one l pl))
    by_parts (Some (Err f)) b pl pr h one other = absurd (err-ok (some-inj h))
    by_parts None (Some (Ok r)) pl pr h one other =
        let closed : current left ≡ None = none-is (current left) (sym (open-same word left) ∙ ap is_none pl) in
        subst (λ t. Adds (come_out (parts left right)) (come_out t)) (ok-inj (some-inj h)) (right-adds left right r closed (other r pr))
    by_parts None (Some (Err f)) pl pr h one other = absurd (err-ok (some-inj h))
    by_parts None None pl pr h one other = absurd (none-some _ h)

-- one more word of an epoch
root-adds : (r : Result Group GroupFault) → Adds [] (leaves (root_or_fault r))
unfolding Adds
root-adds r = (leaves (root_or_fault r), refl)

grown-adds : (tree : Tree) (word : List ℕ) (o : Option (Result Tree EpochFault)) → put word tree ≡ o → Adds (come_out tree) (leaves (grown_tree tree o))
grown-adds tree word None is = adds-none (come_out tree)
grown-adds tree word (Some (Ok next)) is = put-adds word tree next is
grown-adds tree word (Some (Err fault)) is = adds-none (come_out tree)

word-adds : (e : Epoch) (word : List ℕ) → Adds (leaves e) (leaves (with_word e word))
word-adds unbegun word = root-adds (group_of word)
word-adds (resolving tree) word = grown-adds tree word (put word tree) refl
word-adds (void_epoch out fault) word = adds-none out

-- the leaves after one more word are those before and those that it brings
pub leaves-push : (words : List (List ℕ)) (word : List ℕ) → leaves (epoch_of (words ++ word ∷ [])) ≡ leaves (epoch_of words) ++ leaves_at words word
unfolding Adds
leaves-push words word =
    let old : List Leaf = leaves (epoch_of words) in
    let adds = word-adds (epoch_of words) word in
    let all : leaves (epoch_of (words ++ word ∷ [])) ≡ old ++ adds.0 = ap leaves (epoch_of-push words word) ∙ adds.1 in
    all ∙ ap (λ ls. old ++ ls) (sym (ap (drop (length old)) all ∙ drop-append_seam old adds.0))
