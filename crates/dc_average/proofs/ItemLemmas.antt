-- The tree of an epoch by its items: where a word is put, and which leaves have come out.
use Rattle.std.proofs.Common.{◌≡◌, ℕ, true, false, cond, ltb, eqb, List, [], ◌∷◌, ◌++◌, map, Option, Some, None, Result, Ok, Err, refl, sym, ap, ◌∙◌, subst, arith, is_some, append_assoc, option_map}
use Rattle.std.specs.Option.{option_or}
use Rattle.std.proofs.lemmas.List.{append-nil}
use Rattle.std.proofs.lemmas.Bool.Decides.{nat_tests}
use Rattle.dc_spec.specs.Groups.{Group, GroupFault, SplitFault, group_of, minus, uneven_limb}
use Rattle.dc_station_rules.specs.Epochs.{Leaf, EpochFault, Tree, unsplit, equal_values, parts, Ranged, leaf_of, split_by, split_by_group, split_or_fault, equal_or_fault, put, with_left, with_right, current, come_out, two_parts, mean_of, Epoch, unbegun, resolving, void_epoch, root_or_fault, grown_tree, with_word, with_words, epoch_of}
use Rattle.dc_station_rules.proofs.Putting.{put-closed}
use Rattle.dc_average.specs.Items.{Item, a_group, a_leaf, items_of, groups_in, single_leaf, from_open, leaves_in}

-- the first of some groups
abbrev pub first : List Ranged → Option Ranged
first [] = None
first (place ∷ rest) = Some place

-- the first of two lists joined is that of the left one, if it has one
first-append : (xs ys : List Item) → first (from_open (xs ++ ys)) ≡ option_or (first (from_open xs)) (first (from_open ys))
first-append [] ys = refl
first-append (a_leaf leaf ∷ xs) ys = first-append xs ys
first-append (a_group place ∷ xs) ys =
    elim (ltb place.group.count 2) as (λ b. first (cond b (from_open (xs ++ ys)) (place ∷ groups_in (xs ++ ys))) ≡ option_or (first (cond b (from_open xs) (place ∷ groups_in xs))) (first (from_open ys))) [
      | true ↦ first-append xs ys
      | false ↦ refl
    ]

-- the current group is the first of those from the first open one on
pub current-first : (t : Tree) → current t ≡ first (from_open (items_of t))
unfolding current
current-first (unsplit group low high) =
    elim (ltb group.count 2) as (λ b. cond b None (Some (record { group = group; low = low; high = high })) ≡ first (cond b [] (record { group = group; low = low; high = high } ∷ []))) [
      | true ↦ refl
      | false ↦ refl
    ]
current-first (equal_values leaf) = refl
current-first (parts left right) = rw (current-first left, current-first right, first-append (items_of left) (items_of right)) refl

-- after items of which none is open
pub from_open-after : (xs ys : List Item) → from_open xs ≡ [] → from_open (xs ++ ys) ≡ from_open ys
from_open-after [] ys closed = refl
from_open-after (a_leaf leaf ∷ xs) ys closed = from_open-after xs ys closed
from_open-after (a_group place ∷ xs) ys closed =
    elim (ltb place.group.count 2) as (λ b. cond b (from_open xs) (place ∷ groups_in xs) ≡ [] → cond b (from_open (xs ++ ys)) (place ∷ groups_in (xs ++ ys)) ≡ from_open ys) [
      | true ↦ λ h. from_open-after xs ys h
      | false ↦ λ h. absurd cc
    ] closed

-- leaves of items of which none is open come before all others
pub leaves_in-after : (xs ys : List Item) → from_open xs ≡ [] → leaves_in (xs ++ ys) ≡ leaves_in xs ++ leaves_in ys
leaves_in-after [] ys closed = refl
leaves_in-after (a_leaf leaf ∷ xs) ys closed = ap (λ zs. leaf ∷ zs) (leaves_in-after xs ys closed)
leaves_in-after (a_group place ∷ xs) ys closed =
    elim (ltb place.group.count 2) as (λ b. cond b (from_open xs) (place ∷ groups_in xs) ≡ [] → cond b (single_leaf place ++ leaves_in (xs ++ ys)) [] ≡ cond b (single_leaf place ++ leaves_in xs) [] ++ leaves_in ys) [
      | true ↦ λ h. ap (λ zs. single_leaf place ++ zs) (leaves_in-after xs ys h) ∙ sym (append_assoc (single_leaf place) (leaves_in xs) (leaves_in ys))
      | false ↦ λ h. absurd cc
    ] closed

-- leaves of two lists joined: those of the right one only where none of the left one is open
leaves_in-append : (xs ys : List Item) → leaves_in (xs ++ ys) ≡ cond (is_some (first (from_open xs))) (leaves_in xs) (leaves_in xs ++ leaves_in ys)
leaves_in-append [] ys = refl
leaves_in-append (a_leaf leaf ∷ xs) ys =
    ap (λ zs. leaf ∷ zs) (leaves_in-append xs ys) ∙ elim (is_some (first (from_open xs))) as (λ b. leaf ∷ cond b (leaves_in xs) (leaves_in xs ++ leaves_in ys) ≡ cond b (leaf ∷ leaves_in xs) ((leaf ∷ leaves_in xs) ++ leaves_in ys)) [
      | true ↦ refl
      | false ↦ refl
    ]
leaves_in-append (a_group place ∷ xs) ys =
    elim (ltb place.group.count 2) as (λ b. cond b (single_leaf place ++ leaves_in (xs ++ ys)) [] ≡ cond (is_some (first (cond b (from_open xs) (place ∷ groups_in xs)))) (cond b (single_leaf place ++ leaves_in xs) []) (cond b (single_leaf place ++ leaves_in xs) [] ++ leaves_in ys)) [
      | true ↦ ap (λ zs. single_leaf place ++ zs) (leaves_in-append xs ys) ∙ elim (is_some (first (from_open xs))) as (λ b. single_leaf place ++ cond b (leaves_in xs) (leaves_in xs ++ leaves_in ys) ≡ cond b (single_leaf place ++ leaves_in xs) ((single_leaf place ++ leaves_in xs) ++ leaves_in ys)) [
        | true ↦ refl
        | false ↦ sym (append_assoc (single_leaf place) (leaves_in xs) (leaves_in ys))
      ]
      | false ↦ refl
    ]

-- a group of one station is not open
single_closed : (n : ℕ) (leaf : Leaf) → cond (eqb n 1) (leaf ∷ []) [] ≡ cond (ltb n 2) (cond (eqb n 1) (leaf ∷ []) [] ++ []) []
single_closed n leaf = grind (arith, nat_tests)

-- the leaves that have come out stand before the first open group
pub come_out-leaves : (t : Tree) → come_out t ≡ leaves_in (items_of t)
unfolding come_out
come_out-leaves (unsplit group low high) = single_closed group.count (leaf_of group low high)
come_out-leaves (equal_values leaf) = refl
come_out-leaves (parts left right) = rw (come_out-leaves left, come_out-leaves right, current-first left, leaves_in-append (items_of left) (items_of right)) refl

-- a tree with what a word made of the group that stands between these items
abbrev pub Grafted : Result Tree EpochFault → Option (Result Tree EpochFault) → List Item → List Item → Type 0
Grafted (Err fault) grown before after = grown ≡ Some (Err fault)
Grafted (Ok tree) grown before after = (t : Tree) × ((grown ≡ Some (Ok t)) × (items_of t ≡ before ++ (items_of tree ++ after)))

-- where the first open group of a tree stands, and what a word does to it
pub record Cut (word : List ℕ) (t : Tree) (whole : Ranged) : Type 0 where
  pub before : List Item
  pub after : List Item
  pub is : items_of t ≡ before ++ a_group whole ∷ after
  pub closed : from_open before ≡ []
  pub two : ltb whole.group.count 2 ≡ false
  pub grafted : Grafted (split_by whole.group whole.low whole.high word) (put word t) before after

-- an answer put at the group itself
graft-here : (made : Result Tree EpochFault) → Grafted made (Some made) [] []
graft-here (Err fault) = refl
graft-here (Ok tree) = (tree, (refl, sym (append-nil (items_of tree))))

-- an answer put into the left part of a tree
graft-left : (made : Result Tree EpochFault) (right : Tree) (grown other : Option (Result Tree EpochFault)) (before after : List Item) → Grafted made grown before after
    → Grafted made (option_or (option_map (with_left right) grown) other) before (after ++ items_of right)
graft-left (Err fault) right grown other before after is = rw is refl
graft-left (Ok tree) right grown other before after h =
    (parts h.0 right, (rw h.1.0 refl, rw h.1.1 (append_assoc before (items_of tree ++ after) (items_of right) ∙ ap (λ zs. before ++ zs) (append_assoc (items_of tree) after (items_of right)))))

-- an answer put into the right part of a tree
graft-right : (made : Result Tree EpochFault) (left : Tree) (grown : Option (Result Tree EpochFault)) (before after : List Item) → Grafted made grown before after
    → Grafted made (option_map (with_right left) grown) (items_of left ++ before) after
graft-right (Err fault) left grown before after is = rw is refl
graft-right (Ok tree) left grown before after h =
    (parts left h.0, (rw h.1.0 refl, rw h.1.1 (sym (append_assoc (items_of left) before (items_of tree ++ after)))))

-- a list without a first has no items
none_open : (xs : List Ranged) → first xs ≡ None → xs ≡ []
none_open [] e = refl
none_open (x ∷ xs) e = absurd cc

-- a tree without a current group has no open item
pub closed_items : (t : Tree) → current t ≡ None → from_open (items_of t) ≡ []
closed_items t none = none_open (from_open (items_of t)) (sym (current-first t) ∙ none)

-- the cut of a tree that is one open group
cut_here : (word : List ℕ) (group : Group) (low high : ℕ) → ltb group.count 2 ≡ false → Cut word (unsplit group low high) (record { group = group; low = low; high = high })
unfolding put
cut_here word group low high two = record {
  before = [];
  after = [];
  is = refl;
  closed = refl;
  two = two;
  grafted = rw two (graft-here (split_by group low high word));
}

-- none is not a group
none_some : (place : Ranged) → None ≡ Some place → ⊥
none_some place e = cc

-- the same answer is the same group
same_some : (x y : Ranged) → Some x ≡ Some y → x ≡ y
same_some x y e = cc

-- each tree with a current group is cut there
pub cut_of : (word : List ℕ) (t : Tree) (whole : Ranged) → current t ≡ Some whole → Cut word t whole
unfolding put current
cut_of word (unsplit group low high) whole is =
    let here : Ranged = record { group = group; low = low; high = high } in
    elim (ltb group.count 2) as (λ b. ltb group.count 2 ≡ b → cond b None (Some here) ≡ Some whole → Cut word (unsplit group low high) whole) [
      | true ↦ λ e h. absurd (none_some whole h)
      | false ↦ λ e h. subst (λ (p : Ranged). Cut word (unsplit group low high) p) (same_some here whole h) (cut_here word group low high e)
    ] refl is
cut_of word (equal_values leaf) whole is = absurd cc
cut_of word (parts left right) whole is =
    elim (current left) as (λ o. current left ≡ o → option_or o (current right) ≡ Some whole → Cut word (parts left right) whole) [
      | Some place ↦ λ e h.
          let cut = cut_of word left whole (e ∙ h) in
          record {
            before = cut.before;
            after = cut.after ++ items_of right;
            is = ap (λ zs. zs ++ items_of right) cut.is ∙ append_assoc cut.before (a_group whole ∷ cut.after) (items_of right);
            closed = cut.closed;
            two = cut.two;
            grafted = graft-left (split_by whole.group whole.low whole.high word) right (put word left) (option_map (with_right left) (put word right)) cut.before cut.after cut.grafted;
          }
      | None ↦ λ e h.
          let cut = cut_of word right whole h in
          let stays = put-closed word left e in
          record {
            before = items_of left ++ cut.before;
            after = cut.after;
            is = ap (λ zs. items_of left ++ zs) cut.is ∙ sym (append_assoc (items_of left) cut.before (a_group whole ∷ cut.after));
            closed = from_open-after (items_of left) cut.before (closed_items left e) ∙ cut.closed;
            two = cut.two;
            grafted = rw stays (graft-right (split_by whole.group whole.low whole.high word) left (put word right) cut.before cut.after cut.grafted);
          }
    ] refl is

-- items that are groups alone
abbrev pub AreGroups : List Item → Type 0
AreGroups [] = Unit {0}
AreGroups (a_group place ∷ items) = AreGroups items
AreGroups (a_leaf leaf ∷ items) = ⊥

-- items that are groups alone are those of their groups
pub groups_are : (items : List Item) → AreGroups items → items ≡ map a_group (groups_in items)
groups_are [] are = refl
groups_are (a_group place ∷ items) are = ap (λ zs. a_group place ∷ zs) (groups_are items are)
groups_are (a_leaf leaf ∷ items) are = absurd are

-- the items after the first open group
abbrev pub after_open : List Item → List Item
after_open [] = []
after_open (a_leaf leaf ∷ items) = after_open items
after_open (a_group place ∷ items) = cond (ltb place.group.count 2) (after_open items) items

-- after the first open one of groups alone stand groups alone
after_groups : (items : List Item) → AreGroups items → AreGroups (after_open items)
after_groups [] are = tt
after_groups (a_leaf leaf ∷ items) are = absurd are
after_groups (a_group place ∷ items) are =
    elim (ltb place.group.count 2) as (λ b. AreGroups (cond b (after_open items) items)) [
      | true ↦ after_groups items are
      | false ↦ are
    ]

-- closed items do not change what stands after the first open one
after_closed : (xs ys : List Item) → from_open xs ≡ [] → after_open (xs ++ ys) ≡ after_open ys
after_closed [] ys closed = refl
after_closed (a_leaf leaf ∷ xs) ys closed = after_closed xs ys closed
after_closed (a_group place ∷ xs) ys closed =
    elim (ltb place.group.count 2) as (λ b. cond b (from_open xs) (place ∷ groups_in xs) ≡ [] → cond b (after_open (xs ++ ys)) (xs ++ ys) ≡ after_open ys) [
      | true ↦ λ h. after_closed xs ys h
      | false ↦ λ h. absurd cc
    ] closed

-- the answers that a group may get: its leaf, or two groups
abbrev pub HasShape : Tree → Type 0
HasShape (equal_values leaf) = Unit {0}
HasShape (unsplit group low high) = ⊥
HasShape (parts (unsplit group low high) (unsplit group' low' high')) = Unit {0}
HasShape (parts (unsplit group low high) (equal_values leaf)) = ⊥
HasShape (parts (unsplit group low high) (parts left right)) = ⊥
HasShape (parts (equal_values leaf) right) = ⊥
HasShape (parts (parts left' right') right) = ⊥

abbrev pub OkShape : Result Tree EpochFault → Type 0
OkShape (Err fault) = Unit {0}
OkShape (Ok tree) = HasShape tree

-- a group whose stations all sent again gives its leaf
alike-shape : (group : Group) (low high : ℕ) (place : Option ℕ) → OkShape (equal_or_fault group low high place)
alike-shape group low high None = tt
alike-shape group low high (Some i) = tt

-- a group of which a part was judged gives its leaf or two groups
split-shape : (whole part : Group) (low high : ℕ) (rest : Result Group SplitFault) → OkShape (split_or_fault whole low high part rest)
split-shape whole part low high (Err fault) = tt
split-shape whole part low high (Ok rest) =
    elim (eqb part.count whole.count) as (λ b. OkShape (cond b (equal_or_fault whole low high (uneven_limb whole)) (Ok (two_parts (mean_of whole) low high part rest)))) [
      | true ↦ alike-shape whole low high (uneven_limb whole)
      | false ↦ tt
    ]

-- a group whose word was judged gives its leaf or two groups
part-shape : (whole : Group) (low high : ℕ) (part : Result Group GroupFault) → OkShape (split_by_group whole low high part)
part-shape whole low high (Err fault) = tt
part-shape whole low high (Ok part) = split-shape whole part low high (minus whole part)

-- a word makes of a group its leaf or two groups
pub answered-shape : (whole : Group) (low high : ℕ) (word : List ℕ) → OkShape (split_by whole low high word)
unfolding split_by
answered-shape whole low high word = part-shape whole low high (group_of word)

-- after an answer and groups alone, the items after the first open one are groups
pub shape_after : (tree : Tree) (items : List Item) → HasShape tree → AreGroups items → AreGroups (after_open (items_of tree ++ items))
shape_after (equal_values leaf) items shape are = after_groups items are
shape_after (unsplit group low high) items shape are = absurd shape
shape_after (parts (unsplit group low high) (unsplit group' low' high')) items shape are = after_groups (a_group (record { group = group; low = low; high = high }) ∷ a_group (record { group = group'; low = low'; high = high' }) ∷ items) are
shape_after (parts (unsplit group low high) (equal_values leaf)) items shape are = absurd shape
shape_after (parts (unsplit group low high) (parts left right)) items shape are = absurd shape
shape_after (parts (equal_values leaf) right) items shape are = absurd shape
shape_after (parts (parts left' right') right) items shape are = absurd shape

-- what stands after the first open group of a cut tree
cut_after : (word : List ℕ) (t : Tree) (whole : Ranged) (cut : Cut word t whole) → after_open (items_of t) ≡ cut.after
cut_after word t whole cut = rw (cut.is, after_closed cut.before (a_group whole ∷ cut.after) cut.closed, cut.two) refl

-- the groups from the first open one on of a cut tree
pub cut_from_open : (word : List ℕ) (t : Tree) (whole : Ranged) (cut : Cut word t whole) → from_open (items_of t) ≡ whole ∷ groups_in cut.after
cut_from_open word t whole cut = rw (cut.is, from_open-after cut.before (a_group whole ∷ cut.after) cut.closed, cut.two) refl

-- the leaves that have come out of a cut tree
pub cut_come_out : (word : List ℕ) (t : Tree) (whole : Ranged) (cut : Cut word t whole) → come_out t ≡ leaves_in cut.before
cut_come_out word t whole cut = rw (come_out-leaves t, cut.is, leaves_in-after cut.before (a_group whole ∷ cut.after) cut.closed, cut.two) (append-nil (leaves_in cut.before))

-- after the first open group of an epoch's tree no leaf stands
abbrev pub IsOrdered : Epoch → Type 0
IsOrdered unbegun = Unit {0}
IsOrdered (resolving t) = AreGroups (after_open (items_of t))
IsOrdered (void_epoch out fault) = Unit {0}

-- behind the current group of an ordered tree stand groups alone
pub cut_groups : (word : List ℕ) (t : Tree) (whole : Ranged) (cut : Cut word t whole) → IsOrdered (resolving t) → AreGroups cut.after
cut_groups word t whole cut ordered = subst (λ (zs : List Item). AreGroups zs) (cut_after word t whole cut) ordered

-- the tree of a root is ordered
root-ordered : (root : Result Group GroupFault) → IsOrdered (root_or_fault root)
root-ordered (Err fault) = tt
root-ordered (Ok group) = elim (ltb group.count 2) as (λ b. AreGroups (cond b [] [])) [
  | true ↦ tt
  | false ↦ tt
]

-- a tree with an answer in it is ordered
grafted-ordered : (t : Tree) (made : Result Tree EpochFault) (grown : Option (Result Tree EpochFault)) (before after : List Item) → OkShape made → AreGroups after → from_open before ≡ []
    → Grafted made grown before after → IsOrdered (grown_tree t grown)
grafted-ordered t (Err fault) grown before after shape are closed is = rw is tt
grafted-ordered t (Ok tree) grown before after shape are closed h =
    rw (h.1.0, h.1.1, after_closed before (items_of tree ++ after) closed) (shape_after tree after shape are)

-- one more word keeps the order
pub ordered_step : (epoch : Epoch) (word : List ℕ) → IsOrdered epoch → IsOrdered (with_word epoch word)
ordered_step unbegun word ordered = root-ordered (group_of word)
ordered_step (void_epoch out fault) word ordered = tt
ordered_step (resolving t) word ordered =
    elim (current t) as (λ o. current t ≡ o → IsOrdered (grown_tree t (put word t))) [
      | None ↦ λ e. rw (put-closed word t e) ordered
      | Some whole ↦ λ e.
          let cut = cut_of word t whole e in
          grafted-ordered t (split_by whole.group whole.low whole.high word) (put word t) cut.before cut.after (answered-shape whole.group whole.low whole.high word) (cut_groups word t whole cut ordered) cut.closed cut.grafted
    ] refl

-- more words keep the order
ordered_words : (epoch : Epoch) (words : List (List ℕ)) → IsOrdered epoch → IsOrdered (with_words epoch words)
ordered_words epoch [] ordered = ordered
ordered_words epoch (word ∷ words) ordered = ordered_words (with_word epoch word) words (ordered_step epoch word ordered)

-- it holds after all words
pub epoch_of-ordered : (words : List (List ℕ)) → IsOrdered (epoch_of words)
unfolding epoch_of
epoch_of-ordered words = ordered_words unbegun words tt
