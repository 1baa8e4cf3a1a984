-- Every tree of groups can be closed: further words split each open group until nothing is left to split.
use Rattle.std.proofs.Common.{◌≡◌, ℕ, zero, suc, ◌+◌, ◌-◌, ◌*◌, ◌<◌, ◌≤◌, min, max, Bool, true, false, cond, nat_lt, ◌||◌, List, [], ◌∷◌, ◌++◌, Option, Some, None, Result, Ok, Err, option_map, refl, sym, ◌∙◌, subst, arith, le-ltb, get_or, lit≤, inl, inr}
use Rattle.std.proofs.lemmas.Bool.{cases_lt, or_from}
use Rattle.std.proofs.lemmas.List.{get_or_past}
use Rattle.std.proofs.lemmas.List.Elements.{All-nil, All-cons, All-append}
use Rattle.dc_spec.specs.Words.{IsWord, AreWords}
use Rattle.std.specs.Option.{option_or}
use Rattle.std.proofs.lemmas.Option.{none-some}
use Rattle.dc_spec.specs.Values.{fifteen}
use Rattle.dc_spec.specs.Groups.{Group, limb, counted, high_limb, group_of, group_rest, unfit_limb, minus}
use Rattle.dc_station_rules.specs.Epochs.{EpochFault, Tree, unsplit, equal_values, parts, mean_of, two_parts, split_by, with_left, with_right, put, current}
use Rattle.dc_station_rules.specs.Resolving.{Parts}
use Rattle.dc_spec.proofs.GroupLemmas.{first_limb-fails, IsGroup, err-ok, ok-inj, group_of-ok, minus-ok, rest-IsGroup, get_or-fifteen, length-fifteen}
use Rattle.dc_station_rules.proofs.Putting.{Takes, takes-append, takes-left, takes-right, closed-small, closed-parts, answer-halves, Answer, was_equal, was_split, answer-of}
use Rattle.dc_spec.proofs.Options.{some-inj}

-- of each limb what one station may have sent, so that the rest can have sent the others
one_limb : Group → ℕ → ℕ
one_limb group i = limb group i - min (limb group i) (255 * (group.count - 1))

-- the word of one station of a group
one_word : Group → List ℕ
one_word group = 1 ∷ fifteen (one_limb group)

limb-one : (group : Group) (i : ℕ) → i < 15 → limb (counted (one_word group)) i ≡ limb group i - min (limb group i) (255 * (group.count - 1))
unfolding one_word one_limb
limb-one group i lt = get_or-fifteen _ i lt ∙ (let next : i + 1 ≡ suc i = omega arith in rw next (get_or-fifteen _ i lt))

-- one limb is small, and what is left is small enough
limb-fits : (x c : ℕ) → 2 ≤ c → x ≤ 255 * c → (x - min x (255 * (c - 1)) ≤ 255) × (x - min x (255 * (c - 1)) ≤ x) × (x - (x - min x (255 * (c - 1))) ≤ 255 * (c - 1))
limb-fits x c two le = (omega arith, omega arith, omega arith)

one-high : (group : Group) → IsGroup group → 2 ≤ group.count → high_limb (counted (one_word group)) ≡ None
unfolding one_word
one-high group is two = first_limb-fails (λ i. nat_lt (255 * 1) (limb (counted (one_word group)) i)) (λ i lt. le-ltb _ _ (subst (λ x. x ≤ 255) (sym (limb-one group i lt))
    (limb-fits (limb group i) group.count two (is.limbs i lt)).0))

one-fit : (group : Group) → IsGroup group → 2 ≤ group.count → unfit_limb group (counted (one_word group)) ≡ None
unfolding one_word
one-fit group is two = first_limb-fails (λ i. nat_lt (limb group i) (limb (counted (one_word group)) i) || nat_lt (255 * (group.count - 1)) (limb group i - limb (counted (one_word group)) i))
    (λ i lt. let fits = limb-fits (limb group i) group.count two (is.limbs i lt) in
    or_from _ _ (le-ltb _ _ (subst (λ x. x ≤ limb group i) (sym (limb-one group i lt)) fits.1)) (le-ltb _ _ (subst (λ x. limb group i - x ≤ 255 * (group.count - 1))
    (sym (limb-one group i lt)) fits.2)))

one-Parts : (group : Group) → IsGroup group → 2 ≤ group.count → Parts group (one_word group) (counted (one_word group)) (group_rest group (counted (one_word group)))
unfolding group_of minus one_word one_limb
one-Parts group is two = record {
  is_part = rw (one-high group is two);
  is_rest = rw (one-fit group is two, le-ltb group.count 1 (omega arith));
}

-- it is a word of sixteen symbols
one-IsWord : (group : Group) → IsGroup group → 2 ≤ group.count → IsWord (one_word group)
unfolding one_word one_limb fifteen
one-IsWord group is two = record { sixteen = refl; symbols = symbol }
  where
    symbol : (l : ℕ) → get_or (one_word group) l 0 < 65537
    symbol zero = lit≤ tt
    symbol (suc i) = elim (cases_lt i 15) [
      | inl lt ↦ (let fits = limb-fits (limb group i) group.count two (is.limbs i lt) in let same = get_or-fifteen (one_limb group) i lt in rw same (omega (arith, fits.0)))
      | inr le ↦ rw (get_or_past (fifteen (one_limb group)) i 0 (rw (length-fifteen (one_limb group)) le)) (omega arith)
    ]

-- words of sixteen symbols that close a tree
pub record Closing (t : Tree) : Type 0 where
  pub words : List (List ℕ)
  pub are_words : AreWords words
  pub after : Tree
  pub takes : Takes t words after
  pub closed : current after ≡ None

-- a group of count 2 or more, closed by the word of one of its stations and by words that close the rest
close-more : (group : Group) (low high : ℕ) → IsGroup group → 2 ≤ group.count
    → Closing (unsplit (group_rest group (counted (one_word group))) (max low (mean_of group + 1)) high) → Closing (unsplit group low high)
unfolding one_word
close-more group low high is two rest =
    let single = closed-small (counted (one_word group)) low (min high (mean_of group)) (omega arith) in
    record {
      words = one_word group ∷ rest.words;
      are_words = All-cons IsWord (one_word group) rest.words (one-IsWord group is two) rest.are_words;
      after = parts (unsplit (counted (one_word group)) low (min high (mean_of group))) rest.after;
      takes = (
        two_parts (mean_of group) low high (counted (one_word group)) (group_rest group (counted (one_word group))),
        answer-halves group _ _ low high (one_word group) two (one-Parts group is two) (omega arith),
        takes-right _ _ rest.after rest.words single rest.takes,
      );
      closed = closed-parts _ rest.after single rest.closed;
    }

-- words that close a group, by its count
close-group : (count : ℕ) (group : Group) (low high : ℕ) → IsGroup group → group.count ≡ count → Closing (unsplit group low high)
unfolding one_word
close-group zero group low high is e = record { words = []; are_words = All-nil IsWord; after = unsplit group low high; takes = refl; closed = closed-small group low high (omega arith) }
close-group (suc zero) group low high is e = record { words = []; are_words = All-nil IsWord; after = unsplit group low high; takes = refl; closed = closed-small group low high (omega arith) }
close-group (suc (suc count)) group low high is e =
    let two : 2 ≤ group.count = omega arith in
    let split = one-Parts group is two in
    close-more group low high is two (close-group (suc count) (group_rest group (counted (one_word group))) _ high (rest-IsGroup group _ _ is (minus-ok group _ _ split.is_rest)) (omega arith))

-- every node of a tree that is not split is a group
pub AreGroups : Tree → Type 0
AreGroups (unsplit group low high) = IsGroup group
AreGroups (equal_values leaf) = Unit {0}
AreGroups (parts left right) = AreGroups left × AreGroups right

-- a group alone
pub alone-AreGroups : (group : Group) (low high : ℕ) → IsGroup group → AreGroups (unsplit group low high)
unfolding AreGroups
alone-AreGroups group low high is = is

-- words that close a tree
pub close-tree : (t : Tree) → AreGroups t → Closing t
unfolding AreGroups current
close-tree (unsplit group low high) is = close-group group.count group low high is refl
close-tree (equal_values leaf) is = record { words = []; are_words = All-nil IsWord; after = equal_values leaf; takes = refl; closed = refl }
close-tree (parts left right) is =
    let one = close-tree left is.0 in
    let other = close-tree right is.1 in
    record {
      words = one.words ++ other.words;
      are_words = All-append IsWord one.words other.words one.are_words other.are_words;
      after = parts one.after other.after;
      takes = takes-append _ (parts one.after right) _ one.words other.words (takes-left left one.after right one.words one.takes)
          (takes-right one.after right other.after other.words one.closed other.takes);
      closed = closed-parts one.after other.after one.closed other.closed;
    }

-- what a word makes of a group are groups
answer-AreGroups : (group : Group) (low high : ℕ) (word : List ℕ) (next : Tree) → IsGroup group → Answer group low high word next → AreGroups next
unfolding AreGroups
answer-AreGroups group low high word next is (was_equal split same even e) = subst AreGroups e tt
answer-AreGroups group low high word next is (was_split {part = x} {rest = r} split fewer e) =
    subst AreGroups e ((group_of-ok word x split.is_part).1, rest-IsGroup group x r is (minus-ok group x r split.is_rest))

-- and so of a tree
put-AreGroups : (word : List ℕ) (t next : Tree) → AreGroups t → put word t ≡ Some (Ok next) → AreGroups next
unfolding AreGroups put current
put-AreGroups word (unsplit group low high) next is e = by_count (nat_lt group.count 2) e
  where
    by_count : (b : Bool) → cond b None (Some (split_by group low high word)) ≡ Some (Ok next) → AreGroups next
    by_count true h = absurd (none-some _ h)
    by_count false h = answer-AreGroups group low high word next is (answer-of group low high word next (some-inj h))
put-AreGroups word (equal_values leaf) next is e = absurd (none-some _ e)
put-AreGroups word (parts left right) next is e = by_parts (put word left) (put word right) (put-AreGroups word left) (put-AreGroups word right) refl refl e
  where
    by_parts : (a b : Option (Result Tree EpochFault)) → ((n : Tree) → AreGroups left → put word left ≡ Some (Ok n) → AreGroups n) → ((n : Tree) → AreGroups right → put word right ≡ Some (Ok n)
        → AreGroups n)
        → put word left ≡ a → put word right ≡ b → option_or (option_map (with_left right) a) (option_map (with_right left) b) ≡ Some (Ok next) → AreGroups next
    by_parts (Some (Ok l)) b again others pl pr h = subst AreGroups (ok-inj (some-inj h)) (again l is.0 pl, is.1)
    by_parts (Some (Err f)) b again others pl pr h = absurd (err-ok (some-inj h))
    by_parts None (Some (Ok r)) again others pl pr h = subst AreGroups (ok-inj (some-inj h)) (is.0, others r is.1 pr)
    by_parts None (Some (Err f)) again others pl pr h = absurd (err-ok (some-inj h))
    by_parts None None again others pl pr h = absurd (none-some _ h)

-- words keep a tree of groups one
pub takes-AreGroups : (t u : Tree) (words : List (List ℕ)) → AreGroups t → Takes t words u → AreGroups u
takes-AreGroups t u [] is takes = subst AreGroups takes is
takes-AreGroups t u (word ∷ words) is takes = takes-AreGroups takes.0 u words (put-AreGroups word t takes.0 is takes.1) takes.2
