-- Words put into a tree, one after the other, and what they resolve.
use Rattle.std.proofs.Common.{◌≡◌, ℕ, zero, suc, ◌+◌, ◌<◌, ◌≤◌, min, max, Bool, true, false, cond, nat_lt, ◌==◌, List, [], ◌∷◌, ◌++◌, length, Option, Some, None, Result, Ok, Err, option_map, refl, sym, ap, ap₂, ◌∙◌, subst, arith, true≢false, lt-ltb, le-ltb, eq-eqb, ne_eqb, eqb-true, ◌≢◌, length-append}
use Rattle.std.specs.Option.{option_or, is_none}
use Rattle.std.proofs.lemmas.Option.{none-some}
use Rattle.dc_spec.proofs.GroupLemmas.{err-ok, ok-inj, minus-ok}
use Rattle.dc_spec.specs.Groups.{Group, GroupFault, SplitFault, group_of, minus, uneven_limb}
use Rattle.dc_station_rules.specs.Epochs.{Leaf, EpochFault, Tree, unsplit, equal_values, parts, leaf_of, mean_of, equal_or_fault, split_or_fault, split_by_group, two_parts, split_by, with_left, with_right, put, Ranged, current, come_out, resolving, with_words}
use Rattle.dc_station_rules.specs.Resolving.{Parts, Resolves, empty, single, equal, halves}
use Rattle.dc_spec.proofs.Options.{some-inj}

-- these words, put into a tree, make it into another
abbrev pub Takes : Tree → List (List ℕ) → Tree → Type 0
Takes tree [] after = tree ≡ after
Takes tree (word ∷ words) after = (next : Tree) × (put word tree ≡ Some (Ok next)) × Takes next words after

pub takes-append : (t u v : Tree) (xs ys : List (List ℕ)) → Takes t xs u → Takes u ys v → Takes t (xs ++ ys) v
takes-append t u v [] ys first second = subst (λ w. Takes w ys v) (sym first) second
takes-append t u v (x ∷ xs) ys first second = (first.0, first.1, takes-append first.0 u v xs ys first.2 second)

-- the epoch after words that were put
pub takes-words : (t u : Tree) (words : List (List ℕ)) → Takes t words u → with_words (resolving t) words ≡ resolving u
takes-words t u [] is = ap resolving is
takes-words t u (word ∷ words) is = rw is.1 (takes-words is.0 u words is.2)

-- a word can be put where a group is open
pub open-same : (word : List ℕ) (t : Tree) → is_none (put word t) ≡ is_none (current t)
unfolding put current
open-same word (unsplit group low high) = by_count (nat_lt group.count 2)
  where
    by_count : (b : Bool) → is_none (cond b None (Some (split_by group low high word))) ≡ is_none {T = Ranged} (cond b None (Some (record { group = group; low = low; high = high })))
    by_count true = refl
    by_count false = refl
open-same word (equal_values leaf) = refl
open-same word (parts left right) = by_both (put word left) (current left) (put word right) (current right) (open-same word left) (open-same word right)
  where
    by_both : (a : Option (Result Tree EpochFault)) (b : Option Ranged) (c : Option (Result Tree EpochFault)) (d : Option Ranged) → is_none a ≡ is_none b → is_none c ≡ is_none d
        → is_none (option_or (option_map (with_left right) a) (option_map (with_right left) c)) ≡ is_none (option_or b d)
    by_both None None None None e f = refl
    by_both None None (Some c) (Some d) e f = refl
    by_both None None None (Some d) e f = f
    by_both None None (Some c) None e f = f
    by_both (Some a) (Some b) c d e f = refl
    by_both None (Some b) c d e f = absurd (true≢false e)
    by_both (Some a) None c d e f = absurd (true≢false (sym e))

-- an option that is none
pub none-is : {A : Type 0} (o : Option A) → is_none o ≡ true → o ≡ None
none-is None e = refl
none-is (Some x) e = absurd (true≢false (sym e))

-- nothing is put into a tree where no group is open
pub put-closed : (word : List ℕ) (t : Tree) → current t ≡ None → put word t ≡ None
put-closed word t closed = none-is (put word t) (open-same word t ∙ ap is_none closed)

-- where a word was put, a group was open
pub put-open : (word : List ℕ) (t : Tree) (r : Result Tree EpochFault) → put word t ≡ Some r → is_none (current t) ≡ false
put-open word t r is = sym (open-same word t) ∙ ap is_none is

-- words for the left part, and words for the right part once the left one is closed
pub takes-left : (l l' r : Tree) (words : List (List ℕ)) → Takes l words l' → Takes (parts l r) words (parts l' r)
unfolding put
takes-left l l' r [] is = ap (λ t. parts t r) is
takes-left l l' r (word ∷ words) is = (parts is.0 r, rw is.1, takes-left is.0 l' r words is.2)

pub takes-right : (l r r' : Tree) (words : List (List ℕ)) → current l ≡ None → Takes r words r' → Takes (parts l r) words (parts l r')
unfolding put
takes-right l r r' [] closed is = ap (parts l) is
takes-right l r r' (word ∷ words) closed is = (parts l is.0, rw (put-closed word l closed, is.1), takes-right l is.0 r' words closed is.2)

-- a closed tree takes no word
pub closed-none : (t u : Tree) (words : List (List ℕ)) → current t ≡ None → Takes t words u → (words ≡ []) × (t ≡ u)
closed-none t u [] closed is = (refl, is)
closed-none t u (word ∷ words) closed is = absurd (none-some _ (sym (put-closed word t closed) ∙ is.1))

-- words that close a group, with the leaves that then came out
pub record Closes (t : Tree) (words : List (List ℕ)) (out : List Leaf) : Type 0 where
  pub after : Tree
  pub takes : Takes t words after
  pub closed : current after ≡ None
  pub leaves : come_out after ≡ out

-- both parts closed
pub closed-parts : (l r : Tree) → current l ≡ None → current r ≡ None → current (parts l r) ≡ None
unfolding current
closed-parts l r a b = rw (a, b)

pub out-parts : (l r : Tree) → current l ≡ None → come_out (parts l r) ≡ come_out l ++ come_out r
unfolding come_out
out-parts l r a = rw a

-- what a word with the whole count, and what one with less, makes of a group
answer-equal : (group part rest : Group) (low high : ℕ) (word : List ℕ) → 2 ≤ group.count → Parts group word part rest → part.count ≡ group.count → uneven_limb group ≡ None
    → put word (unsplit group low high) ≡ Some (Ok (equal_values (leaf_of group low high)))
unfolding put split_by
answer-equal group part rest low high word two is all even = rw (le-ltb group.count 2 two, is.is_part, is.is_rest, eq-eqb part.count group.count all, even)

pub answer-halves : (group part rest : Group) (low high : ℕ) (word : List ℕ) → 2 ≤ group.count → Parts group word part rest → part.count < group.count → put word (unsplit group low high)
    ≡ Some (Ok (two_parts (mean_of group) low high part rest))
unfolding put split_by
answer-halves group part rest low high word two is fewer = rw (le-ltb group.count 2 two, is.is_part, is.is_rest, ne_eqb part.count group.count (λ e. omega arith))

-- a group that is closed by itself
pub closed-small : (group : Group) (low high : ℕ) → group.count < 2 → current (unsplit group low high) ≡ None
unfolding current
closed-small group low high few = rw (lt-ltb group.count 2 few)

-- the leaf of a group of count 1, and none of an empty one
out-single : (group : Group) (low high : ℕ) → group.count ≡ 1 → come_out (unsplit group low high) ≡ leaf_of group low high ∷ []
unfolding come_out
out-single group low high one = rw (eq-eqb group.count 1 one)

out-empty : (group : Group) (low high : ℕ) → group.count ≡ 0 → come_out (unsplit group low high) ≡ []
unfolding come_out
out-empty group low high none = rw (ne_eqb group.count 1 (λ e. omega arith))

-- words that resolve a group close it, with those leaves
pub resolves-closes : {group : Group} {low high : ℕ} {words : List (List ℕ)} {leaves : List Leaf} → Resolves group low high words leaves → Closes (unsplit group low high) words leaves
unfolding current come_out
resolves-closes {low = a} {high = b} (empty {group = g} none) = record { after = unsplit g a b; takes = refl; closed = closed-small g a b (omega arith); leaves = out-empty g a b none }
resolves-closes {low = a} {high = b} (single {group = g} one) = record { after = unsplit g a b; takes = refl; closed = closed-small g a b (omega arith); leaves = out-single g a b one }
resolves-closes {low = a} {high = b} (equal {group = g} {part = x} {rest = r} {word = w} two is all even) = record {
  after = equal_values (leaf_of g a b);
  takes = (equal_values (leaf_of g a b), answer-equal g x r a b w two is all even, refl);
  closed = refl;
  leaves = refl;
}
resolves-closes {low = a} {high = b} (halves {group = g} {part = x} {rest = r} {word = w} {left = ws} {right = vs} {leaves = out} {others = more} two is fewer first second) =
    let one = resolves-closes first in
    let other = resolves-closes second in
    record {
      after = parts one.after other.after;
      takes = (
        two_parts (mean_of g) a b x r,
        answer-halves g x r a b w two is fewer,
        takes-append _ (parts one.after (unsplit r (max a (mean_of g + 1)) b)) _ ws vs (takes-left _ one.after _ ws one.takes) (takes-right one.after _ other.after vs one.closed other.takes),
      );
      closed = closed-parts one.after other.after one.closed other.closed;
      leaves = out-parts one.after other.after one.closed ∙ ap₂ (λ p q. p ++ q) one.leaves other.leaves;
    }

-- words that close two parts: those of the left part, and then those of the right one
record InParts (left right after : Tree) (words : List (List ℕ)) : Type 0 where
  first : List (List ℕ)
  second : List (List ℕ)
  joined : words ≡ first ++ second
  new_left : Tree
  new_right : Tree
  takes_first : Takes left first new_left
  closed_first : current new_left ≡ None
  takes_second : Takes right second new_right
  closed_second : current new_right ≡ None
  is_parts : after ≡ parts new_left new_right

-- which of two parts is open
parts-closed : (l r : Tree) → current (parts l r) ≡ None → (current l ≡ None) × (current r ≡ None)
unfolding current
parts-closed l r e = by (current l) (current r) e
  where
    by : (a b : Option Ranged) → option_or a b ≡ None → (a ≡ None) × (b ≡ None)
    by None b h = (refl, h)
    by (Some x) b h = absurd (none-some x (sym h))

-- what is put into two parts
pub put-parts : (word : List ℕ) (l r : Tree) → put word (parts l r) ≡ option_or (option_map (with_left r) (put word l)) (option_map (with_right l) (put word r))
unfolding put
put-parts word l r = refl

-- the first word of several, by the part that takes it
in-parts-by : (l r after next : Tree) (word : List ℕ) (words : List (List ℕ)) → ((l r : Tree) → Takes (parts l r) words after → InParts l r after words) → Takes next words after
    → (a b : Option (Result Tree EpochFault)) → put word l ≡ a → put word r ≡ b → option_or (option_map (with_left r) a) (option_map (with_right l) b) ≡ Some (Ok next)
    → InParts l r after (word ∷ words)
in-parts-by l r after next word words again rest (Some (Ok l1)) b pl pr e =
    let same : parts l1 r ≡ next = ok-inj (some-inj e) in
    let more = again l1 r (subst (λ t. Takes t words after) (sym same) rest) in
    record {
      first = word ∷ more.first;
      second = more.second;
      joined = ap (λ ws. word ∷ ws) more.joined;
      new_left = more.new_left;
      new_right = more.new_right;
      takes_first = (l1, pl, more.takes_first);
      closed_first = more.closed_first;
      takes_second = more.takes_second;
      closed_second = more.closed_second;
      is_parts = more.is_parts;
    }
in-parts-by l r after next word words again rest (Some (Err f)) b pl pr e = absurd (err-ok (some-inj e))
in-parts-by l r after next word words again rest None (Some (Ok r1)) pl pr e =
    let same : parts l r1 ≡ next = ok-inj (some-inj e) in
    let more = again l r1 (subst (λ t. Takes t words after) (sym same) rest) in
    let still = closed-none l more.new_left more.first (none-is (current l) (sym (open-same word l) ∙ ap is_none pl)) more.takes_first in
    record {
      first = [];
      second = word ∷ more.second;
      joined = ap (λ ws. word ∷ ws) (more.joined ∙ ap (λ ws. ws ++ more.second) still.0);
      new_left = more.new_left;
      new_right = more.new_right;
      takes_first = still.1;
      closed_first = more.closed_first;
      takes_second = (r1, pr, more.takes_second);
      closed_second = more.closed_second;
      is_parts = more.is_parts;
    }
in-parts-by l r after next word words again rest None (Some (Err f)) pl pr e = absurd (err-ok (some-inj e))
in-parts-by l r after next word words again rest None None pl pr e = absurd (none-some _ e)

in-parts : (l r after : Tree) (words : List (List ℕ)) → Takes (parts l r) words after → current after ≡ None → InParts l r after words
in-parts l r after [] is closed =
    let both = parts-closed l r (ap current is ∙ closed) in
    record { first = []; second = []; joined = refl; new_left = l; new_right = r; takes_first = refl; closed_first = both.0; takes_second = refl; closed_second = both.1; is_parts = sym is }
in-parts l r after (word ∷ words) is closed = in-parts-by l r after is.0 word words (λ a b t. in-parts a b after words t closed) is.2 (put word l) (put word r) refl refl (sym (put-parts word l r)
    ∙ is.1)

-- what an answer to a group's word is
pub data Answer (group : Group) (low high : ℕ) (word : List ℕ) (next : Tree) : Type 0 where
  was_equal : {part rest : Group} → Parts group word part rest → part.count ≡ group.count → uneven_limb group ≡ None → equal_values (leaf_of group low high) ≡ next → Answer group low high word next
  was_split : {part rest : Group} → Parts group word part rest → part.count < group.count → two_parts (mean_of group) low high part rest ≡ next → Answer group low high word next

pub answer-of : (group : Group) (low high : ℕ) (word : List ℕ) (next : Tree) → split_by group low high word ≡ Ok next → Answer group low high word next
unfolding split_by
answer-of group low high word next e = by_part (group_of word) refl e
  where
    by_even : (part rest : Group) → Parts group word part rest → part.count ≡ group.count → (o : Option ℕ) → uneven_limb group ≡ o → equal_or_fault group low high o ≡ Ok next
        → Answer group low high word next
    by_even part rest is same None even r = was_equal is same even (ok-inj r)
    by_even part rest is same (Some i) even r = absurd (err-ok r)

    by_count : (part rest : Group) → Parts group word part rest → (b : Bool) → (part.count == group.count) ≡ b → cond b (equal_or_fault group low high (uneven_limb group))
        (Ok (two_parts (mean_of group) low high part rest)) ≡ Ok next → Answer group low high word next
    by_count part rest is true same r = by_even part rest is (eqb-true _ _ same) (uneven_limb group) refl r
    by_count part rest is false other r =
        let most : part.count ≤ group.count = (minus-ok group part rest is.is_rest).most_count in
        let differ : part.count ≢ group.count = λ h. true≢false (sym (eq-eqb _ _ h) ∙ other) in
        was_split is (omega arith) (ok-inj r)

    by_rest : (part : Group) → group_of word ≡ Ok part → (q : Result Group SplitFault) → minus group part ≡ q → split_or_fault group low high part q ≡ Ok next → Answer group low high word next
    by_rest part is (Err f) m r = absurd (err-ok r)
    by_rest part is (Ok rest) m r = by_count part rest (record { is_part = is; is_rest = m }) (part.count == group.count) refl r

    by_part : (q : Result Group GroupFault) → group_of word ≡ q → split_by_group group low high q ≡ Ok next → Answer group low high word next
    by_part (Err f) g r = absurd (err-ok r)
    by_part (Ok part) g r = by_rest part g (minus group part) refl r

-- what is put at a group of count 2 or more
pub put-answer : (group : Group) (low high : ℕ) (word : List ℕ) → 2 ≤ group.count → put word (unsplit group low high) ≡ Some (split_by group low high word)
unfolding put
put-answer group low high word two = rw (le-ltb group.count 2 two)

-- a group of count 2 or more is open
pub open-large : (group : Group) (low high : ℕ) → 2 ≤ group.count → current (unsplit group low high) ≡ Some (record { group = group; low = low; high = high })
unfolding current
open-large group low high two = rw (le-ltb group.count 2 two)

-- a group that takes no word
resolves-small : (group : Group) (low high : ℕ) (words : List (List ℕ)) (after : Tree) (out : List Leaf) → Resolves group low high [] out → words ≡ [] → unsplit group low high ≡ after
    → come_out (unsplit group low high) ≡ out → Resolves group low high words (come_out after)
resolves-small group low high words after out r none same is = subst (λ ws. Resolves group low high ws (come_out after)) (sym none) (subst (Resolves group low high []) (sym is ∙ ap come_out same) r)

-- what two lists of words and of leaves say of the joined ones
resolves-joined : (group : Group) (low high : ℕ) (word : List ℕ) (words first second : List (List ℕ)) (after l r : Tree) → words ≡ first ++ second → after ≡ parts l r → current l ≡ None
    → Resolves group low high (word ∷ first ++ second) (come_out l ++ come_out r) → Resolves group low high (word ∷ words) (come_out after)
resolves-joined group low high word words first second after l r joined is closed res =
    subst (λ ws. Resolves group low high (word ∷ ws) (come_out after)) (sym joined) (subst (Resolves group low high (word ∷ first ++ second)) (sym (ap come_out is ∙ out-parts l r closed)) res)

-- a value that all sent again
resolves-equal : (group part rest : Group) (low high : ℕ) (word : List ℕ) (words : List (List ℕ)) (after : Tree) → 2 ≤ group.count → Parts group word part rest → part.count ≡ group.count
    → uneven_limb group ≡ None → Takes (equal_values (leaf_of group low high)) words after → Resolves group low high (word ∷ words) (come_out after)
unfolding current come_out
resolves-equal group part rest low high word words after two is same even takes =
    let none = closed-none (equal_values (leaf_of group low high)) after words refl takes in
    subst (λ ws. Resolves group low high (word ∷ ws) (come_out after)) (sym none.0) (subst (Resolves group low high (word ∷ [])) (ap come_out none.1) (equal two is same even))

-- the same of a group of count 2 or more, after its own word
closes-split : (fuel : ℕ) (group : Group) (low high : ℕ) (word : List ℕ) (words : List (List ℕ)) (next after : Tree) → 2 ≤ group.count → length words < fuel → Takes next words after → current after
    ≡ None
    → ((g : Group) (a b : ℕ) (ws : List (List ℕ)) (t : Tree) → length ws < fuel → Takes (unsplit g a b) ws t → current t ≡ None → Resolves g a b ws (come_out t))
    → Answer group low high word next → Resolves group low high (word ∷ words) (come_out after)
closes-split fuel group low high word words next after two few takes closed again (was_equal {part = x} {rest = r} is same even e) =
    resolves-equal group x r low high word words after two is same even (subst (λ t. Takes t words after) (sym e) takes)
closes-split fuel group low high word words next after two few takes closed again (was_split {part = x} {rest = r} is fewer e) =
    let both = in-parts (unsplit x low (min high (mean_of group))) (unsplit r (max low (mean_of group + 1)) high) after words (subst (λ t. Takes t words after) (sym e) takes) closed in
    let sizes : length words ≡ length both.first + length both.second = ap length both.joined ∙ length-append both.first both.second in
    resolves-joined group low high word words both.first both.second after both.new_left both.new_right both.joined both.is_parts both.closed_first
    (halves two is fewer (again x low (min high (mean_of group)) both.first both.new_left (omega arith) both.takes_first both.closed_first)
    (again r (max low (mean_of group + 1)) high both.second both.new_right (omega arith) both.takes_second both.closed_second))

-- the same with the group's count in hand
closes-by : (fuel : ℕ) (group : Group) (low high : ℕ) (words : List (List ℕ)) (after : Tree) (count : ℕ) → group.count ≡ count → length words < fuel + 1 → Takes (unsplit group low high) words after
    → current after ≡ None
    → ((g : Group) (a b : ℕ) (ws : List (List ℕ)) (t : Tree) → length ws < fuel → Takes (unsplit g a b) ws t → current t ≡ None → Resolves g a b ws (come_out t))
    → Resolves group low high words (come_out after)
closes-by fuel group low high words after zero e few is closed again =
    let none = closed-none (unsplit group low high) after words (closed-small group low high (omega arith)) is in
    resolves-small group low high words after [] (empty e) none.0 none.1 (out-empty group low high e)
closes-by fuel group low high words after (suc zero) e few is closed again =
    let none = closed-none (unsplit group low high) after words (closed-small group low high (omega arith)) is in
    resolves-small group low high words after (leaf_of group low high ∷ []) (single e) none.0 none.1 (out-single group low high e)
closes-by fuel group low high [] after (suc (suc count)) e few is closed again =
    absurd (none-some _ (sym (ap current is ∙ closed) ∙ open-large group low high (omega arith)))
closes-by fuel group low high (word ∷ words) after (suc (suc count)) e few is closed again =
    closes-split fuel group low high word words is.0 after (omega arith) (omega arith) is.2 closed again
    (answer-of group low high word is.0 (some-inj (sym (put-answer group low high word (omega arith)) ∙ is.1)))

-- words that close a group resolve it, into the leaves that then came out
pub closes-resolves : (fuel : ℕ) (group : Group) (low high : ℕ) (words : List (List ℕ)) (after : Tree) → length words < fuel → Takes (unsplit group low high) words after → current after ≡ None
    → Resolves group low high words (come_out after)
closes-resolves zero group low high words after few is closed = absurd (omega arith)
closes-resolves (suc fuel) group low high words after few is closed = closes-by fuel group low high words after group.count refl (omega arith) is closed (closes-resolves fuel)
