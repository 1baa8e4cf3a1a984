-- How many words an epoch takes.
use Rattle.std.proofs.Common.{◌≡◌, ℕ, ◌+◌, ◌≤◌, max, Bool, true, false, cond, nat_lt, ◌==◌, List, [], ◌∷◌, ◌++◌, length, All, Option, Some, None, Result, Ok, Err, option_map, if◌then◌else◌, refl, sym, ◌∙◌, ap, subst, inl, inr, arith, true≢false, append_assoc, length-append, eq-eqb}
use Rattle.std.specs.Option.{option_or, is_none, is_some}
use Rattle.std.proofs.lemmas.Option.{none-some}
use Rattle.std.proofs.lemmas.Bool.{ltb-true, le-ltb, lt-ltb}
use Rattle.std.proofs.lemmas.List.{append-nil}
use Rattle.std.proofs.lemmas.List.Sums.{sum_by-append}
use Rattle.dc_spec.specs.Values.{IsValue, last_number}
use Rattle.dc_spec.specs.Groups.{Group, GroupFault, group_of}
use Rattle.dc_spec.proofs.GroupLemmas.{err-ok, ok-inj}
use Rattle.dc_spec.proofs.Options.{some-inj}
use Rattle.dc_station_rules.specs.Epochs.{Leaf, leaf_of, EpochFault, Tree, unsplit, equal_values, parts, split_by, with_left, with_right, put, Ranged, current, come_out, Epoch, unbegun, resolving, void_epoch, root_or_fault, grown_tree, with_word, epoch_of, leaves, is_over}
use Rattle.dc_station_rules.proofs.Pushes.{epoch_of-push}
use Rattle.dc_station_rules.proofs.Putting.{Answer, was_equal, was_split, answer-of, open-same, none-is}
use Rattle.dc_message_rules.specs.SentEpochs.{AreSent, repeated, epoch_length}
use Rattle.dc_message_rules.proofs.Trees.{Holds}
use Rattle.dc_message_rules.proofs.SentEpochs.{Sound, sent-sound}

-- the words that a tree took
inner : Tree → ℕ
inner (unsplit group low high) = 0
inner (equal_values leaf) = 1
inner (parts left right) = inner left + inner right + 1

answer-inner : (group : Group) (low high : ℕ) (word : List ℕ) (next : Tree) → Answer group low high word next → inner next ≡ 1
unfolding inner
answer-inner group low high word next (was_equal split same even e) = ap inner (sym e)
answer-inner group low high word next (was_split split fewer e) = ap inner (sym e)

-- one more word
put-inner : (word : List ℕ) (t next : Tree) → put word t ≡ Some (Ok next) → inner next ≡ inner t + 1
unfolding put inner
put-inner word (unsplit group low high) next e = by_count (nat_lt group.count 2) e
  where
    by_count : (b : Bool) → cond b None (Some (split_by group low high word)) ≡ Some (Ok next) → inner next ≡ 0 + 1
    by_count true h = absurd (none-some _ h)
    by_count false h = answer-inner group low high word next (answer-of group low high word next (some-inj h))
put-inner word (equal_values leaf) next e = absurd (none-some _ e)
put-inner word (parts left right) next e = by_parts (put word left) (put word right) (λ n. put-inner word left n) (λ n. put-inner word right n) e
  where
    by_parts : (a b : Option (Result Tree EpochFault)) → ((n : Tree) → a ≡ Some (Ok n) → inner n ≡ inner left + 1) → ((n : Tree) → b ≡ Some (Ok n) → inner n ≡ inner right + 1)
        → option_or (option_map (with_left right) a) (option_map (with_right left) b) ≡ Some (Ok next) → inner next ≡ inner left + inner right + 1 + 1
    by_parts (Some (Ok l)) b one other h = sym (ap inner (ok-inj (some-inj h))) ∙ (let x = one l refl in let e : inner l + inner right + 1 ≡ inner left + inner right + 1 + 1 = omega arith in e)
    by_parts (Some (Err f)) b one other h = absurd (err-ok (some-inj h))
    by_parts None (Some (Ok r)) one other h = sym (ap inner (ok-inj (some-inj h))) ∙ (let x = other r refl in let e : inner left + inner r + 1 ≡ inner left + inner right + 1 + 1 = omega arith in e)
    by_parts None (Some (Err f)) one other h = absurd (err-ok (some-inj h))
    by_parts None None one other h = absurd (none-some _ h)

-- so many words
Counted : ℕ → Epoch → Type 0
Counted n unbegun = n ≡ 0
Counted n (resolving t) = n ≡ inner t + 1
Counted n (void_epoch out fault) = Unit {0}

root-counted : (r : Result Group GroupFault) → Counted 1 (root_or_fault r)
unfolding Counted inner
root-counted (Ok group) = refl
root-counted (Err fault) = tt

grown-counted : (t : Tree) (word : List ℕ) (n : ℕ) → n ≡ inner t + 1 → is_none (current t) ≡ false → (o : Option (Result Tree EpochFault)) → put word t ≡ o → Counted (n + 1) (grown_tree t o)
unfolding Counted
grown-counted t word n is goes_on None at = absurd (true≢false (sym (ap is_none at) ∙ open-same word t ∙ goes_on))
grown-counted t word n is goes_on (Some (Ok next)) at = let more = put-inner word t next at in omega arith
grown-counted t word n is goes_on (Some (Err fault)) at = tt

word-counted : (e : Epoch) (word : List ℕ) (n : ℕ) → Counted n e → is_over e ≡ false → Counted (n + 1) (with_word e word)
unfolding Counted
word-counted unbegun word n is goes_on = subst (λ (k : ℕ). Counted k (root_or_fault (group_of word))) (let e : 1 ≡ n + 1 = omega arith in e) (root-counted (group_of word))
word-counted (resolving t) word n is goes_on = grown-counted t word n is goes_on (put word t) refl
word-counted (void_epoch out fault) word n is goes_on = tt

words-counted : (values words before : List (List ℕ)) → AreSent values (before ++ words) → Counted (length before) (epoch_of before) → Counted (length (before ++ words)) (epoch_of (before ++ words))
words-counted values [] before sent is = subst (λ (ws : List (List ℕ)). Counted (length ws) (epoch_of ws)) (sym (append-nil before)) is
words-counted values (word ∷ words) before sent is =
    let here = sent before word words refl in
    let size : length before + 1 ≡ length (before ++ word ∷ []) = sym (length-append before (word ∷ [])) in
    let next : Counted (length (before ++ word ∷ [])) (epoch_of (before ++ word ∷ [])) = subst (λ (e : Epoch). Counted (length (before ++ word ∷ [])) e) (sym (epoch_of-push before word))
    (subst (λ (n : ℕ). Counted n (with_word (epoch_of before) word)) size (word-counted (epoch_of before) word (length before) is here.0)) in
    let assoc : (before ++ word ∷ []) ++ words ≡ before ++ word ∷ words = append_assoc before (word ∷ []) words in
    subst (λ (ws : List (List ℕ)). Counted (length ws) (epoch_of ws)) assoc (words-counted values words (before ++ word ∷ []) (subst (AreSent values) (sym assoc) sent) next)

sent-counted : (values words : List (List ℕ)) → AreSent values words → Counted (length words) (epoch_of words)
unfolding Counted epoch_of
sent-counted values words sent = words-counted values words [] sent refl

-- the leaves of a tree that is closed
two_parts_none : (l r : Option Ranged) → option_or l r ≡ None → (l ≡ None) × (r ≡ None)
two_parts_none None r e = (refl, e)
two_parts_none (Some x) r e = absurd (none-some x (sym e))

closed-length : (values : List (List ℕ)) (t : Tree) (a b : ℕ) → Holds values t a b → current t ≡ None → length (come_out t) + repeated (come_out t) ≡ inner t + 1
unfolding come_out current inner
closed-length values (unsplit group low high) a b holds closed = by_count (nat_lt group.count 2) refl closed
  where
    by_count : (c : Bool) → nat_lt group.count 2 ≡ c → cond {A = Option Ranged} c None (Some (record { group = group; low = low; high = high })) ≡ None
        → length (if group.count == 1 then leaf_of group low high ∷ [] else []) + repeated (if group.count == 1 then leaf_of group low high ∷ [] else []) ≡ 0 + 1
    by_count false count e = absurd (none-some _ (sym e))
    by_count true count e =
        let few = ltb-true group.count 2 count in
        let size = ap (λ (g : Group). g.count) holds.2 in
        let some = holds.3 in
        let one : group.count ≡ 1 = omega arith in
        subst (λ (c : Bool). length (if c then leaf_of group low high ∷ [] else []) + repeated (if c then leaf_of group low high ∷ [] else []) ≡ 0 + 1) (sym (eq-eqb group.count 1 one))
        (ap (λ (c : Bool). 1 + (0 + cond {A = ℕ} c 1 0)) (le-ltb 1 group.count (omega arith)))
closed-length values (equal_values leaf) a b holds closed = let two = holds.2 in ap (λ (c : Bool). 1 + (0 + cond {A = ℕ} c 1 0)) (lt-ltb 1 leaf.times (omega arith))
closed-length values (parts left right) a b holds closed =
    let both = two_parts_none (current left) (current right) closed in
    let one = closed-length values left a holds.0 holds.3 both.0 in
    let two = closed-length values right (holds.0 + 1) b holds.4 both.1 in
    let size = length-append (come_out left) (come_out right) in
    let again = sum_by-append (λ (leaf : Leaf). if nat_lt 1 leaf.times then 1 else 0) (come_out left) (come_out right) in
    subst (λ (c : Bool). length (if c then come_out left else come_out left ++ come_out right) + repeated (if c then come_out left else come_out left ++ come_out right)
    ≡ inner left + inner right + 1 + 1)
    (sym (ap is_some both.0)) (omega arith)

some-words : (n k m : ℕ) → n ≡ k + 1 → m ≡ k + 1 → n ≡ max 1 m
some-words n k m is same = omega arith

nothing-out : (group : Group) → group.count ≡ 0 → come_out (unsplit group 0 last_number) ≡ []
unfolding come_out
nothing-out group none = ap (λ (n : ℕ). cond (n == 1) (leaf_of group 0 last_number ∷ []) []) none

by-epoch : (values : List (List ℕ)) (n : ℕ) (e : Epoch) → Sound values e → Counted n e → is_over e ≡ true → n ≡ epoch_length (leaves e)
unfolding Counted inner
by-epoch values n unbegun sound counted over = absurd (true≢false (sym over))
by-epoch values n (resolving t) (inl holds) counted over =
    some-words n (inner t) (length (come_out t) + repeated (come_out t)) counted (closed-length values t 0 last_number holds (none-is (current t) over))
by-epoch values n (resolving t) (inr none) counted over =
    some-one n (counted ∙ ap (λ (u : Tree). inner u + 1) none.2) ∙ ap epoch_length (sym (ap come_out none.2 ∙ nothing-out none.1 none.3))
  where
    some-one : (n : ℕ) → n ≡ 0 + 1 → n ≡ 1
    some-one n is = omega arith
by-epoch values n (void_epoch out fault) sound counted over = absurd sound

-- a whole epoch
pub epoch-lengths : (values : List (List ℕ)) → All IsValue values → length values ≤ 256 → (words : List (List ℕ)) → AreSent values words → is_over (epoch_of words) ≡ true
    → length words ≡ epoch_length (leaves (epoch_of words))
epoch-lengths values are few words sent over = by-epoch values (length words) (epoch_of words) (sent-sound values are few words sent) (sent-counted values words sent) over
