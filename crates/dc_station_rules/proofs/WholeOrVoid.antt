-- An ended epoch is whole or void and not both.
use Rattle.std.proofs.Common.{◌≡◌, ℕ, suc, Bool, true, false, cond, nat_lt, List, [], ◌∷◌, ◌++◌, length, ◌⊎◌, inl, inr, Option, Some, None, Result, Ok, Err, option_map, refl, sym, ap, ◌∙◌, subst, true≢false, append-nil, append_assoc, slice_index_or, ltb-true, arith, drop, replicate, lt-suc_self}
use mathlib.Core.List.{cons≢nil}
use Rattle.std.proofs.lemmas.Bool.{cases_lt}
use Rattle.std.proofs.lemmas.List.{get_or_past}
use Rattle.std.proofs.lemmas.List.Elements.{All-nil, All-cons}
use Rattle.std.proofs.lemmas.List.Sums.{AllPass-from_list_all}
use Rattle.dc_spec.specs.Words.{IsWord, AreWords}
use Rattle.std.specs.Result.{result_err}
use Rattle.std.specs.Option.{unwrap_or, option_or, is_none}
use Rattle.std.proofs.lemmas.Option.{none-some}
use Rattle.dc_spec.specs.Values.{last_number, fifteen}
use Rattle.dc_spec.specs.Groups.{Group, GroupFault, group_of, counted, first_limb_where}
use Rattle.dc_station_rules.specs.Epochs.{Leaf, EpochFault, no_group, Tree, unsplit, equal_values, parts, split_by, with_left, with_right, put, Ranged, current, come_out, Epoch, unbegun, resolving, void_epoch, with_word, with_words, epoch_of, leaves, is_over}
use Rattle.dc_station_rules.specs.Grammar.{is_epoch, IsEpoch}
use Rattle.dc_station_rules.specs.Resolving.{empty, IsWholeEpoch, Breaks, BreaksOff, IsVoidEpoch, IsWholeOrVoid}
use Rattle.dc_spec.proofs.GroupLemmas.{err-ok, group_of-ok}
use Rattle.dc_station_rules.proofs.Putting.{Takes, takes-append, takes-words, open-same, none-is, put-open, put-closed, resolves-closes, closes-resolves}
use Rattle.dc_station_rules.proofs.Completing.{Closing, close-tree, alone-AreGroups, takes-AreGroups}
use Rattle.dc_station_rules.proofs.OneWay.{split_before, nothing_yet}
use Rattle.dc_spec.proofs.Options.{some-inj}

-- the faults of two equal errors
err-same : {A B : Type 0} {x y : B} → Path (Result A B) (Err x) (Err y) → x ≡ y
err-same {x = x} e = ap (λ r. unwrap_or (result_err r) x) e

-- an epoch after words and more words
pub with_words-append : (e : Epoch) (xs ys : List (List ℕ)) → with_words e (xs ++ ys) ≡ with_words (with_words e xs) ys
with_words-append e [] ys = refl
with_words-append e (x ∷ xs) ys = with_words-append (with_word e x) xs ys

-- a void epoch stays as it is
void-stays : (out : List Leaf) (fault : EpochFault) (words : List (List ℕ)) → with_words (void_epoch out fault) words ≡ void_epoch out fault
void-stays out fault [] = refl
void-stays out fault (word ∷ words) = void-stays out fault words

-- the words after a root that is a group
after-root : (root : List ℕ) (group : Group) (words : List (List ℕ)) (t : Tree) → group_of root ≡ Ok group → Takes (unsplit group 0 last_number) words t → epoch_of (root ∷ words) ≡ resolving t
unfolding epoch_of
after-root root group words t is takes = rw is (takes-words (unsplit group 0 last_number) t words takes)

-- a root that is none
bad-root : (root : List ℕ) (why : GroupFault) (words : List (List ℕ)) → group_of root ≡ Err why → epoch_of (root ∷ words) ≡ void_epoch [] (no_group why)
unfolding epoch_of
bad-root root why words is = rw is (void-stays [] (no_group why) words)

-- a front of words that a tree takes: it leaves the tree open
record Front (t u : Tree) (front : List (List ℕ)) (rest : List (List ℕ)) : Type 0 where
  middle : Tree
  takes : Takes t front middle
  still_open : is_none (current middle) ≡ false
  then_takes : Takes middle rest u

takes-front : (t u : Tree) (front : List (List ℕ)) (word : List ℕ) (rest : List (List ℕ)) → Takes t (front ++ word ∷ rest) u → Front t u front (word ∷ rest)
takes-front t u [] word rest is = record { middle = t; takes = refl; still_open = put-open word t (Ok is.0) is.1; then_takes = is }
takes-front t u (f ∷ front) word rest is =
    let more = takes-front is.0 u front word rest is.2 in
    record { middle = more.middle; takes = (is.0, is.1, more.takes); still_open = more.still_open; then_takes = more.then_takes }

-- heads and tails
head-same : (x y : List ℕ) (xs ys : List (List ℕ)) → x ∷ xs ≡ y ∷ ys → x ≡ y
head-same x y xs ys e = ap (λ l. slice_index_or l 0 x) e

tail-same : (x y : List ℕ) (xs ys : List (List ℕ)) → x ∷ xs ≡ y ∷ ys → xs ≡ ys
tail-same x y xs ys e = ap (drop 1) e

-- a proper front of a whole epoch: it is no word, or a root and words that leave the tree open
not-over : (front : List (List ℕ)) (word : List ℕ) (rest : List (List ℕ)) (out : List Leaf) → IsWholeEpoch (front ++ word ∷ rest) out → is_epoch front ≡ false
not-over [] word rest out whole = nothing_yet []
not-over (f ∷ front) word rest out whole =
    let is_root = head-same f whole.root _ _ whole.begins in
    let same = tail-same f whole.root _ _ whole.begins in
    let closes = resolves-closes whole.resolves in
    let part = takes-front (unsplit whole.group 0 last_number) closes.after front word rest (subst (λ ws. Takes (unsplit whole.group 0 last_number) ws closes.after) (sym same) closes.takes) in
    ap is_over (ap (λ r. epoch_of (r ∷ front)) is_root ∙ after-root whole.root whole.group front part.middle whole.is_group part.takes) ∙ part.still_open

-- a whole epoch ends with its last word, and its tree has its leaves
whole-ends : (words : List (List ℕ)) (out : List Leaf) → IsWholeEpoch words out → IsEpoch words × (tree : Tree) × (epoch_of words ≡ resolving tree) × (come_out tree ≡ out)
whole-ends words out whole =
    let closes = resolves-closes whole.resolves in
    let same = ap epoch_of whole.begins ∙ after-root whole.root whole.group whole.rest closes.after whole.is_group closes.takes in (
      record { ended = ap is_over same ∙ ap is_none closes.closed; before = λ front word rest e. not-over front word rest out (subst (λ ws. IsWholeEpoch ws out) e whole) },
      closes.after,
      same,
      closes.leaves,
    )

-- an answer that breaks a check is what is put
pub put-breaks : (word : List ℕ) (fault : EpochFault) (t : Tree) (place : Ranged) → current t ≡ Some place → split_by place.group place.low place.high word ≡ Err fault → put word t ≡ Some (Err fault)
unfolding put current
put-breaks word fault (unsplit group low high) place is broken = by_count (nat_lt group.count 2) is
  where
    by_count : (b : Bool) → Path (Option Ranged) (cond b None (Some (record { group = group; low = low; high = high }))) (Some place) → Path (Option (Result Tree EpochFault))
        (cond b None (Some (split_by group low high word))) (Some (Err fault))
    by_count true h = absurd (none-some _ h)
    by_count false h = ap (λ (p : Ranged). Some (split_by p.group p.low p.high word)) (some-inj h) ∙ ap Some broken
put-breaks word fault (equal_values leaf) place is broken = absurd (none-some _ is)
put-breaks word fault (parts left right) place is broken = by_parts (current left) refl is (put-breaks word fault left place) (put-breaks word fault right place)
  where
    by_parts : (a : Option Ranged) → current left ≡ a → option_or a (current right) ≡ Some place
        → (current left ≡ Some place → split_by place.group place.low place.high word ≡ Err fault → put word left ≡ Some (Err fault))
        → (current right ≡ Some place → split_by place.group place.low place.high word ≡ Err fault → put word right ≡ Some (Err fault))
        → Path (Option (Result Tree EpochFault)) (option_or (option_map (with_left right) (put word left)) (option_map (with_right left) (put word right))) (Some (Err fault))
    by_parts (Some p) cl h first second = rw (first (cl ∙ h) broken) refl
    by_parts None cl h first second = rw (put-closed word left cl, second h broken) refl

-- and where an error is put, the current group's answer breaks a check
breaks-put : (word : List ℕ) (fault : EpochFault) (t : Tree) → put word t ≡ Some (Err fault) → (place : Ranged) × (current t ≡ Some place) × (split_by place.group place.low place.high word
    ≡ Err fault)
unfolding put current
breaks-put word fault (unsplit group low high) e = by_count (nat_lt group.count 2) refl e
  where
    by_count : (b : Bool) → nat_lt group.count 2 ≡ b → Path (Option (Result Tree EpochFault)) (cond b None (Some (split_by group low high word))) (Some (Err fault)) → (place : Ranged)
        × (Path (Option Ranged) (cond (nat_lt group.count 2) None (Some (record { group = group; low = low; high = high }))) (Some place)) × (split_by place.group place.low place.high word
        ≡ Err fault)
    by_count true c h = absurd (none-some _ h)
    by_count false c h = (record { group = group; low = low; high = high }, rw c refl, some-inj h)
breaks-put word fault (equal_values leaf) e = absurd (none-some _ e)
breaks-put word fault (parts left right) e = by_parts (put word left) (put word right) refl refl e (breaks-put word fault left) (breaks-put word fault right)
  where
    by_parts : (a b : Option (Result Tree EpochFault)) → put word left ≡ a → put word right ≡ b → Path (Option (Result Tree EpochFault)) (option_or (option_map (with_left right) a)
        (option_map (with_right left) b)) (Some (Err fault))
        → (put word left ≡ Some (Err fault) → (place : Ranged) × (current left ≡ Some place) × (split_by place.group place.low place.high word ≡ Err fault))
        → (put word right ≡ Some (Err fault) → (place : Ranged) × (current right ≡ Some place) × (split_by place.group place.low place.high word ≡ Err fault))
        → (place : Ranged) × (Path (Option Ranged) (option_or (current left) (current right)) (Some place)) × (split_by place.group place.low place.high word ≡ Err fault)
    by_parts (Some (Ok l)) b pl pr h first second = absurd (err-ok (sym (some-inj h)))
    by_parts (Some (Err f)) b pl pr h first second =
        let found = first (pl ∙ ap (λ (y : EpochFault). Some (Err y)) (err-same (some-inj h))) in (found.0, rw found.1 refl, found.2)
    by_parts None (Some (Ok r)) pl pr h first second = absurd (err-ok (sym (some-inj h)))
    by_parts None (Some (Err f)) pl pr h first second =
        let found = second (pr ∙ ap (λ (y : EpochFault). Some (Err y)) (err-same (some-inj h))) in
        let closed : current left ≡ None = none-is (current left) (sym (open-same word left) ∙ ap is_none pl) in
        (found.0, rw closed found.1, found.2)
    by_parts None None pl pr h first second = absurd (none-some _ h)

-- a word that breaks a check, after words that a tree took
void-after : (root : List ℕ) (group : Group) (front : List (List ℕ)) (t : Tree) (word : List ℕ) (rest : List (List ℕ)) (fault : EpochFault) → group_of root ≡ Ok group
    → Takes (unsplit group 0 last_number) front t → put word t ≡ Some (Err fault)
    → epoch_of (root ∷ front ++ word ∷ rest) ≡ void_epoch (come_out t) fault
unfolding epoch_of
void-after root group front t word rest fault is takes broken =
    with_words-append unbegun (root ∷ front) (word ∷ rest)
    ∙ ap (λ e. with_words e (word ∷ rest)) (after-root root group front t is takes)
    ∙ (rw broken (void-stays (come_out t) fault rest))

-- no list is split after its end
pub nil-split : (front : List (List ℕ)) (word : List ℕ) (rest : List (List ℕ)) → [] ≡ front ++ word ∷ rest → ⊥
nil-split [] word rest e = cons≢nil (sym e)
nil-split (f ∷ front) word rest e = cons≢nil (sym e)

-- a front of what precedes the breaking word is a proper front of the whole epoch
void-before : (before : List (List ℕ)) (word next : List ℕ) (more : List (List ℕ)) (others : List Leaf) → IsWholeEpoch (before ++ next ∷ more) others
    → (front : List (List ℕ)) (w : List ℕ) (rest : List (List ℕ)) → before ++ word ∷ [] ≡ front ++ w ∷ rest → is_epoch front ≡ false
void-before before word next more others whole front w rest e = by_gap (split_before before word front w rest e)
  where
    by_gap : (gap : List (List ℕ)) × (before ≡ front ++ gap) → is_epoch front ≡ false
    by_gap ([], same) = not-over front next more others (subst (λ ws. IsWholeEpoch (ws ++ next ∷ more) others) (same ∙ append-nil front) whole)
    by_gap (g ∷ gap, same) = not-over front g (gap ++ next ∷ more) others (subst (λ ws. IsWholeEpoch ws others) (append_assoc front (g ∷ gap) (next ∷ more))
        (subst (λ ws. IsWholeEpoch (ws ++ next ∷ more) others) same whole))

-- what a void epoch is, where nothing stands before the breaking word, and where something does
void-root : (word : List ℕ) (fault : EpochFault) → Breaks unbegun word fault → epoch_of (word ∷ []) ≡ void_epoch [] fault
void-root word fault broken = bad-root word broken.0 [] broken.1 ∙ ap (void_epoch []) (sym broken.2)

void-later : (b : List ℕ) (before : List (List ℕ)) (word next : List ℕ) (more : List (List ℕ)) (others : List Leaf) (fault : EpochFault) → IsWholeEpoch (b ∷ before ++ next ∷ more) others
    → Breaks (epoch_of (b ∷ before)) word fault → epoch_of (b ∷ before ++ word ∷ []) ≡ void_epoch (leaves (epoch_of (b ∷ before))) fault
void-later b before word next more others fault whole broken =
    let is_root = head-same b whole.root _ _ whole.begins in
    let same = tail-same b whole.root _ _ whole.begins in
    let closes = resolves-closes whole.resolves in
    let is_group : group_of b ≡ Ok whole.group = ap group_of is_root ∙ whole.is_group in
    let part = takes-front (unsplit whole.group 0 last_number) closes.after before next more (subst (λ ws. Takes (unsplit whole.group 0 last_number) ws closes.after) (sym same) closes.takes) in
    let there = after-root b whole.group before part.middle is_group part.takes in
    let found = subst (λ e. Breaks e word fault) there broken in
    void-after b whole.group before part.middle word [] fault is_group part.takes (put-breaks word fault part.middle found.0 found.1 found.2)
    ∙ ap (λ e. void_epoch (leaves e) fault) (sym there)

-- the computed epoch of words before a breaking word, and of it
void-is : (before : List (List ℕ)) (word next : List ℕ) (more : List (List ℕ)) (others : List Leaf) (fault : EpochFault) → IsWholeEpoch (before ++ next ∷ more) others
    → Breaks (epoch_of before) word fault → epoch_of (before ++ word ∷ []) ≡ void_epoch (leaves (epoch_of before)) fault
unfolding epoch_of
void-is [] word next more others fault whole broken = void-root word fault broken
void-is (b ∷ before) word next more others fault whole broken = void-later b before word next more others fault whole broken

-- a void epoch ends with its last word
void-ends : (words : List (List ℕ)) (out : List Leaf) (fault : EpochFault) → BreaksOff words out fault → IsEpoch words × (epoch_of words ≡ void_epoch out fault)
void-ends words out fault void =
    let same : epoch_of words ≡ void_epoch (leaves (epoch_of void.before)) fault = ap epoch_of void.is
    ∙ void-is void.before void.word void.next void.more void.others fault void.is_part void.breaks in (
      record { ended = ap is_over same; before = λ front w rest e. void-before void.before void.word void.next void.more void.others void.is_part front w rest (sym void.is ∙ e) },
      same ∙ ap (λ ls. void_epoch ls fault) (sym void.had_come_out),
    )

-- what comes of words that are put into a tree: it takes them all; or it takes some, and then one breaks a check, or nothing is open
data Outcome (t : Tree) (words : List (List ℕ)) : Type 0 where
  took : (u : Tree) → Takes t words u → Outcome t words
  broke : (u : Tree) (front : List (List ℕ)) (word : List ℕ) (rest : List (List ℕ)) (fault : EpochFault) → words ≡ front ++ word ∷ rest → Takes t front u → put word u ≡ Some (Err fault)
      → Outcome t words
  closed_early : (u : Tree) (front : List (List ℕ)) (word : List ℕ) (rest : List (List ℕ)) → words ≡ front ++ word ∷ rest → Takes t front u → put word u ≡ None → Outcome t words

-- one more word in front
later : (t next : Tree) (word : List ℕ) (words : List (List ℕ)) → put word t ≡ Some (Ok next) → Outcome next words → Outcome t (word ∷ words)
later t next word words is (took u takes) = took u (next, is, takes)
later t next word words is (broke u front w rest fault same takes broken) = broke u (word ∷ front) w rest fault (ap (λ ws. word ∷ ws) same) (next, is, takes) broken
later t next word words is (closed_early u front w rest same takes none) = closed_early u (word ∷ front) w rest (ap (λ ws. word ∷ ws) same) (next, is, takes) none

-- the outcome by what the first word does
outcome-by : (t : Tree) (word : List ℕ) (words : List (List ℕ)) → ((u : Tree) → Outcome u words) → (o : Option (Result Tree EpochFault)) → put word t ≡ o → Outcome t (word ∷ words)
outcome-by t word words again None is = closed_early t [] word words refl refl is
outcome-by t word words again (Some (Err fault)) is = broke t [] word words fault refl refl is
outcome-by t word words again (Some (Ok next)) is = later t next word words is (again next)

outcome : (t : Tree) (words : List (List ℕ)) → Outcome t words
outcome t [] = took t refl
outcome t (word ∷ words) = outcome-by t word words (λ u. outcome u words) (put word t) refl

-- whole or void
OneOf : List (List ℕ) → Type 0
OneOf words = ((out : List Leaf) × IsWholeEpoch words out) ⊎ ((out : List Leaf) × (fault : EpochFault) × IsVoidEpoch words out fault)

-- the zero word
abbrev zeros : List ℕ
zeros = replicate 16 0

zero-IsWord : IsWord zeros
zero-IsWord = record {
  sixteen = refl;
  symbols = λ l. elim (cases_lt l 16) [
    | inl lt ↦ ltb-true _ _ (AllPass-from_list_all (λ x. nat_lt x 65537) zeros refl l 0 lt)
    | inr le ↦ rw (get_or_past zeros l 0 le) (omega arith)
  ];
}

-- an epoch of the zero word alone
zero-whole : IsWholeEpoch (replicate 16 0 ∷ []) []
unfolding group_of first_limb_where fifteen
zero-whole = record { root = replicate 16 0; group = counted (replicate 16 0); rest = []; begins = refl; is_group = refl; resolves = empty refl }

-- a root that is no group, alone
root-void : (root : List ℕ) (why : GroupFault) → group_of root ≡ Err why → IsVoidEpoch (root ∷ []) [] (no_group why)
unfolding epoch_of
root-void root why is = record {
  breaks_off = record { before = []; word = root; is = refl; next = replicate 16 0; more = []; others = []; is_part = zero-whole; breaks = (why, is, refl); had_come_out = refl };
  are_words = All-cons IsWord (replicate 16 0) [] zero-IsWord (All-nil IsWord);
}

-- a word that breaks a check after words that a tree took: what stands before is a proper prefix of a whole epoch
later-void : (root : List ℕ) (group : Group) (front : List (List ℕ)) (u : Tree) (word : List ℕ) (fault : EpochFault) → group_of root ≡ Ok group → Takes (unsplit group 0 last_number) front u
    → put word u ≡ Some (Err fault)
    → IsVoidEpoch (root ∷ front ++ word ∷ []) (leaves (epoch_of (root ∷ front))) fault
later-void root group front u word fault is takes broken = by_closing (close-tree u (takes-AreGroups (unsplit group 0 last_number) u front (alone-AreGroups group 0 last_number
    (group_of-ok root group is).1) takes)) refl
  where
    there : epoch_of (root ∷ front) ≡ resolving u
    there = after-root root group front u is takes

    by_closing : (c : Closing u) → c ≡ c → IsVoidEpoch (root ∷ front ++ word ∷ []) (leaves (epoch_of (root ∷ front))) fault
    by_closing c same = by_words c.words c.are_words c.takes
      where
        by_words : (ws : List (List ℕ)) → AreWords ws → Takes u ws c.after → IsVoidEpoch (root ∷ front ++ word ∷ []) (leaves (epoch_of (root ∷ front))) fault
        by_words [] are all = absurd (true≢false (sym (ap is_none (ap current all ∙ c.closed)) ∙ put-open word u (Err fault) broken))
        by_words (next ∷ more) are all = record {
          are_words = are;
          breaks_off = record {
            before = root ∷ front;
            word = word;
            is = refl;
            next = next;
            more = more;
            others = come_out c.after;
            is_part = record {
              root = root;
              group = group;
              rest = front ++ next ∷ more;
              begins = refl;
              is_group = is;
              resolves = closes-resolves (suc (length (front ++ next ∷ more))) group 0 last_number (front ++ next ∷ more) c.after (lt-suc_self _)
                  (takes-append (unsplit group 0 last_number) u c.after front (next ∷ more) takes all) c.closed;
            };
            breaks = subst (λ e. Breaks e word fault) (sym there) (breaks-put word fault u broken);
            had_come_out = refl;
          };
        }

-- what the outcome says of an ended epoch
one-by : (root : List ℕ) (words : List (List ℕ)) (group : Group) → group_of root ≡ Ok group → IsEpoch (root ∷ words) → Outcome (unsplit group 0 last_number) words → OneOf (root ∷ words)
unfolding OneOf
one-by root words group is ended (took u takes) =
    let closed : current u ≡ None = none-is (current u) (sym (ap is_over (after-root root group words u is takes)) ∙ ended.ended) in
    inl (
      come_out u,
      record {
        root = root;
        group = group;
        rest = words;
        begins = refl;
        is_group = is;
        resolves = closes-resolves (suc (length words)) group 0 last_number words u
            (lt-suc_self _) takes closed;
      },
    )
one-by root words group is ended (closed_early u front word rest same takes none) =
    absurd (true≢false (sym (ap is_none none) ∙ open-same word u ∙ sym (ap is_over (after-root root group front u is takes)) ∙ ended.before (root ∷ front) word rest (ap (λ ws. root ∷ ws) same)))
one-by root words group is ended (broke u front word [] fault same takes broken) =
    inr (leaves (epoch_of (root ∷ front)), fault, subst (λ ws. IsVoidEpoch (root ∷ ws) (leaves (epoch_of (root ∷ front))) fault) (sym same) (later-void root group front u word fault is takes broken))
one-by root words group is ended (broke u front word (r ∷ rest) fault same takes broken) =
    absurd (true≢false (sym (ap is_over (void-after root group front u word [] fault is takes broken)) ∙ ended.before (root ∷ front ++ word ∷ []) r rest (ap (λ ws. root ∷ ws) (same
    ∙ sym (append_assoc front (word ∷ []) (r ∷ rest))))))

-- an ended epoch is whole or void
one-of : (words : List (List ℕ)) → IsEpoch words → OneOf words
unfolding OneOf
one-of [] ended = absurd (true≢false (sym ended.ended ∙ nothing_yet []))
one-of (root ∷ words) ended = by_root words ended (group_of root) refl
  where
    by_root : (ws : List (List ℕ)) → IsEpoch (root ∷ ws) → (r : Result Group GroupFault) → group_of root ≡ r → OneOf (root ∷ ws)
    by_root ws end (Ok group) is = one-by root ws group is end (outcome (unsplit group 0 last_number) ws)
    by_root [] end (Err why) is = inr ([], no_group why, root-void root why is)
    by_root (w ∷ ws) end (Err why) is = absurd (true≢false (sym (ap is_over (bad-root root why [] is)) ∙ end.before (root ∷ []) w ws refl))

-- whether words broke a check
is_void : Epoch → Bool
is_void unbegun = false
is_void (resolving tree) = false
is_void (void_epoch out fault) = true

-- an epoch is not both
not-both : (words : List (List ℕ)) (out others : List Leaf) (fault : EpochFault) → IsWholeEpoch words out → BreaksOff words others fault → ⊥
unfolding is_void
not-both words out others fault whole void = true≢false (sym (ap is_void (void-ends words others fault void).1) ∙ ap is_void (whole-ends words out whole).2)

-- an ended epoch is whole or void, as the computed epoch says
pub whole_or_void : (words : List (List ℕ)) → IsWholeOrVoid words
unfolding OneOf
whole_or_void words = record { one = one-of words; whole = whole-ends words; void = void-ends words; not_both = not-both words }
