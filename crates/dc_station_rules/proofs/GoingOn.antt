-- The words of a begun cycle are a proper prefix of a whole one, and each such prefix is the words of a begun cycle.
use Rattle.std.proofs.Common.{◌≡◌, ℕ, ◌+◌, ◌<◌, ◌≤◌, Bool, true, false, nat_le, nat_lt, List, [], ◌∷◌, ◌++◌, length, drop, replicate, Option, Some, None, IfSome, option_to_list, refl, sym, ap, ◌∙◌, arith, append_assoc, append-nil, leb-true, ltb-true, inl, inr}
use mathlib.Core.List.{cons≢nil}
use Rattle.std.specs.List.{AllByRecursion, flat_map}
use Rattle.std.specs.Option.{is_none}
use Rattle.std.proofs.lemmas.Bool.{cases_lt, and_parts}
use Rattle.std.proofs.lemmas.Grind.{flat_map-append}
use Rattle.std.proofs.lemmas.List.{length_push, map-append, get_or_push, get_or_past}
use Rattle.std.proofs.lemmas.List.Elements.{All-nil, All-cons}
use Rattle.std.proofs.lemmas.List.Sums.{AllPass-from_list_all}
use Rattle.dc_spec.specs.Words.{IsWord, AreWords}
use Rattle.dc_spec.specs.Values.{word_count}
use Rattle.dc_spec.specs.Groups.{group_count, group_of}
use Rattle.dc_station_rules.specs.Bursts.{nth_word}
use Rattle.dc_station_rules.specs.Epochs.{no_group, Tree, split_by, put, Ranged, current, Epoch, unbegun, resolving, void_epoch, grown_tree, with_word, with_words, epoch_of, is_over}
use Rattle.dc_station_rules.specs.Cycles.{Cycle, History, granted, burst_words, cycle_words, history_of}
use Rattle.dc_station_rules.specs.Grammar.{NotYet, is_burst, is_epoch, IsBurst, AreBursts, burst_fields, IsWholeCycle, is_all_of_next, IsBegunCycle, IsProperPrefixOfWhole}
use Rattle.dc_station_rules.proofs.Putting.{put-closed}
use Rattle.dc_station_rules.proofs.WholeOrVoid.{with_words-append, put-breaks, nil-split}
use Rattle.dc_station_rules.proofs.MessageBursts.{count-at}
use Rattle.dc_station_rules.proofs.OpenBursts.{open-passes}
use Rattle.dc_station_rules.proofs.OneWay.{nothing-open, ends-now, open-still, cycles_in_one_way}

-- a word that breaks each burst and each epoch: its count is above 256
abbrev breaking : List ℕ
breaking = 300 ∷ replicate 15 0

-- after it no group of a tree is open, or the epoch is void
breaks-tree : (tree : Tree) (place : Option Ranged) → current tree ≡ place → is_over (grown_tree tree (put breaking tree)) ≡ true
unfolding split_by group_of
breaks-tree tree None closed = ap (λ o. is_over (grown_tree tree o)) (put-closed breaking tree closed) ∙ ap is_none closed
breaks-tree tree (Some place) is = ap (λ o. is_over (grown_tree tree o)) (put-breaks breaking (no_group (group_count 300)) tree place is refl)

breaks-epoch : (epoch : Epoch) → is_over (with_word epoch breaking) ≡ true
unfolding group_of
breaks-epoch unbegun = refl
breaks-epoch (resolving tree) = breaks-tree tree (current tree) refl
breaks-epoch (void_epoch out fault) = refl

-- it ends an epoch
epoch-ends : (words : List (List ℕ)) → is_epoch (words ++ breaking ∷ []) ≡ true
unfolding epoch_of
epoch-ends words = ap is_over (with_words-append unbegun words (breaking ∷ [])) ∙ breaks-epoch (with_words unbegun words)

-- no count of an open burst is above 256
low-count : (words : List (List ℕ)) → NotYet is_burst words → (i : ℕ) → i < length words → word_count (nth_word words i) ≤ 256
low-count words still i lt =
    let counts : word_count (nth_word words i) + i ≡ word_count (nth_word words 0) = count-at words (open-passes words still) i lt in
    let most : word_count (nth_word words 0) ≤ 256 = leb-true (word_count (nth_word words 0)) 256 (and_parts (nat_le 1 (word_count (nth_word words 0))) (nat_le (word_count (nth_word words 0)) 256)
    (open-passes words still 0 (omega arith)).count).1 in
    omega arith

-- so that word ends a burst
burst-ends : (words : List (List ℕ)) → NotYet is_burst words → is_burst (words ++ breaking ∷ []) ≡ true
burst-ends words still = by_test (is_burst (words ++ breaking ∷ [])) refl
  where
    by_test : (b : Bool) → is_burst (words ++ breaking ∷ []) ≡ b → b ≡ true
    by_test true e = refl
    by_test false e =
        let low : word_count (nth_word (words ++ breaking ∷ []) (length words)) ≤ 256 = low-count (words ++ breaking ∷ []) (open-still is_burst words breaking still e) (length words)
        (omega (arith, length_push words breaking)) in
        let count : word_count (nth_word (words ++ breaking ∷ []) (length words)) ≡ 300 = ap word_count (get_or_push words breaking [] (length words) refl) in
        absurd (omega arith)

-- a burst of that word alone for each field
abbrev broken : List ℕ → List (ℕ × List (List ℕ))
broken [] = []
broken (field ∷ fields) = (field, breaking ∷ []) ∷ broken fields

broken-fields : (fields : List ℕ) → burst_fields (broken fields) ≡ fields
broken-fields [] = refl
broken-fields (field ∷ fields) = ap (λ fs. field ∷ fs) (broken-fields fields)

broken-bursts : (fields : List ℕ) → AreBursts (broken fields)
broken-bursts [] = tt
broken-bursts (field ∷ fields) = (ends-now is_burst [] breaking (nothing-open (field ∷ [])) (burst-ends [] (nothing-open (field ∷ []))), broken-bursts fields)

-- that word is one of sixteen symbols
breaking-IsWord : IsWord breaking
breaking-IsWord = record {
  sixteen = refl;
  symbols = λ l. elim (cases_lt l 16) [
    | inl lt ↦ ltb-true _ _ (AllPass-from_list_all (λ x. nat_lt x 65537) breaking refl l 0 lt)
    | inr le ↦ rw (get_or_past breaking l 0 le) (omega arith)
  ];
}

-- and so are those of such bursts, and of an epoch of that word alone
broken-words : (fields : List ℕ) → AreWords (burst_words (broken fields) ++ breaking ∷ [])
broken-words [] = All-cons IsWord breaking [] breaking-IsWord (All-nil IsWord)
broken-words (field ∷ fields) = All-cons IsWord breaking _ breaking-IsWord (broken-words fields)

-- each item of two lists
each-append : {A : Type 0} (P : A → Type 0) (xs ys : List A) → AllByRecursion P xs → AllByRecursion P ys → AllByRecursion P (xs ++ ys)
each-append P [] ys first second = second
each-append P (x ∷ xs) ys first second = (first.0, each-append P xs ys first.1 second)

-- the words of a cycle whose burst ends with one more word, and of what follows
spelled : (bursts more : List (ℕ × List (List ℕ))) (field : ℕ) (since : List (List ℕ)) (word : List ℕ) (rest : List (List ℕ))
    → burst_words (bursts ++ (field, since ++ word ∷ []) ∷ more) ++ rest ≡ (burst_words bursts ++ since) ++ word ∷ (burst_words more ++ rest)
spelled bursts more field since word rest = ap (λ ws. ws ++ rest) (flat_map-append (λ (b : ℕ × List (List ℕ)). b.1) bursts ((field, since ++ word ∷ []) ∷ more)) ∙ simp append_assoc

-- a begun cycle and what makes it whole, by the fields left
completed : (cycle : Cycle) (left : List ℕ) → burst_fields cycle.bursts ++ left ≡ granted cycle.reservation → AreBursts cycle.bursts → NotYet (is_all_of_next left) cycle.since
    → IsProperPrefixOfWhole (cycle_words cycle)
completed cycle [] fields are still = record {
  whole = record { reservation = cycle.reservation; bursts = cycle.bursts; since = cycle.since ++ breaking ∷ [] };
  is_whole = record { fields = sym (append-nil (burst_fields cycle.bursts)) ∙ fields; bursts = are; epoch = ends-now is_epoch cycle.since breaking still (epoch-ends cycle.since) };
  next = breaking;
  more = [];
  goes_on = ap (λ ws. cycle.reservation ∷ ws) (sym (append_assoc (burst_words cycle.bursts) cycle.since (breaking ∷ [])));
  are_words = All-cons IsWord breaking [] breaking-IsWord (All-nil IsWord);
}
completed cycle (field ∷ left) fields are still = record {
  whole = record { reservation = cycle.reservation; bursts = cycle.bursts ++ (field, cycle.since ++ breaking ∷ []) ∷ broken left; since = breaking ∷ [] };
  is_whole = record {
    fields = map-append (λ (b : ℕ × List (List ℕ)). b.0) cycle.bursts ((field, cycle.since ++ breaking ∷ []) ∷ broken left) ∙ ap (λ fs. burst_fields cycle.bursts ++ field ∷ fs) (broken-fields left)
        ∙ fields;
    bursts = each-append (λ (b : ℕ × List (List ℕ)). IsBurst b.1) cycle.bursts ((field, cycle.since ++ breaking ∷ []) ∷ broken left) are (
      ends-now is_burst cycle.since breaking still
          (burst-ends cycle.since still),
      broken-bursts left,
    );
    epoch = ends-now is_epoch [] breaking (nothing-open []) (epoch-ends []);
  };
  next = breaking;
  more = burst_words (broken left) ++ breaking ∷ [];
  goes_on = ap (λ ws. cycle.reservation ∷ ws) (spelled cycle.bursts (broken left) field cycle.since breaking (breaking ∷ []));
  are_words = All-cons IsWord breaking _ breaking-IsWord (broken-words left);
}

-- the words of a begun cycle are a proper prefix of a whole one
pub begun_goes_on : (cycle : Cycle) → IsBegunCycle cycle → IsProperPrefixOfWhole (cycle_words cycle)
begun_goes_on cycle is = completed cycle is.left is.fields is.bursts is.since

-- a whole cycle that begins with the words of a whole cycle has no word after them
nothing-more : (first whole : Cycle) (rest : List (List ℕ)) → IsWholeCycle first → IsWholeCycle whole → cycle_words whole ≡ cycle_words first ++ rest → rest ≡ []
nothing-more first whole rest is_first is_whole same =
    let after = cycles_in_one_way rest in
    let one = cycles_in_one_way (cycle_words whole) in
    let alone : record { whole = whole ∷ []; begun = None } ≡ history_of (cycle_words whole) = one.only (record { whole = whole ∷ []; begun = None }) (record { whole = (is_whole, tt); begun = tt })
    (append-nil (cycle_words whole)) in
    let joined : record { whole = first ∷ (history_of rest).whole; begun = (history_of rest).begun } ≡ history_of (cycle_words whole) = one.only (record {
      whole = first ∷ (history_of rest).whole;
      begun = (history_of rest).begun;
    }) (record { whole = (is_first, after.is_history.whole); begun = after.is_history.begun }) (ap (λ ws. cycle_words first ++ ws) after.spells ∙ sym same) in
    sym after.spells ∙ ap (λ (h : History). flat_map cycle_words (drop 1 h.whole ++ option_to_list h.begun)) (joined ∙ sym alone)

-- and each proper prefix, of one word or more, is the words of a begun one
pub prefix_is_begun : (word : List ℕ) (words : List (List ℕ)) (whole : Cycle) (next : List ℕ) (more : List (List ℕ)) → IsWholeCycle whole → cycle_words whole ≡ (word ∷ words) ++ next ∷ more
    → (cycle : Cycle) × IsBegunCycle cycle × (cycle_words cycle ≡ word ∷ words)
prefix_is_begun word words complete next more is_complete goes_on =
    let one = cycles_in_one_way (word ∷ words) in
    by_parts (history_of (word ∷ words)).whole (history_of (word ∷ words)).begun one.is_history.whole one.is_history.begun one.spells
  where
    by_parts : (whole : List Cycle) (begun : Option Cycle) → AllByRecursion IsWholeCycle whole → IfSome begun IsBegunCycle → flat_map cycle_words (whole ++ option_to_list begun) ≡ word ∷ words
        → (cycle : Cycle) × IsBegunCycle cycle × (cycle_words cycle ≡ word ∷ words)
    by_parts [] None wholes is_begun spells = absurd (cons≢nil (sym spells))
    by_parts [] (Some cycle) wholes is_begun spells = (cycle, is_begun, sym (append-nil (cycle_words cycle)) ∙ spells)
    by_parts (first ∷ others) begun wholes is_begun spells =
        let rest : List (List ℕ) = flat_map cycle_words (others ++ option_to_list begun) in
        let same : cycle_words complete ≡ cycle_words first ++ (rest ++ next ∷ more) = goes_on ∙ ap (λ ws. ws ++ next ∷ more) (sym spells) ∙ append_assoc (cycle_words first) rest (next ∷ more) in
        absurd (nil-split rest next more (sym (nothing-more first complete (rest ++ next ∷ more) wholes.0 is_complete same)))
