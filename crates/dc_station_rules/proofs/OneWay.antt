-- Every list of words is whole cycles and then a proper prefix of one, in just one way.
use Rattle.std.proofs.Common.{◌≡◌, ℕ, Bool, true, false, List, [], ◌∷◌, ◌++◌, length, drop, Option, Some, None, IfSome, option_to_list, refl, sym, ap, ◌∙◌, append_assoc, append-nil, true≢false, ap₂, slice_index_or, subst}
use mathlib.Core.List.{cons≢nil}
use Rattle.std.specs.List.{AllByRecursion, flat_map}
use Rattle.std.proofs.lemmas.Grind.{flat_map-append}
use Rattle.std.proofs.lemmas.List.{drop-drop, drop_at, length-map, length_push, map-append}
use Rattle.dc_station_rules.specs.Bursts.{burst_of, burst_faults}
use Rattle.dc_station_rules.specs.Epochs.{epoch_of}
use Rattle.dc_station_rules.specs.Cycles.{Cycle, History, granted, burst_words, cycle_words, history_words, opened, with_next, with_rest, history_of}
use Rattle.dc_station_rules.specs.Grammar.{NotYet, EndsWith, is_burst, is_epoch, IsBurst, IsEpoch, AreBursts, burst_fields, IsWholeCycle, is_all_of_next, IsBegunCycle, IsHistory, IsCyclesInOneWay}

-- a begun cycle from its parts
abbrev begun : List Cycle → List ℕ → List (ℕ × List (List ℕ)) → List (List ℕ) → History
begun whole word bursts since = record { whole = whole; begun = Some (record { reservation = word; bursts = bursts; since = since }) }

-- whole cycles alone
abbrev done : List Cycle → History
done whole = record { whole = whole; begun = None }

-- one more word of a burst that it does not end
goes_on_burst : (whole : List Cycle) (r : List ℕ) (bursts : List (ℕ × List (List ℕ))) (since : List (List ℕ)) (word : List ℕ) (field : ℕ) (left : List ℕ)
    → drop (length bursts) (granted r) ≡ field ∷ left → is_burst (since ++ word ∷ []) ≡ false
    → with_next (begun whole r bursts since) word ≡ begun whole r bursts (since ++ word ∷ [])
unfolding with_next
goes_on_burst whole r bursts since word field left fields e = rw (fields, e) refl

-- one more word of a burst that it ends
ends_burst : (whole : List Cycle) (r : List ℕ) (bursts : List (ℕ × List (List ℕ))) (since : List (List ℕ)) (word : List ℕ) (field : ℕ) (left : List ℕ)
    → drop (length bursts) (granted r) ≡ field ∷ left → is_burst (since ++ word ∷ []) ≡ true
    → with_next (begun whole r bursts since) word ≡ begun whole r (bursts ++ (field, since ++ word ∷ []) ∷ []) []
unfolding with_next
ends_burst whole r bursts since word field left fields e = rw (fields, e) refl

-- one more word of an epoch that it does not end, and one that ends it
goes_on_epoch : (whole : List Cycle) (r : List ℕ) (bursts : List (ℕ × List (List ℕ))) (since : List (List ℕ)) (word : List ℕ)
    → drop (length bursts) (granted r) ≡ [] → is_epoch (since ++ word ∷ []) ≡ false
    → with_next (begun whole r bursts since) word ≡ begun whole r bursts (since ++ word ∷ [])
unfolding with_next
goes_on_epoch whole r bursts since word fields e = rw (fields, e) refl

ends_epoch : (whole : List Cycle) (r : List ℕ) (bursts : List (ℕ × List (List ℕ))) (since : List (List ℕ)) (word : List ℕ)
    → drop (length bursts) (granted r) ≡ [] → is_epoch (since ++ word ∷ []) ≡ true
    → with_next (begun whole r bursts since) word ≡ done (whole ++ record { reservation = r; bursts = bursts; since = since ++ word ∷ [] } ∷ [])
unfolding with_next
ends_epoch whole r bursts since word fields e = rw (fields, e) refl

-- brackets of a list with one more word
step_assoc : (xs : List (List ℕ)) (w : List ℕ) (ws : List (List ℕ)) → (xs ++ w ∷ []) ++ ws ≡ xs ++ w ∷ ws
step_assoc xs w ws = append_assoc xs (w ∷ []) ws

-- all words of a burst, of which some are taken already
takes_burst : (whole : List Cycle) (r : List ℕ) (bursts : List (ℕ × List (List ℕ))) (since : List (List ℕ)) (word : List ℕ) (words : List (List ℕ)) (field : ℕ) (left : List ℕ)
    → drop (length bursts) (granted r) ≡ field ∷ left → IsBurst (since ++ word ∷ words)
    → with_rest (begun whole r bursts since) (word ∷ words) ≡ begun whole r (bursts ++ (field, since ++ word ∷ words) ∷ []) []
takes_burst whole r bursts since word [] field left fields ended = ends_burst whole r bursts since word field left fields ended.ended
takes_burst whole r bursts since word (next ∷ words) field left fields ended =
    ap (λ h. with_rest h (next ∷ words)) (goes_on_burst whole r bursts since word field left fields (ended.before (since ++ word ∷ []) next words (sym (step_assoc since word (next ∷ words)))))
    ∙ takes_burst whole r bursts (since ++ word ∷ []) next words field left fields (rw step_assoc ended)
    ∙ ap (λ ws. begun whole r (bursts ++ (field, ws) ∷ []) []) (step_assoc since word (next ∷ words))

-- all words of an epoch
takes_epoch : (whole : List Cycle) (r : List ℕ) (bursts : List (ℕ × List (List ℕ))) (since : List (List ℕ)) (word : List ℕ) (words : List (List ℕ))
    → drop (length bursts) (granted r) ≡ [] → IsEpoch (since ++ word ∷ words)
    → with_rest (begun whole r bursts since) (word ∷ words) ≡ done (whole ++ record { reservation = r; bursts = bursts; since = since ++ word ∷ words } ∷ [])
takes_epoch whole r bursts since word [] fields ended = ends_epoch whole r bursts since word fields ended.ended
takes_epoch whole r bursts since word (next ∷ words) fields ended =
    ap (λ h. with_rest h (next ∷ words)) (goes_on_epoch whole r bursts since word fields (ended.before (since ++ word ∷ []) next words (sym (step_assoc since word (next ∷ words)))))
    ∙ takes_epoch whole r bursts (since ++ word ∷ []) next words fields (rw step_assoc ended)
    ∙ ap (λ ws. done (whole ++ record { reservation = r; bursts = bursts; since = ws } ∷ [])) (step_assoc since word (next ∷ words))

-- one more word that does not end what comes next
goes_on : (whole : List Cycle) (r : List ℕ) (bursts : List (ℕ × List (List ℕ))) (since : List (List ℕ)) (word : List ℕ) (left : List ℕ)
    → drop (length bursts) (granted r) ≡ left → is_all_of_next left (since ++ word ∷ []) ≡ false
    → with_next (begun whole r bursts since) word ≡ begun whole r bursts (since ++ word ∷ [])
goes_on whole r bursts since word [] fields e = goes_on_epoch whole r bursts since word fields e
goes_on whole r bursts since word (field ∷ left) fields e = goes_on_burst whole r bursts since word field left fields e

-- words that are not all of what comes next
takes_part : (whole : List Cycle) (r : List ℕ) (bursts : List (ℕ × List (List ℕ))) (since words : List (List ℕ)) (left : List ℕ)
    → drop (length bursts) (granted r) ≡ left → NotYet (is_all_of_next left) (since ++ words)
    → with_rest (begun whole r bursts since) words ≡ begun whole r bursts (since ++ words)
takes_part whole r bursts since [] left fields open_still = ap (begun whole r bursts) (sym (append-nil since))
takes_part whole r bursts since (word ∷ words) left fields open_still =
    ap (λ h. with_rest h words) (goes_on whole r bursts since word left fields (open_still (since ++ word ∷ []) words (sym (step_assoc since word words))))
    ∙ takes_part whole r bursts (since ++ word ∷ []) words left fields (rw step_assoc open_still)
    ∙ ap (begun whole r bursts) (step_assoc since word words)

-- words after words
pub with_rest-append : (h : History) (xs ys : List (List ℕ)) → with_rest h (xs ++ ys) ≡ with_rest (with_rest h xs) ys
with_rest-append h [] ys = refl
with_rest-append h (x ∷ xs) ys = with_rest-append (with_next h x) xs ys

-- no words are all of a burst or of an epoch
pub nothing_yet : (left : List ℕ) → is_all_of_next left [] ≡ false
unfolding burst_of burst_faults epoch_of
nothing_yet [] = refl
nothing_yet (field ∷ left) = refl

-- the fields left after one more burst
pub fewer_left : (bursts : List (ℕ × List (List ℕ))) (b : ℕ × List (List ℕ)) (fields left : List ℕ) → drop (length bursts) fields ≡ b.0 ∷ left → drop (length (bursts ++ b ∷ [])) fields ≡ left
fewer_left bursts b fields left e = rw (length_push bursts b) (sym (drop-drop 1 (length bursts) fields) ∙ ap (drop 1) e)

-- several bursts in a row
takes_bursts : (whole : List Cycle) (r : List ℕ) (bursts more : List (ℕ × List (List ℕ))) (rest : List (List ℕ)) (left : List ℕ)
    → drop (length bursts) (granted r) ≡ burst_fields more ++ left → AreBursts more
    → with_rest (begun whole r bursts []) (burst_words more ++ rest) ≡ with_rest (begun whole r (bursts ++ more) []) rest
takes_bursts whole r bursts [] rest left fields are = ap (λ bs. with_rest (begun whole r bs []) rest) (sym (append-nil bursts))
takes_bursts whole r bursts ((field, []) ∷ more) rest left fields are = absurd (true≢false (sym are.0.ended ∙ nothing_yet (field ∷ [])))
takes_bursts whole r bursts ((field, word ∷ words) ∷ more) rest left fields are =
    ap (with_rest (begun whole r bursts [])) (append_assoc (word ∷ words) (burst_words more) rest)
    ∙ with_rest-append (begun whole r bursts []) (word ∷ words) (burst_words more ++ rest)
    ∙ ap (λ h. with_rest h (burst_words more ++ rest)) (takes_burst whole r bursts [] word words field (burst_fields more ++ left) fields are.0)
    ∙ takes_bursts whole r (bursts ++ (field, word ∷ words) ∷ []) more rest left (fewer_left bursts (field, word ∷ words) (granted r) (burst_fields more ++ left) fields) are.1
    ∙ ap (λ bs. with_rest (begun whole r bs []) rest) (append_assoc bursts ((field, word ∷ words) ∷ []) more)

-- the fields left where these are the first ones
pub left_over : (bursts : List (ℕ × List (List ℕ))) (fields left : List ℕ) → burst_fields bursts ++ left ≡ fields → drop (length bursts) fields ≡ left
left_over bursts fields left e = rw (← e) (drop_at (burst_fields bursts) left (length bursts) (length-map bursts _))

-- the words of an epoch after a cycle's bursts
takes_last : (whole : List Cycle) (r : List ℕ) (bursts : List (ℕ × List (List ℕ))) (since rest : List (List ℕ))
    → drop (length bursts) (granted r) ≡ [] → IsEpoch since
    → with_rest (begun whole r bursts []) (since ++ rest) ≡ with_rest (done (whole ++ record { reservation = r; bursts = bursts; since = since } ∷ [])) rest
takes_last whole r bursts [] rest fields is = absurd (true≢false (sym is.ended ∙ nothing_yet []))
takes_last whole r bursts (word ∷ words) rest fields is =
    with_rest-append (begun whole r bursts []) (word ∷ words) rest
    ∙ ap (λ h. with_rest h rest) (takes_epoch whole r bursts [] word words fields is)

-- the first word of a cycle
opens : (whole : List Cycle) (r : List ℕ) → with_next (done whole) r ≡ begun whole r [] []
unfolding with_next
opens whole r = refl

-- a whole cycle
takes_cycle : (whole : List Cycle) (cycle : Cycle) (rest : List (List ℕ)) → IsWholeCycle cycle → with_rest (done whole) (cycle_words cycle ++ rest) ≡ with_rest (done (whole ++ cycle ∷ [])) rest
takes_cycle whole cycle rest is =
    ap (λ h. with_rest h ((burst_words cycle.bursts ++ cycle.since) ++ rest)) (opens whole cycle.reservation)
    ∙ ap (with_rest (begun whole cycle.reservation [] [])) (append_assoc (burst_words cycle.bursts) cycle.since rest)
    ∙ takes_bursts whole cycle.reservation [] cycle.bursts (cycle.since ++ rest) [] (sym is.fields ∙ sym (append-nil (burst_fields cycle.bursts))) is.bursts
    ∙ takes_last whole cycle.reservation cycle.bursts cycle.since rest (left_over cycle.bursts (granted cycle.reservation) [] (append-nil (burst_fields cycle.bursts) ∙ is.fields)) is.epoch

-- whole cycles in a row
takes_cycles : (whole more : List Cycle) (rest : List (List ℕ)) → AllByRecursion IsWholeCycle more → with_rest (done whole) (flat_map cycle_words more ++ rest) ≡ with_rest (done (whole ++ more)) rest
takes_cycles whole [] rest are = ap (λ cs. with_rest (done cs) rest) (sym (append-nil whole))
takes_cycles whole (cycle ∷ more) rest are =
    ap (with_rest (done whole)) (append_assoc (cycle_words cycle) (flat_map cycle_words more) rest)
    ∙ takes_cycle whole cycle (flat_map cycle_words more ++ rest) are.0
    ∙ takes_cycles (whole ++ cycle ∷ []) more rest are.1
    ∙ ap (λ cs. with_rest (done cs) rest) (append_assoc whole (cycle ∷ []) more)

-- a begun cycle
takes_begun : (whole : List Cycle) (cycle : Cycle) → IsBegunCycle cycle → with_rest (done whole) (cycle_words cycle) ≡ record { whole = whole; begun = Some cycle }
takes_begun whole cycle is =
    ap (λ h. with_rest h (burst_words cycle.bursts ++ cycle.since)) (opens whole cycle.reservation)
    ∙ takes_bursts whole cycle.reservation [] cycle.bursts cycle.since is.left (sym is.fields) is.bursts
    ∙ takes_part whole cycle.reservation cycle.bursts [] cycle.since is.left (left_over cycle.bursts (granted cycle.reservation) is.left is.fields) is.since

-- the words of what is begun, which may be nothing
takes_rest : (whole : List Cycle) (begun : Option Cycle) → IfSome begun IsBegunCycle → with_rest (done whole) (flat_map cycle_words (option_to_list begun)) ≡ record { whole = whole; begun = begun }
takes_rest whole None is = refl
takes_rest whole (Some cycle) is = ap (with_rest (done whole)) (append-nil (cycle_words cycle)) ∙ takes_begun whole cycle is

-- the words of a history have that history
history_of-words : (history : History) → IsHistory history → history_of (history_words history) ≡ history
unfolding history_of
history_of-words history is =
    ap (with_rest (done [])) (flat_map-append cycle_words history.whole (option_to_list history.begun))
    ∙ takes_cycles [] history.whole (flat_map cycle_words (option_to_list history.begun)) is.whole
    ∙ takes_rest history.whole history.begun is.begun

-- where one more word is split elsewhere, the split lies within the words before it
pub split_before : (xs : List (List ℕ)) (x : List ℕ) (front : List (List ℕ)) (word : List ℕ) (rest : List (List ℕ)) → xs ++ x ∷ [] ≡ front ++ word ∷ rest → (more : List (List ℕ))
    × (xs ≡ front ++ more)
split_before xs x [] word rest e = (xs, refl)
split_before [] x (f ∷ []) word rest e = absurd (cons≢nil (ap (drop 1) (sym e)))
split_before [] x (f ∷ g ∷ front) word rest e = absurd (cons≢nil (ap (drop 1) (sym e)))
split_before (y ∷ xs) x (f ∷ front) word rest e = let deeper = split_before xs x front word rest (ap (drop 1) e) in (deeper.0, ap₂ (λ a b. a ∷ b) (ap (λ l. slice_index_or l 0 y) e) deeper.1)

-- each item of a list and one more
each-push : {A : Type 0} (P : A → Type 0) (xs : List A) (x : A) → AllByRecursion P xs → P x → AllByRecursion P (xs ++ x ∷ [])
each-push P [] x all last = (last, tt)
each-push P (y ∷ xs) x all last = (all.0, each-push P xs x all.1 last)

-- words that end with their last one, where the words before it did not end
pub ends-now : (test : List (List ℕ) → Bool) (words : List (List ℕ)) (word : List ℕ) → NotYet test words → test (words ++ word ∷ []) ≡ true → EndsWith test (words ++ word ∷ [])
ends-now test words word open_still e = record {
  ended = e;
  before = λ front next rest is. let split = split_before words word front next rest is in open_still front split.0 split.1;
}

-- one more word with which they still do not end
pub open-still : (test : List (List ℕ) → Bool) (words : List (List ℕ)) (word : List ℕ) → NotYet test words → test (words ++ word ∷ []) ≡ false → NotYet test (words ++ word ∷ [])
open-still test words word open_still e front [] is = ap test (sym (append-nil front) ∙ sym is) ∙ e
open-still test words word open_still e front (next ∷ rest) is = let split = split_before words word front next rest is in open_still front split.0 split.1

-- nothing has ended yet where no word is there
pub nothing-open : (left : List ℕ) → NotYet (is_all_of_next left) []
nothing-open left [] rest is = nothing_yet left
nothing-open left (f ∷ front) rest is = absurd (cons≢nil (sym is))

-- a history after one more word: it is one, and its words are one more
Steps : History → List ℕ → Type 0
Steps history word = IsHistory (with_next history word) × (history_words (with_next history word) ≡ history_words history ++ word ∷ [])

-- the words of whole cycles and one more
words-push : (whole : List Cycle) (cycle : Cycle) → flat_map cycle_words (whole ++ cycle ∷ []) ≡ flat_map cycle_words whole ++ cycle_words cycle
words-push whole cycle = flat_map-append cycle_words whole (cycle ∷ []) ∙ ap (λ ws. flat_map cycle_words whole ++ ws) (append-nil (cycle_words cycle))

-- the words of a begun cycle and one more word
since-push : (whole : List Cycle) (r : List ℕ) (bursts : List (ℕ × List (List ℕ))) (since : List (List ℕ)) (word : List ℕ)
    → history_words (begun whole r bursts (since ++ word ∷ [])) ≡ history_words (begun whole r bursts since) ++ word ∷ []
since-push whole r bursts since word =
    words-push whole _
    ∙ ap (λ ws. flat_map cycle_words whole ++ r ∷ ws) (sym (append_assoc (burst_words bursts) since (word ∷ [])))
    ∙ sym (append_assoc (flat_map cycle_words whole) (r ∷ burst_words bursts ++ since) (word ∷ []))
    ∙ ap (λ ws. ws ++ word ∷ []) (sym (words-push whole _))

-- the words of a cycle whose last burst has just ended
burst-push : (whole : List Cycle) (r : List ℕ) (bursts : List (ℕ × List (List ℕ))) (field : ℕ) (words : List (List ℕ))
    → history_words (begun whole r (bursts ++ (field, words) ∷ []) []) ≡ history_words (begun whole r bursts words)
burst-push whole r bursts field words =
    words-push whole _
    ∙ ap (λ ws. flat_map cycle_words whole ++ r ∷ ws) (append-nil _ ∙ flat_map-append (λ (b : ℕ × List (List ℕ)). b.1) bursts ((field, words) ∷ []) ∙ ap (λ ws. burst_words bursts ++ ws)
    (append-nil words))
    ∙ sym (words-push whole _)

-- the step, where the next history is known
stepped : (history next : History) (word : List ℕ) → with_next history word ≡ next → IsHistory next → history_words next ≡ history_words history ++ word ∷ [] → Steps history word
unfolding Steps
stepped history next word e is spells = (subst IsHistory (sym e) is, ap history_words e ∙ spells)

-- one more word of a begun cycle, by the fields left and by whether it ends what comes next
step_begun : (whole : List Cycle) (r : List ℕ) (bursts : List (ℕ × List (List ℕ))) (since : List (List ℕ)) (word : List ℕ) (left : List ℕ)
    → AllByRecursion IsWholeCycle whole → burst_fields bursts ++ left ≡ granted r → AreBursts bursts → NotYet (is_all_of_next left) since
    → (b : Bool) → is_all_of_next left (since ++ word ∷ []) ≡ b → Steps (begun whole r bursts since) word
step_begun whole r bursts since word left wholes fields are open_still false e = stepped (begun whole r bursts since) (begun whole r bursts (since ++ word ∷ [])) word
    (goes_on whole r bursts since word left (left_over bursts (granted r) left fields) e)
    (record { whole = wholes; begun = record { left = left; fields = fields; bursts = are; since = open-still (is_all_of_next left) since word open_still e } })
    (since-push whole r bursts since word)
step_begun whole r bursts since word [] wholes fields are open_still true e = stepped (begun whole r bursts since) (done (whole ++ record {
  reservation = r;
  bursts = bursts;
  since = since ++ word
      ∷ [];
} ∷ [])) word
    (ends_epoch whole r bursts since word (left_over bursts (granted r) [] fields) e)
    (record {
      whole = each-push IsWholeCycle whole _ wholes (record { fields = sym (append-nil (burst_fields bursts)) ∙ fields; bursts = are; epoch = ends-now is_epoch since word open_still e });
      begun = tt;
    })
    (ap (flat_map cycle_words) (append-nil (whole ++ record { reservation = r; bursts = bursts; since = since ++ word ∷ [] } ∷ [])) ∙ since-push whole r bursts since word)
step_begun whole r bursts since word (field ∷ left) wholes fields are open_still true e = stepped (begun whole r bursts since) (begun whole r (bursts ++ (field, since ++ word ∷ []) ∷ []) []) word
    (ends_burst whole r bursts since word field left (left_over bursts (granted r) (field ∷ left) fields) e)
    (record {
      whole = wholes;
      begun = record {
        left = left;
        fields = ap (λ fs. fs ++ left) (map-append (λ (b : ℕ × List (List ℕ)). b.0) bursts ((field, since ++ word ∷ []) ∷ [])) ∙ append_assoc (burst_fields bursts) (field ∷ []) left ∙ fields;
        bursts = each-push (λ (b : ℕ × List (List ℕ)). IsBurst b.1) bursts (field, since ++ word ∷ []) are (ends-now is_burst since word open_still e);
        since = nothing-open left;
      };
    })
    (burst-push whole r bursts field (since ++ word ∷ []) ∙ since-push whole r bursts since word)

-- one more word of any history
step : (whole : List Cycle) (begun : Option Cycle) (word : List ℕ) → AllByRecursion IsWholeCycle whole → IfSome begun IsBegunCycle → Steps (record { whole = whole; begun = begun }) word
step whole None word wholes is = stepped (done whole) (begun whole word [] []) word
    (opens whole word)
    (record { whole = wholes; begun = record { left = granted word; fields = refl; bursts = tt; since = nothing-open (granted word) } })
    (words-push whole (opened word) ∙ ap (λ cs. flat_map cycle_words cs ++ word ∷ []) (sym (append-nil whole)))
step whole (Some cycle) word wholes is = step_begun whole cycle.reservation cycle.bursts cycle.since word is.left wholes is.fields is.bursts is.since (is_all_of_next is.left (cycle.since ++ word
    ∷ [])) refl

-- more words of any history
steps : (history : History) (words : List (List ℕ)) → IsHistory history → IsHistory (with_rest history words) × (history_words (with_rest history words) ≡ history_words history ++ words)
unfolding Steps
steps history [] is = (is, sym (append-nil (history_words history)))
steps history (word ∷ words) is =
    let one = step history.whole history.begun word is.whole is.begun in
    let more = steps (with_next history word) words one.0 in
    (more.0, more.1 ∙ ap (λ ws. ws ++ words) one.1 ∙ append_assoc (history_words history) (word ∷ []) words)

-- every list of words is whole cycles and then a proper prefix of one in just one way
pub cycles_in_one_way : (words : List (List ℕ)) → IsCyclesInOneWay words
unfolding history_of
cycles_in_one_way words =
    let all = steps (done []) words (record { whole = tt; begun = tt }) in
    record { is_history = all.0; spells = all.1; only = λ other is spells. sym (history_of-words other is) ∙ ap history_of spells }
