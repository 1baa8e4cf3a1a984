-- An ended burst is a message burst or a void one and not both.
use Rattle.std.proofs.Common.{◌≡◌, ℕ, ◌+◌, ◌-◌, ◌*◌, ◌≤◌, ◌<◌, Bool, true, false, nat_lt, ◌==◌, List, [], ◌∷◌, ◌++◌, length, ◌⊎◌, inl, inr, Option, Some, None, refl, sym, ap, ◌∙◌, subst, arith, true≢false, append-nil, append_assoc, length-append, ltb-true, ltb-false, eqb-true, eq-eqb}
use Rattle.std.proofs.lemmas.List.{get_or_append_left}
use Rattle.dc_spec.specs.Words.{IsWord, AreWords}
use Rattle.dc_spec.specs.Values.{word_count}
use Rattle.dc_station_rules.specs.Bursts.{fragment_count, IsMessageBurst, BurstFault, nth_word, fault_at, Burst, goes_on, gave, void_burst, burst_of, has_ended, carried_message}
use Rattle.dc_station_rules.specs.Grammar.{NotYet, is_burst, IsBurst, IsVoidBurst, IsMessageOrVoid}
use Rattle.dc_station_rules.specs.Laws.{MessagesFit}
use Rattle.dc_station_rules.proofs.Carried.{enough, length-fragments}
use Rattle.dc_station_rules.proofs.BurstFaults.{passes, fault_at-append}
use Rattle.dc_station_rules.proofs.MessageBursts.{clean-goes, broken-burst, fragments-give, front-goes, fragments-clean}
use Rattle.dc_station_rules.proofs.WholeBursts.{whole-IsMessageBurst}
use Rattle.dc_station_rules.proofs.OpenBursts.{IsOpen, is-open, some-part}
use Rattle.dc_station_rules.proofs.OneWay.{split_before, nothing_yet}

-- a message burst ends with its last word and gives its message
message-ends : (words : List (List ℕ)) (message : List ℕ) → IsMessageBurst words message → IsBurst words × (burst_of words ≡ gave message)
message-ends words message is =
    let gives : burst_of words ≡ gave message = ap burst_of is.are_fragments ∙ fragments-give message is.is_message in (
      record { ended = ap has_ended gives; before = λ front word rest e. ap has_ended (front-goes front word rest message (subst (λ ws. IsMessageBurst ws message) e is)) },
      gives,
    )

-- the words before the breaking one are clean
before-clean : (before : List (List ℕ)) (word next : List ℕ) (more : List (List ℕ)) (message : List ℕ) → IsMessageBurst (before ++ next ∷ more) message → (i : ℕ) → i < length before
    → fault_at (before ++ word ∷ []) i ≡ None
before-clean before word next more message is i lt =
    let size : length before + length (next ∷ more) ≡ length (before ++ next ∷ more) = sym (length-append before (next ∷ more)) in
    fault_at-append before (word ∷ []) i lt ∙ sym (fault_at-append before (next ∷ more) i lt)
    ∙ subst (λ ws. (k : ℕ) → k < length ws → fault_at ws k ≡ None) (sym is.are_fragments) (fragments-clean message is.is_message) i (omega arith)

-- a void burst ends with its last word
void-ends : (words : List (List ℕ)) (fault : BurstFault) → IsVoidBurst words fault → IsBurst words × (burst_of words ≡ void_burst fault)
void-ends words fault void =
    let same : burst_of words ≡ void_burst fault = ap burst_of void.is ∙ broken-burst void.before void.word fault (before-clean void.before void.word void.next void.more void.message void.is_part)
    (ap (λ ws. fault_at ws (length void.before)) (sym void.is) ∙ void.breaks) in (
      record { ended = ap has_ended same; before = λ front word rest e. by_gap front (split_before void.before void.word front word rest (sym void.is ∙ e)) },
      same,
    )
  where
    by_gap : (front : List (List ℕ)) → (gap : List (List ℕ)) × (void.before ≡ front ++ gap) → is_burst front ≡ false
    by_gap front ([], e) = ap has_ended (front-goes front void.next void.more void.message (subst (λ ws. IsMessageBurst (ws ++ void.next ∷ void.more) void.message) (e
        ∙ append-nil front) void.is_part))
    by_gap front (g ∷ gap, e) = ap has_ended (front-goes front g (gap ++ void.next ∷ void.more) void.message (subst (λ ws. IsMessageBurst ws void.message) (append_assoc front (g ∷ gap) (void.next
        ∷ void.more)) (subst (λ ws. IsMessageBurst (ws ++ void.next ∷ void.more) void.message) e void.is_part)))

-- a list that has a last item
record Last (words : List (List ℕ)) : Type 0 where
  before : List (List ℕ)
  word : List ℕ
  is : words ≡ before ++ word ∷ []

last-of : (w : List ℕ) (words : List (List ℕ)) → Last (w ∷ words)
last-of w [] = record { before = []; word = w; is = refl }
last-of w (v ∷ words) = let more = last-of v words in record { before = w ∷ more.before; word = more.word; is = ap (λ ws. w ∷ ws) more.is }

-- a message burst or a void one
OneOf : List (List ℕ) → Type 0
OneOf words = ((message : List ℕ) × IsMessageBurst words message) ⊎ ((fault : BurstFault) × IsVoidBurst words fault)

-- an ended burst, by its last word
by-last : (before : List (List ℕ)) (word : List ℕ) → AreWords (before ++ word ∷ []) → IsBurst (before ++ word ∷ []) → OneOf (before ++ word ∷ [])
unfolding OneOf
by-last before word are ended = by_fault (fault_at (before ++ word ∷ []) (length before)) refl
  where
    size : length (before ++ word ∷ []) ≡ length before + 1
    size = length-append before (word ∷ [])

    still : NotYet is_burst before
    still front [] e = ended.before front word [] (ap (λ ws. ws ++ word ∷ []) (e ∙ append-nil front))
    still front (r ∷ rest) e = ended.before front r (rest ++ word ∷ []) (ap (λ ws. ws ++ word ∷ []) e ∙ append_assoc front (r ∷ rest) (word ∷ []))

    are_before : AreWords before
    are_before k d lt = subst IsWord (get_or_append_left before (word ∷ []) d k lt) (are k d (omega (arith, size, lt)))

    open_before : IsOpen before
    open_before = is-open before (still before [] (sym (append-nil before)))

    clean : (i : ℕ) → i < length before → fault_at (before ++ word ∷ []) i ≡ None
    clean i lt = fault_at-append before (word ∷ []) i lt ∙ open_before.clean i lt

    all_clean : fault_at (before ++ word ∷ []) (length before) ≡ None → (i : ℕ) → i < length (before ++ word ∷ []) → fault_at (before ++ word ∷ []) i ≡ None
    all_clean e i lt = by_place (nat_lt i (length before)) refl
      where
        by_place : (b : Bool) → nat_lt i (length before) ≡ b → fault_at (before ++ word ∷ []) i ≡ None
        by_place true few = clean i (ltb-true _ _ few)
        by_place false past = let place : length before ≡ i = omega (arith, size, lt, ltb-false _ _ past) in subst (λ k. fault_at (before ++ word ∷ []) k ≡ None) place e

    by_count : fault_at (before ++ word ∷ []) (length before) ≡ None → (b : Bool) → (word_count (nth_word (before ++ word ∷ []) (length (before ++ word ∷ []) - 1)) == 1) ≡ b
        → OneOf (before ++ word ∷ [])
    by_count e true one = inl (
      carried_message (before ++ word ∷ []),
      whole-IsMessageBurst (before ++ word ∷ []) (record {
        are_words = are;
        each = λ i lt. passes (before ++ word ∷ []) i (all_clean e i lt);
        some = omega (arith, size);
        last = eqb-true _ _ one;
      }),
    )
    by_count e false other = absurd (true≢false (sym ended.ended ∙ ap has_ended (clean-goes (before ++ word ∷ []) (all_clean e) (λ one. true≢false (sym (eq-eqb _ _ one) ∙ other)))))

    by_fault : (o : Option BurstFault) → fault_at (before ++ word ∷ []) (length before) ≡ o → OneOf (before ++ word ∷ [])
    by_fault (Some fault) e =
        let part = some-part before are_before still in
        inr (fault, record { before = before; word = word; is = refl; message = part.message; next = part.next; more = part.more; is_part = part.is_part; breaks = e })
    by_fault None e = by_count e (word_count (nth_word (before ++ word ∷ []) (length (before ++ word ∷ []) - 1)) == 1) refl

-- an ended burst is a message or void
one-of : (words : List (List ℕ)) → AreWords words → IsBurst words → OneOf words
unfolding OneOf
one-of [] are ended = absurd (true≢false (sym ended.ended ∙ nothing_yet (0 ∷ [])))
one-of (w ∷ words) are ended =
    let last = last-of w words in
    subst OneOf (sym last.is) (by-last last.before last.word (subst AreWords last.is are) (subst IsBurst last.is ended))

-- whether words broke a check
is_void : Burst → Bool
is_void goes_on = false
is_void (gave message) = false
is_void (void_burst fault) = true

-- a burst is not both
not-both : (words : List (List ℕ)) (message : List ℕ) (fault : BurstFault) → IsMessageBurst words message → IsVoidBurst words fault → ⊥
unfolding is_void
not-both words message fault is void = true≢false (sym (ap is_void (void-ends words fault void).1) ∙ ap is_void (message-ends words message is).1)

-- an ended burst is a message or void, as the computed burst says
pub message_or_void : (words : List (List ℕ)) → IsMessageOrVoid words
unfolding OneOf
message_or_void words = record { one = one-of words; message = message-ends words; void = void-ends words; not_both = not-both words }

-- a message fits the words of its burst
pub messages_fit : MessagesFit
messages_fit words message is =
    let size : length words ≡ fragment_count (length message) = ap length is.are_fragments ∙ length-fragments message in
    let fits : length message + 2 ≤ 15 * fragment_count (length message) = (enough (length message)).0 in
    omega arith
