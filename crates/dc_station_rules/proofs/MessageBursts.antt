-- The fragments of a message are judged as its burst, and words that are judged as a burst of a message are its fragments.
use Rattle.std.proofs.Common.{nat_le, ◌≡◌, ℕ, zero, suc, ◌+◌, ◌-◌, ◌*◌, ◌/◌, ◌%◌, ◌<◌, ◌≤◌, Bool, true, false, List, [], ◌∷◌, ◌++◌, length, take, drop, get_or, slice_index, Option, Some, None, filter_map, cond, ◌==◌, length-take, length-drop, refl, sym, ap, ap₂, ◌∙◌, subst, arith, length-append, take_at, mod-lt, eqb-true, eq-eqb, leb-true, le-leb, ne_eqb, ext_get_or, take_all}
use Rattle.std.specs.List.{range_with_len}
use Rattle.std.proofs.Math.Nat.{div-add-mod}
use Rattle.std.proofs.lemmas.List.{get_or_append_left}
use Rattle.std.proofs.lemmas.Bool.{and_parts}
use Rattle.dc_spec.specs.Words.{AreWords}
use Rattle.dc_spec.specs.Bytes.{short_at}
use Rattle.dc_spec.specs.Values.{word_count}
use Rattle.dc_spec.specs.Entries.{IsMessage}
use Rattle.dc_station_rules.specs.Bursts.{IsMessageBurst, fragment_count, burst_bytes, fragment, fragments, BurstFault, nth_word, carried, stated_length, count_fits, fault_at, burst_faults, goes_on, gave, void_burst, carried_message, burst_by_faults, burst_of}
use Rattle.dc_station_rules.proofs.BurstFaults.{LengthFits, Passes, no-fault, fault_at-append}
use Rattle.dc_station_rules.proofs.Carried.{length-carried, byte-carried, enough, length-burst_bytes, word_at-fragments, length-fragments, fragment-limb, told-bytes, zero-byte, burst-byte}

-- how many fragments a message has: 1 to 256
some-fragments : (message : List ℕ) → IsMessage message → (1 ≤ fragment_count (length message)) × (fragment_count (length message) ≤ 256)
some-fragments message is =
    let fits = enough (length message) in let a = fits.0 in let b = fits.1 in let most : length message ≤ 3838 = is.most in
    (omega arith, omega arith)

-- the count of a fragment
fragment-count : (message : List ℕ) (i : ℕ) → i < fragment_count (length message) → word_count (nth_word (fragments message) i) ≡ fragment_count (length message) - i
unfolding fragment
fragment-count message i lt = ap word_count (word_at-fragments message i lt)

-- the length that the fragments tell
fragments-tell : (message : List ℕ) → IsMessage message → stated_length (fragments message) ≡ length message
fragments-tell message is =
    let most : length message ≤ 3838 = is.most in
    let some = (some-fragments message is).0 in
    ap (λ w. short_at w 1) (word_at-fragments message 0 some)
    ∙ ap₂ (λ a b. a * 256 + b) (fragment-limb message 0 0 (omega arith)) (fragment-limb message 0 1 (omega arith))
    ∙ told-bytes message (omega arith)

-- the bytes that fragments carry
fragments-carry : (message : List ℕ) (k : ℕ) → k < 15 * fragment_count (length message) → get_or (carried (fragments message)) k 0 ≡ get_or (burst_bytes message) k 0
fragments-carry message k lt =
    let all : 15 * (k / 15) + k % 15 ≡ k = div-add-mod k 15 in
    let less : k % 15 < 15 = mod-lt k (omega arith) in
    byte-carried (fragments message) k
    ∙ ap (λ w. slice_index w (k % 15 + 1)) (word_at-fragments message (k / 15) (omega arith))
    ∙ fragment-limb message (k / 15) (k % 15) less
    ∙ ap (λ p. get_or (burst_bytes message) p 0) all

-- the counts of fragments fit
fragment-fits : (message : List ℕ) → IsMessage message → (i : ℕ) → i < fragment_count (length message) → count_fits (fragments message) i ≡ true
fragment-fits message is zero lt = let some = some-fragments message is in
    rw (fragment-count message 0 lt, le-leb 1 (fragment_count (length message) - 0) (omega arith)) (le-leb (fragment_count (length message) - 0) 256 (omega arith))
fragment-fits message is (suc i) lt = rw (fragment-count message (suc i) lt, fragment-count message i (omega arith)) (eq-eqb _ _ (omega arith))

-- the length fits
fragment-told : (message : List ℕ) → IsMessage message → (i : ℕ) → i < fragment_count (length message) → LengthFits (fragments message) i
fragment-told message is zero lt = let all : fragment_count (length message) ≡ fragment_count (length message) - 0 = omega arith in ap fragment_count (fragments-tell message is) ∙ all
    ∙ sym (fragment-count message 0 lt)
fragment-told message is (suc i) lt = tt

-- each fragment breaks no check
fragment-passes : (message : List ℕ) → IsMessage message → (i : ℕ) → i < fragment_count (length message) → Passes (fragments message) i
fragment-passes message is i lt = record {
  count = fragment-fits message is i lt;
  limbs = λ l few.
      let next : 1 + l ≡ l + 1 = omega arith in
      let byte : get_or (burst_bytes message) (15 * i + l) 0 < 256 = burst-byte message is (15 * i + l) in
      let same : slice_index (nth_word (fragments message) i) (l + 1) ≡ get_or (burst_bytes message) (15 * i + l) 0 = ap (λ w. slice_index w (l + 1)) (word_at-fragments message i lt)
      ∙ fragment-limb message i l few in
      rw (next, same) (omega arith);
  told = fragment-told message is i lt;
  padding = λ one at few.
      let last : fragment_count (length message) - i ≡ 1 = sym (fragment-count message i lt) ∙ one in
      let tell : stated_length (fragments message) ≡ length message = fragments-tell message is in
      let size : length (fragments message) ≡ fragment_count (length message) = length-fragments message in
      let whole : take (i + 1) (fragments message) ≡ fragments message = take_all (i + 1) (fragments message) (omega arith) in
      let place : length message + 2 + at ≡ 2 + (length message + at) = omega arith in
      let few_left : at < 15 * (i + 1) - (length message + 2) = subst (λ n. at < 15 * (i + 1) - (n + 2)) tell few in
      rw (tell, whole) (fragments-carry message (length message + 2 + at) (omega arith) ∙ ap (λ p. get_or (burst_bytes message) p 0) place ∙ zero-byte message (length message + at) (omega arith));
}

-- places that give nothing
filter-none : {A : Type 0} (h : ℕ → Option A) (a n : ℕ) → ((i : ℕ) → i < n → h (a + i) ≡ None) → filter_map h (range_with_len a n) ≡ []
filter-none h a zero each = refl
filter-none h a (suc n) each =
    let here : h a ≡ None = let place : a + 0 ≡ a = omega arith in subst (λ k. h k ≡ None) place (each 0 (omega arith)) in
    rw here (filter-none h (a + 1) n (λ i lt. let place : a + suc i ≡ a + 1 + i = omega arith in subst (λ k. h k ≡ None) place (each (suc i) (omega arith))))

-- places of which the last gives something
filter-last : {A : Type 0} (h : ℕ → Option A) (a n : ℕ) (x : A) → ((i : ℕ) → i < n → h (a + i) ≡ None) → h (a + n) ≡ Some x → filter_map h (range_with_len a (suc n)) ≡ x ∷ []
filter-last h a zero x each last = let here : h a ≡ Some x = let place : a + 0 ≡ a = omega arith in subst (λ k. h k ≡ Some x) place last in rw here
filter-last h a (suc n) x each last =
    let here : h a ≡ None = let place : a + 0 ≡ a = omega arith in subst (λ k. h k ≡ None) place (each 0 (omega arith)) in
    let end : h (a + 1 + n) ≡ Some x = let place : a + suc n ≡ a + 1 + n = omega arith in subst (λ k. h k ≡ Some x) place last in
    rw here (filter-last h (a + 1) n x (λ i lt. let place : a + suc i ≡ a + 1 + i = omega arith in subst (λ k. h k ≡ None) place (each (suc i) (omega arith))) end)

-- words without a fault
pub clean-burst : (words : List (List ℕ)) → ((i : ℕ) → i < length words → fault_at words i ≡ None) → burst_of words ≡ burst_by_faults words []
unfolding burst_of burst_faults
clean-burst words each = ap (burst_by_faults words) (filter-none (fault_at words) 0 (length words) (λ i lt. let place : i ≡ 0 + i = omega arith in subst (λ k. fault_at words k ≡ None) place
    (each i lt)))

-- words of which the last breaks a check first
pub broken-burst : (before : List (List ℕ)) (word : List ℕ) (fault : BurstFault) → ((i : ℕ) → i < length before → fault_at (before ++ word ∷ []) i ≡ None) → fault_at (before ++ word ∷ [])
    (length before) ≡ Some fault → burst_of (before ++ word ∷ []) ≡ void_burst fault
unfolding burst_of burst_faults
broken-burst before word fault each last =
    let size : length (before ++ word ∷ []) ≡ suc (length before) = length-append before (word ∷ []) ∙ omega arith in
    rw (ap (λ n. filter_map (fault_at (before ++ word ∷ [])) (range_with_len 0 n)) size
    ∙ filter-last (fault_at (before ++ word ∷ [])) 0 (length before) fault
    (λ i lt. let place : i ≡ 0 + i = omega arith in subst (λ k. fault_at (before ++ word ∷ []) k ≡ None) place (each i lt))
    (let place : length before ≡ 0 + length before = omega arith in subst (λ k. fault_at (before ++ word ∷ []) k ≡ Some fault) place last))

-- words without a fault whose last count is 1, and whose last count is another
pub clean-ends : (words : List (List ℕ)) → ((i : ℕ) → i < length words → fault_at words i ≡ None) → word_count (nth_word words (length words - 1)) ≡ 1 → burst_of words ≡ gave (carried_message words)
clean-ends words each one = clean-burst words each ∙ (rw (eq-eqb _ _ one))

pub clean-goes : (words : List (List ℕ)) → ((i : ℕ) → i < length words → fault_at words i ≡ None) → (word_count (nth_word words (length words - 1)) ≡ 1 → ⊥) → burst_of words ≡ goes_on
clean-goes words each other = clean-burst words each ∙ (rw (ne_eqb _ _ other))

-- the bytes that the fragments carry are those of the burst
fragments-carry-all : (message : List ℕ) → carried (fragments message) ≡ burst_bytes message
fragments-carry-all message =
    let size : length (carried (fragments message)) ≡ 15 * fragment_count (length message) = length-carried (fragments message) ∙ ap (λ n. 15 * n) (length-fragments message) in
    ext_get_or 0 (carried (fragments message)) (burst_bytes message) (size ∙ sym (length-burst_bytes message)) (λ k lt. fragments-carry message k (subst (λ n. k < n) size lt))

-- and so the message
fragments-message : (message : List ℕ) → IsMessage message → carried_message (fragments message) ≡ message
fragments-message message is =
    ap₂ (λ n bytes. take n (drop 2 bytes)) (fragments-tell message is) (fragments-carry-all message)
    ∙ take_at message _ (length message) refl

-- no fragment is faulty
pub fragments-clean : (message : List ℕ) → IsMessage message → (i : ℕ) → i < length (fragments message) → fault_at (fragments message) i ≡ None
fragments-clean message is i lt = no-fault (fragments message) i (fragment-passes message is i (subst (λ n. i < n) (length-fragments message) lt))

-- the fragments of a message give it
pub fragments-give : (message : List ℕ) → IsMessage message → burst_of (fragments message) ≡ gave message
fragments-give message is =
    let some = some-fragments message is in
    let size : length (fragments message) ≡ fragment_count (length message) = length-fragments message in
    let last : word_count (nth_word (fragments message) (length (fragments message) - 1)) ≡ 1 = rw size (fragment-count message (fragment_count (length message) - 1) (omega arith) ∙ omega arith) in
    clean-ends (fragments message) (fragments-clean message is) last ∙ ap gave (fragments-message message is)

-- a proper front of them does not end in a count of 1
front-last : (front : List (List ℕ)) (word : List ℕ) (rest : List (List ℕ)) (message : List ℕ) → front ++ word ∷ rest ≡ fragments message → word_count (nth_word front (length front - 1)) ≡ 1 → ⊥
front-last [] word rest message is one = absurd (omega arith)
front-last (f ∷ front) word rest message is one =
    let size : suc (length front) + suc (length rest) ≡ fragment_count (length message) = sym (length-append (f ∷ front) (word ∷ rest)) ∙ ap length is ∙ length-fragments message in
    let place : suc (length front) - 1 ≡ length front = omega arith in
    let count : word_count (nth_word (f ∷ front) (length front)) ≡ fragment_count (length message) - length front =
    ap word_count (sym (get_or_append_left (f ∷ front) (word ∷ rest) [] (length front) (omega arith)))
    ∙ ap (λ ws. word_count (nth_word ws (length front))) is
    ∙ fragment-count message (length front) (omega arith) in
    let same : word_count (nth_word (f ∷ front) (length front)) ≡ 1 = rw place at one in
    omega arith

-- a proper front of them goes on
pub front-goes : (front : List (List ℕ)) (word : List ℕ) (rest : List (List ℕ)) (message : List ℕ) → IsMessageBurst (front ++ word ∷ rest) message → burst_of front ≡ goes_on
front-goes front word rest message is =
    let size : length front + length (word ∷ rest) ≡ length (fragments message) = sym (length-append front (word ∷ rest)) ∙ ap length is.are_fragments in
    clean-goes front
    (λ i lt. sym (fault_at-append front (word ∷ rest) i lt) ∙ ap (λ ws. fault_at ws i) is.are_fragments ∙ fragments-clean message is.is_message i (omega arith))
    (front-last front word rest message is.are_fragments)

-- the count of word i, where the words before it and it pass
pub count-at : (words : List (List ℕ)) → ((i : ℕ) → i < length words → Passes words i) → (i : ℕ) → i < length words → word_count (nth_word words i) + i ≡ word_count (nth_word words 0)
count-at words each zero lt = omega arith
count-at words each (suc i) lt =
    let before : word_count (nth_word words i) + i ≡ word_count (nth_word words 0) = count-at words each i (omega arith) in
    let step : word_count (nth_word words (suc i)) + 1 ≡ word_count (nth_word words i) = eqb-true _ _ (each (suc i) lt).count in
    omega arith

-- the words of a burst that has its last word
pub record Whole (words : List (List ℕ)) : Type 0 where
  pub are_words : AreWords words
  pub each : (i : ℕ) → i < length words → Passes words i
  pub some : 0 < length words
  pub last : word_count (nth_word words (length words - 1)) ≡ 1

-- the number of words is the first count, from 1 to 256, and the count that the told length needs
pub whole-size : (words : List (List ℕ)) → Whole words → (word_count (nth_word words 0) ≡ length words) × (length words ≤ 256) × (fragment_count (stated_length words) ≡ length words)
whole-size words is =
    let some : 0 < length words = is.some in
    let counts : word_count (nth_word words (length words - 1)) + (length words - 1) ≡ word_count (nth_word words 0) = count-at words is.each (length words - 1) (omega arith) in
    let last : word_count (nth_word words (length words - 1)) ≡ 1 = is.last in
    let same : word_count (nth_word words 0) ≡ length words = omega arith in
    let most : word_count (nth_word words 0) ≤ 256 = leb-true (word_count (nth_word words 0)) 256 (and_parts (nat_le 1 (word_count (nth_word words 0))) (nat_le (word_count (nth_word words 0)) 256)
    (is.each 0 some).count).1 in
    (same, omega arith, (is.each 0 some).told ∙ same)

-- no words go on
pub none_go_on : burst_of [] ≡ goes_on
unfolding burst_of burst_faults
none_go_on = refl

-- a burst that gave a message
judged_whole : (words : List (List ℕ)) (faults : List BurstFault) (message : List ℕ) → burst_by_faults words faults ≡ gave message → (carried_message words ≡ message) × (1 ≤ length words)
judged_whole words (fault ∷ faults) message e = absurd cc
judged_whole [] [] message e = absurd cc
judged_whole (word ∷ words) [] message e = by_test (word_count (nth_word (word ∷ words) (length (word ∷ words) - 1)) == 1) e
  where
    by_test : (b : Bool) → cond b (gave (carried_message (word ∷ words))) goes_on ≡ gave message → (carried_message (word ∷ words) ≡ message) × (1 ≤ length (word ∷ words))
    by_test true e = (cc, omega arith)
    by_test false e = absurd cc

-- its length
pub short_message : (words : List (List ℕ)) (message : List ℕ) → burst_of words ≡ gave message → length message + 2 ≤ 15 * length words
unfolding burst_of
short_message words message e =
    let whole = judged_whole words (burst_faults words) message e in
    let some : 1 ≤ length words = whole.1 in
    let size : length (carried_message words) ≡ length message = ap (λ (m : List ℕ). length m) whole.0 in
    omega (arith, length-carried words, length-take (stated_length words) (drop 2 (carried words)), length-drop 2 (carried words))
