-- Words of a burst that has not ended are a proper prefix of a message burst: zeros complete them.
use Rattle.std.proofs.Common.{◌≡◌, ℕ, zero, suc, ◌+◌, ◌-◌, ◌*◌, ◌/◌, ◌%◌, ◌<◌, ◌≤◌, Bool, true, false, cond, nat_lt, nat_le, ◌==◌, List, [], ◌∷◌, ◌++◌, length, take, drop, slice_index, replicate, Option, Some, None, filter_map, refl, sym, ap, ap₂, ◌∙◌, subst, arith, length-append, length-take-le, get_or-take, get_or-append-add, take-append-drop, mod-lt, ltb-true, ltb-false, eqb-true, eq-eqb, leb-true, true≢false, append-nil}
use Rattle.std.specs.List.{range_with_len, cons_option}
use mathlib.Core.List.{cons≢nil}
use Rattle.std.proofs.lemmas.List.{get_or_append_left, get_or_default}
use Rattle.std.proofs.lemmas.List.Elements.{All-append}
use Rattle.std.proofs.Math.Nat.{div-add-mod}
use Rattle.std.proofs.lemmas.Bool.{and_parts}
use Rattle.dc_spec.specs.Words.{IsWord, AreWords}
use Rattle.dc_spec.specs.Values.{word_count}
use Rattle.dc_station_rules.specs.Bursts.{IsMessageBurst, fragment_count, fragment, fragments, BurstFault, nth_word, carried, stated_length, count_fits, fault_at, burst_faults, goes_on, burst_by_faults, burst_of, gave, has_ended, carried_message}
use Rattle.dc_station_rules.specs.Grammar.{NotYet, is_burst}
use Rattle.dc_station_rules.proofs.BurstFaults.{LengthFits, Passes, passes, fault_at-append}
use Rattle.dc_station_rules.proofs.Carried.{byte-carried, enough, get_or-zeros}
use Rattle.dc_station_rules.proofs.MessageBursts.{Whole, count-at}
use Rattle.dc_station_rules.proofs.WholeBursts.{whole-IsMessageBurst}

-- places that give nothing, where the list of what they give is empty
none-filter : {A : Type 0} (h : ℕ → Option A) (a n i : ℕ) → filter_map h (range_with_len a n) ≡ [] → i < n → h (a + i) ≡ None
none-filter h a zero i e lt = absurd (omega arith)
none-filter {A = A} h a (suc n) i e lt = by_first (h a) refl e i lt (λ j r few. none-filter h (a + 1) n j r few)
  where
    by_first : (o : Option A) → h a ≡ o → cons_option o (filter_map h (range_with_len (a + 1) n)) ≡ [] → (i : ℕ) → i < suc n → ((j : ℕ) → filter_map h (range_with_len (a + 1) n) ≡ [] → j < n
        → h (a + 1 + j) ≡ None) → h (a + i) ≡ None
    by_first (Some x) is r i few again = absurd (cons≢nil r)
    by_first None is r zero few again = let place : a ≡ a + 0 = omega arith in subst (λ k. h k ≡ None) place is
    by_first None is r (suc i) few again = let place : a + 1 + i ≡ a + suc i = omega arith in subst (λ k. h k ≡ None) place (again i r (omega arith))

-- a burst that has not ended has no fault, and its last count is not 1
pub record IsOpen (words : List (List ℕ)) : Type 0 where
  pub clean : (i : ℕ) → i < length words → fault_at words i ≡ None
  pub not_last : word_count (nth_word words (length words - 1)) ≡ 1 → ⊥

pub is-open : (words : List (List ℕ)) → is_burst words ≡ false → IsOpen words
unfolding burst_of burst_faults
is-open words e = by_faults (burst_faults words) refl e
  where
    by_count : burst_faults words ≡ [] → (b : Bool) → (word_count (nth_word words (length words - 1)) == 1) ≡ b → has_ended (cond b (gave (carried_message words)) goes_on) ≡ false → IsOpen words
    by_count none true is r = absurd (true≢false r)
    by_count none false is r = record {
      clean = λ i lt. let place : 0 + i ≡ i = omega arith in subst (λ k. fault_at words k ≡ None) place (none-filter (fault_at words) 0 (length words) i none lt);
      not_last = λ one. true≢false (sym (eq-eqb _ _ one) ∙ is);
    }

    by_faults : (faults : List BurstFault) → burst_faults words ≡ faults → has_ended (burst_by_faults words faults) ≡ false → IsOpen words
    by_faults (fault ∷ faults) is r = absurd (true≢false r)
    by_faults [] is r = by_count is (word_count (nth_word words (length words - 1)) == 1) refl r

-- the last count of a front is the count at its place
front-count : (words : List (List ℕ)) (i : ℕ) → i < length words → word_count (nth_word (take (i + 1) words) (length (take (i + 1) words) - 1)) ≡ word_count (nth_word words i)
front-count words i lt =
    let size : length (take (i + 1) words) ≡ i + 1 = length-take-le (i + 1) words (omega arith) in
    let place : i + 1 - 1 ≡ i = omega arith in
    rw (size, place) (ap word_count (get_or-take (i + 1) words i [] (omega arith)))

-- no word of an open burst has count 1
not-one : (words : List (List ℕ)) → NotYet is_burst words → (i : ℕ) → i < length words → word_count (nth_word words i) ≡ 1 → ⊥
not-one words still i lt one = (is-open (take (i + 1) words) (still (take (i + 1) words) (drop (i + 1) words) (sym (take-append-drop (i + 1) words)))).not_last (front-count words i lt ∙ one)

-- each word of an open burst passes
pub open-passes : (words : List (List ℕ)) → NotYet is_burst words → (i : ℕ) → i < length words → Passes words i
open-passes words still i lt = passes words i ((is-open words (still words [] (sym (append-nil words)))).clean i lt)

-- a number above 0 that is not 1
above-one : (c : ℕ) → 1 ≤ c → (c ≡ 1 → ⊥) → 2 ≤ c
above-one zero some other = absurd (omega arith)
above-one (suc zero) some other = absurd (other refl)
above-one (suc (suc c)) some other = omega arith

-- and has a count of 2 or more
two-left : (words : List (List ℕ)) → NotYet is_burst words → (i : ℕ) → i < length words → 2 ≤ word_count (nth_word words i)
two-left words still zero lt =
    let fits : 1 ≤ word_count (nth_word words 0) = leb-true 1 (word_count (nth_word words 0)) (and_parts (nat_le 1 (word_count (nth_word words 0))) (nat_le (word_count (nth_word words 0)) 256)
    (open-passes words still zero lt).count).0 in
    let other : word_count (nth_word words 0) ≡ 1 → ⊥ = not-one words still 0 lt in
    above-one _ fits other
two-left words still (suc i) lt =
    let before : 2 ≤ word_count (nth_word words i) = two-left words still i (omega arith) in
    let step : word_count (nth_word words (suc i)) + 1 ≡ word_count (nth_word words i) = eqb-true _ _ (open-passes words still (suc i) lt).count in
    let other : word_count (nth_word words (suc i)) ≡ 1 → ⊥ = not-one words still (suc i) lt in
    above-one _ (omega arith) other

-- words of zeros with falling counts
countdown : ℕ → List (List ℕ)
countdown zero = []
countdown (suc n) = (suc n ∷ replicate 15 0) ∷ countdown n

length-countdown : (n : ℕ) → length (countdown n) ≡ n
unfolding countdown
length-countdown zero = refl
length-countdown (suc n) = ap suc (length-countdown n)

countdown-at : (n j : ℕ) → j < n → nth_word (countdown n) j ≡ (n - j) ∷ replicate 15 0
unfolding countdown
countdown-at zero j lt = absurd (omega arith)
countdown-at (suc n) zero lt = ap (λ c. c ∷ replicate 15 0) (let same : suc n ≡ suc n - 0 = omega arith in same)
countdown-at (suc n) (suc j) lt = countdown-at n j (omega arith) ∙ ap (λ c. c ∷ replicate 15 0) (let same : n - j ≡ suc n - suc j = omega arith in same)

zeros-at : (c l : ℕ) → slice_index (c ∷ replicate 15 0) (1 + l) ≡ 0
zeros-at c l = let place : 1 + l ≡ suc l = omega arith in rw place (get_or-zeros 15 l)

countdown-AreWords : (n : ℕ) → n ≤ 256 → AreWords (countdown n)
countdown-AreWords n le j d lt =
    let size : length (countdown n) ≡ n = length-countdown n in
    let few : j < n = subst (λ k. j < k) size lt in
    subst IsWord (sym (get_or_default (countdown n) j d [] lt ∙ countdown-at n j few)) (record { sixteen = refl; symbols = symbol (n - j) (omega arith) })
  where
    symbol : (c : ℕ) → c ≤ 256 → (l : ℕ) → slice_index (c ∷ replicate 15 0) l < 65537
    symbol c le zero = omega arith
    symbol c le (suc l) = let next : 1 + l ≡ suc l = omega arith in subst (λ x. x < 65537) (sym (ap (slice_index (c ∷ replicate 15 0)) (sym next) ∙ zeros-at c l)) (omega arith)

-- an open burst and the zeros that complete it
record Completes (words : List (List ℕ)) (more : ℕ) : Type 0 where
  still : NotYet is_burst words
  are_words : AreWords words
  some : 0 < length words
  first_is : word_count (nth_word words 0) ≡ length words + more
  low_first : word_count (nth_word words 0) ≤ 256
  one_more : 1 ≤ more

full : List (List ℕ) → ℕ → List (List ℕ)
full words more = words ++ countdown more

full-size : (words : List (List ℕ)) (more : ℕ) → length (full words more) ≡ length words + more
unfolding full
full-size words more = length-append words (countdown more) ∙ ap (λ n. length words + n) (length-countdown more)

full-left : (words : List (List ℕ)) (more i : ℕ) → i < length words → nth_word (full words more) i ≡ nth_word words i
unfolding full
full-left words more i lt = get_or_append_left words (countdown more) [] i lt

full-right : (words : List (List ℕ)) (more j : ℕ) → j < more → nth_word (full words more) (length words + j) ≡ (more - j) ∷ replicate 15 0
unfolding full
full-right words more j lt = get_or-append-add words (countdown more) j [] ∙ countdown-at more j lt

-- a place past the words is one of the zeros
full-past : (words : List (List ℕ)) (more i : ℕ) → length words ≤ i → i < length words + more → nth_word (full words more) i ≡ (length words + more - i) ∷ replicate 15 0
full-past words more i le lt =
    let place : length words + (i - length words) ≡ i = omega arith in
    let count : more - (i - length words) ≡ length words + more - i = omega arith in
    ap (nth_word (full words more)) (sym place) ∙ full-right words more (i - length words) (omega arith) ∙ ap (λ c. c ∷ replicate 15 0) count

-- the count of word i
full-count : (words : List (List ℕ)) (more : ℕ) → Completes words more → (i : ℕ) → i < length words + more → word_count (nth_word (full words more) i) + i ≡ length words + more
full-count words more is i lt = by_place (nat_lt i (length words)) refl
  where
    by_place : (b : Bool) → nat_lt i (length words) ≡ b → word_count (nth_word (full words more) i) + i ≡ length words + more
    by_place true few =
        let same : word_count (nth_word (full words more) i) ≡ word_count (nth_word words i) = ap word_count (full-left words more i (ltb-true _ _ few)) in
        let counts : word_count (nth_word words i) + i ≡ word_count (nth_word words 0) = count-at words (open-passes words is.still) i (ltb-true _ _ few) in
        let first : word_count (nth_word words 0) ≡ length words + more = is.first_is in
        omega arith
    by_place false past =
        let same : word_count (nth_word (full words more) i) ≡ length words + more - i = ap word_count (full-past words more i (ltb-false _ _ past) lt) in
        omega arith

-- the told length stays
full-told : (words : List (List ℕ)) (more : ℕ) → Completes words more → stated_length (full words more) ≡ stated_length words
full-told words more is = ap (λ (w : List ℕ). slice_index w 1 * 256 + slice_index w 2) (full-left words more 0 is.some)

-- a byte past the message lies in the last word
in-last : (q r t i w n : ℕ) → 15 * q + r ≡ t → r < 15 → 15 * w < n + 17 → i + 1 ≡ w → n + 2 ≤ t → t < 15 * (i + 1) → q ≡ i
in-last q r t i w n all less fit last from below = omega arith

-- the words that were there are clean still
first-clean : (words : List (List ℕ)) (more : ℕ) → Completes words more → (i : ℕ) → i < length words → fault_at (full words more) i ≡ None
unfolding full
first-clean words more is i lt = fault_at-append words (countdown more) i lt ∙ (is-open words (is.still words [] (sym (append-nil words)))).clean i lt

-- the bytes past the message are zeros in the last word
full-padding : (words : List (List ℕ)) (more : ℕ) → Completes words more → (i : ℕ) → i < length words + more → length words ≤ i → word_count (nth_word (full words more) i) ≡ 1
    → (at : ℕ) → at < 15 * (i + 1) - (stated_length (full words more) + 2) → slice_index (carried (take (i + 1) (full words more))) (stated_length (full words more) + 2 + at) ≡ 0
full-padding words more is i below past one at few = by_place (stated_length (full words more) + 2 + at) refl
  where
    by_place : (t : ℕ) → stated_length (full words more) + 2 + at ≡ t → slice_index (carried (take (i + 1) (full words more))) t ≡ 0
    by_place t e =
        let counts : word_count (nth_word (full words more) i) + i ≡ length words + more = full-count words more is i below in
        let tell : stated_length (full words more) ≡ stated_length words = full-told words more is in
        let first : word_count (nth_word words 0) ≡ length words + more = is.first_is in
        let needs : fragment_count (stated_length words) ≡ word_count (nth_word words 0) = (open-passes words is.still 0 is.some).told in
        let fit : 15 * fragment_count (stated_length words) < stated_length words + 17 = (enough (stated_length words)).1 in
        let all : 15 * (t / 15) + t % 15 ≡ t = div-add-mod t 15 in
        let less : t % 15 < 15 = mod-lt t (omega arith) in
        let place : t / 15 ≡ i = in-last (t / 15) (t % 15) t i (fragment_count (stated_length words)) (stated_length words) all less fit (omega arith) (omega arith) (omega arith) in
        let next : t % 15 + 1 ≡ 1 + t % 15 = omega arith in
        let last : nth_word (take (i + 1) (full words more)) i ≡ nth_word (full words more) i = get_or-take (i + 1) (full words more) i [] (omega arith) in
        byte-carried (take (i + 1) (full words more)) t
        ∙ ap₂ (λ q r. slice_index (nth_word (take (i + 1) (full words more)) q) r) place next
        ∙ ap (λ w. slice_index w (1 + t % 15)) (last ∙ full-past words more i past below)
        ∙ zeros-at (length words + more - i) (t % 15)

-- the zeros are words too
full-AreWords : (words : List (List ℕ)) (more : ℕ) → AreWords words → more ≤ 256 → AreWords (full words more)
unfolding full
full-AreWords words more are le = All-append IsWord words (countdown more) are (countdown-AreWords more le)

-- each word of them passes
full-passes : (words : List (List ℕ)) (more : ℕ) → Completes words more → (i : ℕ) → i < length (full words more) → Passes (full words more) i
full-passes words more is i lt = by_place (nat_lt i (length words)) refl
  where
    size : length (full words more) ≡ length words + more
    size = full-size words more

    below : i < length words + more
    below = subst (λ n. i < n) size lt

    fits : (k : ℕ) → length words ≤ k → k < length words + more → count_fits (full words more) k ≡ true
    fits zero le few = let some : 0 < length words = is.some in absurd (omega arith)
    fits (suc k) le few =
        let here : word_count (nth_word (full words more) (suc k)) + suc k ≡ length words + more = full-count words more is (suc k) few in
        let before : word_count (nth_word (full words more) k) + k ≡ length words + more = full-count words more is k (omega arith) in
        eq-eqb _ _ (omega arith)

    told : (k : ℕ) → length words ≤ k → LengthFits (full words more) k
    told zero le = let some : 0 < length words = is.some in absurd (omega arith)
    told (suc k) le = tt

    by_place : (b : Bool) → nat_lt i (length words) ≡ b → Passes (full words more) i
    by_place true few = passes (full words more) i (first-clean words more is i (ltb-true _ _ few))
    by_place false past = record {
      count = fits i (ltb-false _ _ past) below;
      limbs = λ l few. let word : nth_word (full words more) i ≡ (length words + more - i) ∷ replicate 15 0 = full-past words more i (ltb-false _ _ past) below in
          rw word (subst (λ x. x ≤ 255) (sym (zeros-at (length words + more - i) l)) (omega arith));
      told = told i (ltb-false _ _ past);
      padding = λ one at few. full-padding words more is i below (ltb-false _ _ past) one at few;
    }

-- words of an open burst are whole with the zeros that complete them
full-Whole : (words : List (List ℕ)) (more : ℕ) → Completes words more → Whole (full words more)
full-Whole words more is =
    let size : length (full words more) ≡ length words + more = full-size words more in
    let some : 0 < length words = is.some in
    let low : word_count (nth_word words 0) ≤ 256 = is.low_first in
    let first : word_count (nth_word words 0) ≡ length words + more = is.first_is in
    let counts : word_count (nth_word (full words more) (length words + more - 1)) + (length words + more - 1) ≡ length words + more = full-count words more is (length words + more - 1)
    (omega arith) in
    record { are_words = full-AreWords words more is.are_words (omega arith); each = full-passes words more is; some = omega arith; last = rw size (omega arith) }

-- an open burst of some words is a proper prefix of a message burst
pub record Part (words : List (List ℕ)) : Type 0 where
  pub message : List ℕ
  pub next : List ℕ
  pub more : List (List ℕ)
  pub is_part : IsMessageBurst (words ++ next ∷ more) message

pub some-part : (words : List (List ℕ)) → AreWords words → NotYet is_burst words → Part words
unfolding full countdown fragments fragment
some-part [] are still = record {
  message = [];
  next = fragment [] 0;
  more = [];
  is_part = record {
    is_message = record { most = omega arith; are_bytes = λ i d lt. omega arith };
    are_fragments =
        refl;
  };
}
some-part (word ∷ words) are still = by_more (word_count word - length (word ∷ words)) refl
  where
    low : word_count word ≤ 256
    low = leb-true (word_count word) 256 (and_parts (nat_le 1 (word_count word)) (nat_le (word_count word) 256) (open-passes (word ∷ words) still 0 (omega arith)).count).1

    counts : word_count (nth_word (word ∷ words) (length words)) + length words ≡ word_count word
    counts = count-at (word ∷ words) (open-passes (word ∷ words) still) (length words) (omega arith)

    two : 2 ≤ word_count (nth_word (word ∷ words) (length words))
    two = two-left (word ∷ words) still (length words) (omega arith)

    by_more : (more : ℕ) → word_count word - length (word ∷ words) ≡ more → Part (word ∷ words)
    by_more zero none = absurd (omega (arith, counts, two, none))
    by_more (suc more) some = record {
      message = carried_message (full (word ∷ words) (suc more));
      next = suc more ∷ replicate 15 0;
      more = countdown more;
      is_part = whole-IsMessageBurst (full (word ∷ words) (suc more)) (full-Whole (word ∷ words) (suc more) (record {
        still = still;
        are_words = are;
        some = omega arith;
        first_is = omega (arith, counts, two, some);
        low_first = low;
        one_more = omega arith;
      }));
    }
