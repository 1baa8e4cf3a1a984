-- Words that pass all checks up to a last word are the fragments of the message that they carry.
use Rattle.std.proofs.Common.{◌≡◌, ℕ, zero, suc, ◌+◌, ◌-◌, ◌*◌, ◌/◌, ◌%◌, ◌<◌, ◌≤◌, Bool, true, false, nat_lt, List, [], ◌∷◌, length, take, drop, get_or, slice_index, refl, sym, ap, ap₂, ◌∙◌, subst, arith, length-drop, get_or-drop, get_or-take, mod-lt, ltb-true, ltb-false, w16, ext_get_or, take_all, length-take-le}
use Rattle.std.specs.Int.{to_be_bytes}
use Rattle.std.proofs.lemmas.Nat.{be_bytes_2}
use Rattle.std.proofs.lemmas.List.{get_or_default, get_or_past}
use Rattle.dc_spec.specs.Values.{word_count}
use Rattle.dc_spec.specs.Entries.{IsMessage}
use Rattle.dc_station_rules.specs.Bursts.{IsMessageBurst, fragment_count, burst_bytes, fragment, fragments, nth_word, carried, stated_length, carried_message}
use Rattle.dc_station_rules.proofs.Carried.{length-carried, get_or-carried, byte-carried, enough, length-burst_bytes, word_at-fragments, length-fragments, length-fragment, fragment-limb, message-byte, zero-byte}
use Rattle.dc_station_rules.proofs.MessageBursts.{Whole, whole-size, count-at}

-- the told length fits the words
told-fits : (words : List (List ℕ)) → Whole words → (stated_length words + 2 ≤ 15 * length words) × (15 * length words < stated_length words + 17)
told-fits words is = subst (λ n. (stated_length words + 2 ≤ 15 * n) × (15 * n < stated_length words + 17)) (whole-size words is).2 (enough (stated_length words))

-- each carried byte is one
byte-small : (words : List (List ℕ)) → Whole words → (k : ℕ) → get_or (carried words) k 0 < 256
byte-small words is k = subst (λ x. x < 256) (sym (byte-carried words k)) (by_word (nat_lt (k / 15) (length words)) refl)
  where
    by_word : (b : Bool) → nat_lt (k / 15) (length words) ≡ b → slice_index (nth_word words (k / 15)) (k % 15 + 1) < 256
    by_word true lt =
        let next : k % 15 + 1 ≡ 1 + k % 15 = omega arith in
        let limb : slice_index (nth_word words (k / 15)) (1 + k % 15) ≤ 255 = (is.each (k / 15) (ltb-true _ _ lt)).limbs (k % 15) (mod-lt k (omega arith)) in
        rw next (omega arith)
    by_word false le =
        let past : nth_word words (k / 15) ≡ [] = get_or_past words (k / 15) [] (ltb-false _ _ le) in
        subst (λ w. slice_index w (k % 15 + 1) < 256) (sym past) (omega arith)

-- the first two carried bytes are the told length
two-bytes : (words : List (List ℕ)) → Whole words → to_be_bytes w16 (stated_length words) ≡ get_or (carried words) 0 0 ∷ get_or (carried words) 1 0 ∷ []
two-bytes words is = be_bytes_2 (get_or (carried words) 0 0 ∷ get_or (carried words) 1 0 ∷ []) (stated_length words) refl each
    (ap₂ (λ a b. a * 256 + b) (sym (get_or-carried words 0 0 (omega arith))) (sym (get_or-carried words 0 1 (omega arith))))
  where
    each : (i : ℕ) → get_or (get_or (carried words) 0 0 ∷ get_or (carried words) 1 0 ∷ []) i 0 < 256
    each zero = byte-small words is 0
    each (suc zero) = byte-small words is 1
    each (suc (suc i)) = omega arith

-- the carried bytes after the message are zeros
zeros-after : (words : List (List ℕ)) → Whole words → (k : ℕ) → stated_length words + 2 ≤ k → k < 15 * length words → get_or (carried words) k 0 ≡ 0
zeros-after words is k le lt =
    let some : 0 < length words = is.some in
    let whole : take (length words - 1 + 1) words ≡ words = take_all (length words - 1 + 1) words (omega arith) in
    let place : stated_length words + 2 + (k - (stated_length words + 2)) ≡ k = omega arith in
    let last = (is.each (length words - 1) (omega arith)).padding is.last (k - (stated_length words + 2)) (omega arith) in
    subst (λ p. get_or (carried words) p 0 ≡ 0) place (subst (λ ws. get_or (carried ws) (stated_length words + 2 + (k - (stated_length words + 2))) 0 ≡ 0) whole last)

-- the carried message has the told length
message-size : (words : List (List ℕ)) → Whole words → length (carried_message words) ≡ stated_length words
message-size words is =
    let fits = (told-fits words is).0 in
    length-take-le (stated_length words) (drop 2 (carried words)) (rw (length-drop 2 (carried words), length-carried words) (omega arith))

-- and its bytes are carried after the first two
message-carried : (words : List (List ℕ)) → Whole words → (k : ℕ) → k < stated_length words → get_or (carried_message words) k 0 ≡ get_or (carried words) (2 + k) 0
message-carried words is k lt = get_or-take (stated_length words) (drop 2 (carried words)) k 0 lt ∙ get_or-drop 2 (carried words) k 0

-- it is a message
carried-IsMessage : (words : List (List ℕ)) → Whole words → IsMessage (carried_message words)
carried-IsMessage words is = record {
  most = let size = message-size words is in let fit = (told-fits words is).0 in let most = (whole-size words is).1 in rw size (omega arith);
  are_bytes = λ k d lt. let told : k < stated_length words = subst (λ n. k < n) (message-size words is) lt in
      rw (get_or_default (carried_message words) k d 0 lt) (subst (λ x. x < 256) (sym (message-carried words is k told)) (byte-small words is (2 + k)));
}

-- the bytes of the burst of the carried message are the carried bytes
carried-again : (words : List (List ℕ)) → Whole words → burst_bytes (carried_message words) ≡ carried words
carried-again words is = ext_get_or 0 (burst_bytes (carried_message words)) (carried words) sizes bytes
  where
    same : length (carried_message words) ≡ stated_length words
    same = message-size words is

    needs : 15 * fragment_count (length (carried_message words)) ≡ 15 * length words
    needs = ap (λ n. 15 * fragment_count n) same ∙ ap (λ n. 15 * n) (whole-size words is).2

    sizes : length (burst_bytes (carried_message words)) ≡ length (carried words)
    sizes = length-burst_bytes (carried_message words) ∙ needs ∙ sym (length-carried words)

    by_place : (k : ℕ) → k + 2 < 15 * length words → (b : Bool) → nat_lt k (stated_length words) ≡ b → get_or (burst_bytes (carried_message words)) (2 + k) 0 ≡ get_or (carried words) (2 + k) 0
    by_place k few true lt = message-byte (carried_message words) k (subst (λ n. k < n) (sym same) (ltb-true _ _ lt)) ∙ message-carried words is k (ltb-true _ _ lt)
    by_place k few false le =
        let past : stated_length words ≤ k = ltb-false _ _ le in
        zero-byte (carried_message words) k (subst (λ n. n ≤ k) (sym same) past) ∙ sym (zeros-after words is (2 + k) (omega arith) (omega arith))

    bytes : (k : ℕ) → k < length (burst_bytes (carried_message words)) → get_or (burst_bytes (carried_message words)) k 0 ≡ get_or (carried words) k 0
    bytes zero lt = ap (λ n. get_or (to_be_bytes w16 n) 0 0) same ∙ ap (λ l. get_or l 0 0) (two-bytes words is)
    bytes (suc zero) lt = ap (λ n. get_or (to_be_bytes w16 n) 1 0) same ∙ ap (λ l. get_or l 1 0) (two-bytes words is)
    bytes (suc (suc k)) lt =
        let place : 2 + k ≡ suc (suc k) = omega arith in
        let all : length (burst_bytes (carried_message words)) ≡ 15 * length words = length-burst_bytes (carried_message words) ∙ needs in
        let few : k + 2 < 15 * length words = omega arith in
        subst (λ p. get_or (burst_bytes (carried_message words)) p 0 ≡ get_or (carried words) p 0) place (by_place k few (nat_lt k (stated_length words)) refl)

-- each symbol of a word of them is that of the fragment
symbol-same : (words : List (List ℕ)) → Whole words → (i : ℕ) → i < length words → (l : ℕ) → l < 16 → slice_index (nth_word words i) l ≡ slice_index (fragment (carried_message words) i) l
unfolding fragment
symbol-same words is i lt zero few =
    let counts : word_count (nth_word words i) + i ≡ word_count (nth_word words 0) = count-at words is.each i lt in
    let first : word_count (nth_word words 0) ≡ length words = (whole-size words is).0 in
    let needs : fragment_count (length (carried_message words)) ≡ length words = ap fragment_count (message-size words is) ∙ (whole-size words is).2 in
    rw needs (omega arith)
symbol-same words is i lt (suc r) few =
    let next : r + 1 ≡ suc r = omega arith in
    let low : r < 15 = omega arith in
    subst (λ l. slice_index (nth_word words i) l ≡ slice_index (fragment (carried_message words) i) l) next
    (sym (get_or-carried words i r low) ∙ sym (ap (λ bytes. get_or bytes (15 * i + r) 0) (carried-again words is)) ∙ sym (fragment-limb (carried_message words) i r low))

-- words that pass up to a last word are the fragments of the message that they carry
pub whole-IsMessageBurst : (words : List (List ℕ)) → Whole words → IsMessageBurst words (carried_message words)
whole-IsMessageBurst words is = record {
  is_message = carried-IsMessage words is;
  are_fragments = ext_get_or [] words (fragments (carried_message words)) (sym (length-fragments (carried_message words) ∙ needs)) word;
}
  where
    needs : fragment_count (length (carried_message words)) ≡ length words
    needs = ap fragment_count (message-size words is) ∙ (whole-size words is).2

    word : (i : ℕ) → i < length words → get_or words i [] ≡ get_or (fragments (carried_message words)) i []
    word i lt =
        let below : i < fragment_count (length (carried_message words)) = subst (λ n. i < n) (sym needs) lt in
        let sixteen : length (nth_word words i) ≡ 16 = (is.are_words i [] lt).sixteen in
        ext_get_or 0 (nth_word words i) (fragment (carried_message words) i) (sixteen ∙ sym (length-fragment (carried_message words) i below)) (λ l few. symbol-same words is i lt l
        (subst (λ n. l < n) sixteen few))
        ∙ sym (word_at-fragments (carried_message words) i below)
