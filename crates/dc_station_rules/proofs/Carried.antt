-- The bytes that words carry, by their places, and the fragments of a message.
use Rattle.std.proofs.Common.{◌≡◌, ℕ, zero, suc, ◌+◌, ◌-◌, ◌*◌, ◌/◌, ◌%◌, ◌^◌, ◌<◌, ◌≤◌, Bool, true, false, List, [], ◌∷◌, length, drop, get_or, slice_index, replicate, refl, sym, ap, ◌∙◌, subst, arith, length-append, length-drop, length-take-le, get_or-drop, get_or-take, get_or-append-add, mod-lt, w16, nat_lt, ltb-true, ltb-false, mod-eq_of_lt, div-lt_iff_lt-mul}
use Rattle.std.specs.List.{range_with_len}
use Rattle.std.specs.Int.{to_be_bytes}
use Rattle.std.proofs.Math.Nat.{div-add-mod}
use Rattle.std.proofs.lemmas.Nat.{div-add-mod'}
use Rattle.std.proofs.lemmas.List.{get_or_append_left, get_or-append_right, length-replicate, length-map}
use Rattle.std.proofs.lemmas.List.FromFn.{get_or-map-range_with_len, length-range_with_len}
use Rattle.dc_spec.specs.Bytes.{short_at}
use Rattle.dc_spec.specs.Values.{word_limbs}
use Rattle.dc_spec.specs.Entries.{IsMessage}
use Rattle.dc_station_rules.specs.Bursts.{fragment_count, burst_bytes, fragment, fragments, nth_word, carried}
use Rattle.dc_spec.proofs.GroupLemmas.{length-fifteen, get_or-fifteen}

-- fifteen bytes for each word
pub length-carried : (words : List (List ℕ)) → length (carried words) ≡ 15 * length words
length-carried [] = refl
length-carried (word ∷ words) =
    let limbs : length (word_limbs word) ≡ 15 = length-fifteen _ in
    let more : length (carried words) ≡ 15 * length words = length-carried words in
    length-append (word_limbs word) (carried words) ∙ (rw (limbs, more) (omega arith))

-- byte r of word q
pub get_or-carried : (words : List (List ℕ)) (q r : ℕ) → r < 15 → get_or (carried words) (15 * q + r) 0 ≡ slice_index (nth_word words q) (r + 1)
get_or-carried [] q r lt = refl
get_or-carried (word ∷ words) zero r lt =
    let limbs : length (word_limbs word) ≡ 15 = length-fifteen _ in
    let place : 15 * 0 + r ≡ r = omega arith in
    rw place (get_or_append_left (word_limbs word) (carried words) 0 r (rw limbs lt) ∙ get_or-fifteen _ r lt)
get_or-carried (word ∷ words) (suc q) r lt =
    let limbs : length (word_limbs word) ≡ 15 = length-fifteen _ in
    let place : 15 * suc q + r ≡ length (word_limbs word) + (15 * q + r) = omega arith in
    rw place (get_or-append-add (word_limbs word) (carried words) (15 * q + r) 0 ∙ get_or-carried words q r lt)

-- any byte, by the word that it lies in
pub byte-carried : (words : List (List ℕ)) (k : ℕ) → get_or (carried words) k 0 ≡ slice_index (nth_word words (k / 15)) (k % 15 + 1)
byte-carried words k = ap (λ p. get_or (carried words) p 0) (sym (div-add-mod k 15)) ∙ get_or-carried words (k / 15) (k % 15) (mod-lt k (omega arith))

-- how many fragments a message of so many bytes has: just enough
pub enough : (size : ℕ) → (size + 2 ≤ 15 * fragment_count size) × (15 * fragment_count size < size + 17)
enough size =
    let all : 15 * ((size + 2) / 15) + (size + 2) % 15 ≡ size + 2 = div-add-mod (size + 2) 15 in
    let less : (size + 2) % 15 < 15 = mod-lt (size + 2) (omega arith) in
    (omega arith, omega arith)

-- the length of the bytes of a burst
pub length-burst_bytes : (message : List ℕ) → length (burst_bytes message) ≡ 15 * fragment_count (length message)
length-burst_bytes message =
    let most = (enough (length message)).0 in
    let zeros : length (replicate {A = ℕ} (15 * fragment_count (length message) - (length message + 2)) 0) ≡ 15 * fragment_count (length message) - (length message + 2) = length-replicate _ 0 in
    length-append (to_be_bytes w16 (length message)) _ ∙ ap (λ n. 2 + n) (length-append message _) ∙ (rw zeros (omega arith))

-- a fragment's symbols
pub word_at-fragments : (message : List ℕ) (i : ℕ) → i < fragment_count (length message) → nth_word (fragments message) i ≡ fragment message i
unfolding fragments
word_at-fragments message i lt = get_or-map-range_with_len (fragment message) 0 (fragment_count (length message)) i i [] lt (omega arith)

pub length-fragments : (message : List ℕ) → length (fragments message) ≡ fragment_count (length message)
unfolding fragments
length-fragments message = length-map (range_with_len 0 (fragment_count (length message))) (fragment message) ∙ length-range_with_len 0 (fragment_count (length message))

-- a fragment has sixteen symbols
pub length-fragment : (message : List ℕ) (i : ℕ) → i < fragment_count (length message) → length (fragment message i) ≡ 16
unfolding fragment
length-fragment message i lt = ap suc (length-take-le 15 (drop (15 * i) (burst_bytes message)) (rw (length-drop (15 * i) (burst_bytes message), length-burst_bytes message) (omega arith)))

pub fragment-limb : (message : List ℕ) (i r : ℕ) → r < 15 → slice_index (fragment message i) (r + 1) ≡ get_or (burst_bytes message) (15 * i + r) 0
unfolding fragment
fragment-limb message i r lt =
    let next : r + 1 ≡ suc r = omega arith in
    rw next (get_or-take 15 (drop (15 * i) (burst_bytes message)) r 0 lt ∙ get_or-drop (15 * i) (burst_bytes message) r 0)

-- the bytes of a burst: the length, the message, zeros
pub told-bytes : (message : List ℕ) → length message < 2 ^ 16 → short_at (burst_bytes message) 0 ≡ length message
told-bytes message lt =
    let high : length message / 256 % 256 ≡ length message / 256 = mod-eq_of_lt ((div-lt_iff_lt-mul {k = 256} {x = length message} {y = 256} (omega arith)).1 lt) in
    rw high (div-add-mod' (length message) 256)

-- byte k of the message
pub message-byte : (message : List ℕ) (k : ℕ) → k < length message → get_or (burst_bytes message) (2 + k) 0 ≡ get_or message k 0
message-byte message k lt = get_or-append-add (to_be_bytes w16 (length message)) _ k 0 ∙ get_or_append_left message _ 0 k lt

-- zeros, and past them
pub get_or-zeros : (n i : ℕ) → ◌≡◌ {A = ℕ} (get_or (replicate n 0) i 0) 0
get_or-zeros zero i = refl
get_or-zeros (suc n) zero = refl
get_or-zeros (suc n) (suc i) = get_or-zeros n i

-- a zero after it
pub zero-byte : (message : List ℕ) (k : ℕ) → length message ≤ k → get_or (burst_bytes message) (2 + k) 0 ≡ 0
zero-byte message k le = get_or-append-add (to_be_bytes w16 (length message)) _ k 0 ∙ get_or-append_right message _ (length message) k 0 refl le
    ∙ get_or-zeros (15 * fragment_count (length message) - (length message + 2)) (k - length message)

-- each byte of a burst is one
pub burst-byte : (message : List ℕ) → IsMessage message → (k : ℕ) → get_or (burst_bytes message) k 0 < 256
burst-byte message is zero = mod-lt (length message / 256) (omega arith)
burst-byte message is (suc zero) = mod-lt (length message) (omega arith)
burst-byte message is (suc (suc k)) = let place : 2 + k ≡ suc (suc k) = omega arith in subst (λ j. get_or (burst_bytes message) j 0 < 256) place (by_place (nat_lt k (length message)) refl)
  where
    by_place : (b : Bool) → nat_lt k (length message) ≡ b → get_or (burst_bytes message) (2 + k) 0 < 256
    by_place true lt = subst (λ x. x < 256) (sym (message-byte message k (ltb-true _ _ lt))) (is.are_bytes k 0 (ltb-true _ _ lt))
    by_place false le = subst (λ x. x < 256) (sym (zero-byte message k (ltb-false _ _ le))) (omega arith)
