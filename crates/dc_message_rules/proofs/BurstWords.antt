-- A burst of a field that just one station marked: the words are the fragments of its message.
use Rattle.std.proofs.Common.{◌≡◌, ℕ, zero, suc, ◌+◌, ◌*◌, ◌%◌, ◌<◌, Bool, List, [], ◌∷◌, ◌++◌, length, map, get_or, slice_index, sum_by, if◌then◌else◌, refl, sym, ◌∙◌, ap, subst, arith, length-append}
use Rattle.std.proofs.lemmas.Bool.{lt-ltb}
use Rattle.std.proofs.lemmas.List.{get_or-append-add}
use Rattle.dc_spec.specs.Words.{zero_word, word_sum}
use Rattle.dc_spec.specs.Entries.{IsMessage, Stream}
use Rattle.dc_spec.proofs.SumLemmas.{sum_by-map}
use Rattle.dc_spec.proofs.WordLemmas.{word_from_symbols}
use Rattle.dc_station_rules.specs.Bursts.{fragment_count, fragment, fragments, nth_word}
use Rattle.dc_station_rules.specs.Stations.{marked, burst_word}
use Rattle.dc_station_rules.proofs.Carried.{enough, word_at-fragments, length-fragments, length-fragment, fragment-limb, burst-byte}
use Rattle.dc_message_rules.proofs.Tallies.{total-same}
use Rattle.dc_message_rules.proofs.Markers.{at_mark, fragment_symbol, burst-symbol, HasMarker}

-- what the stations send together in word i of the burst of a field
abbrev pub burst_sum : List Stream → ℕ → ℕ → List ℕ
burst_sum streams field i = word_sum (map (λ (s : Stream). burst_word (marked s) field s.longs i) streams)

-- the symbols of a fragment
count-low : (message : List ℕ) → IsMessage message → (i : ℕ) → slice_index (fragment message i) 0 < 65537
unfolding fragment
count-low message is i = let most = (enough (length message)).1 in let size = is.most in omega arith

symbol-low : (message : List ℕ) → IsMessage message → (i l : ℕ) → l < 16 → slice_index (fragment message i) l < 65537
symbol-low message is i zero few = count-low message is i
symbol-low message is i (suc r) few =
    let next : r + 1 ≡ suc r = omega arith in
    let byte = burst-byte message is (15 * i + r) in
    let at = fragment-limb message i r (omega arith) in
    subst (λ (k : ℕ). slice_index (fragment message i) k < 65537) next (let e : slice_index (fragment message i) (r + 1) < 65537 = omega arith in e)

small : (x : ℕ) → x < 65537 → x % 65537 ≡ x
small x low = omega arith

-- word i of the burst is fragment i
sum-fragment : (streams : List Stream) (field : ℕ) (m : HasMarker field streams) (i : ℕ) → i < fragment_count (length m.message) → fragment m.message i ≡ burst_sum streams field i
sum-fragment streams field m i within = word_from_symbols _ (fragment m.message i) (length-fragment m.message i within) (λ l few.
    let own : fragment_symbol i l m.message ≡ slice_index (fragment m.message i) l =
    ap (λ (b : Bool). slice_index (if b then fragment m.message i else zero_word) l) (lt-ltb i (fragment_count (length m.message)) within) in
    let sum : sum_by (λ w. slice_index w l) (map (λ (s : Stream). burst_word (marked s) field s.longs i) streams) ≡ slice_index (fragment m.message i) l =
    sum_by-map (λ w. slice_index w l) (λ (s : Stream). burst_word (marked s) field s.longs i) streams
    ∙ total-same (λ (s : Stream). slice_index (burst_word (marked s) field s.longs i) l) (at_mark field (fragment_symbol i l)) streams
    (λ k d inside. burst-symbol (get_or streams k d).longs (get_or streams k d).coins field i l few)
    ∙ m.only (fragment_symbol i l) ∙ own in
    sym (ap (λ n. n % 65537) sum ∙ small (slice_index (fragment m.message i) l) (symbol-low m.message m.is_message i l few)))

-- so the word after some fragments is the next one
pub burst-next : (streams : List Stream) (field : ℕ) (m : HasMarker field streams) (since : List (List ℕ)) (next : List ℕ) (more : List (List ℕ)) → since ++ next ∷ more ≡ fragments m.message
    → burst_sum streams field (length since) ≡ next
burst-next streams field m since next more is =
    let size = length-append since (next ∷ more) in
    let whole = ap (λ (ws : List (List ℕ)). length ws) is ∙ length-fragments m.message in
    let within : length since < fragment_count (length m.message) = omega arith in
    let at : nth_word (since ++ next ∷ more) (length since) ≡ next = ap (λ (k : ℕ). get_or (since ++ next ∷ more) k []) (let e : length since ≡ length since + 0 = omega arith in e)
    ∙ get_or-append-add since (next ∷ more) 0 [] in
    sym (sum-fragment streams field m (length since) within) ∙ sym (word_at-fragments m.message (length since) within) ∙ sym (ap (λ (ws : List (List ℕ)). nth_word ws (length since)) is) ∙ at

-- a message has a fragment
pub some-fragment : (message : List ℕ) → (next : List ℕ) × (more : List (List ℕ)) × (next ∷ more ≡ fragments message)
some-fragment message = by_list (fragments message) refl
  where
    by_list : (ws : List (List ℕ)) → ws ≡ fragments message → (next : List ℕ) × (more : List (List ℕ)) × (next ∷ more ≡ fragments message)
    by_list [] is = (let none = ap (λ (ws : List (List ℕ)). length ws) is ∙ length-fragments message in let least = (enough (length message)).0 in absurd (omega arith))
    by_list (w ∷ ws) is = (w, ws, is)
