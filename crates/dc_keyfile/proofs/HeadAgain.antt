-- What is spelled as a head and as pairs is read.
use Rattle.std.proofs.Common.{◌≡◌, ℕ, zero, suc, ◌+◌, ◌-◌, ◌*◌, ◌^◌, ◌<◌, ◌≤◌, true, false, ◌&&◌, ◌||◌, ltb, eqb, List, ◌++◌, length, get_or, map, None, Result, Ok, refl, ap, subst, ◌∙◌, arith, inl, inr}
use Rattle.std.specs.List.{flat_map}
use Rattle.std.proofs.lemmas.Bool.{cases_lt, le-ltb, lt-ltb, eq-eqb, ne_eqb}
use Rattle.std.proofs.lemmas.List.{drop_at, drop-drop, length-append}
use Rattle.dc_spec.specs.Bytes.{number_at, short_at}
use Rattle.dc_spec.proofs.ByteLemmas.{number_again, short_again, piece_of, length_of_pieces}
use Rattle.dc_formats.specs.KeyFile.{AreEndsBefore, AreEndsRising}
use Rattle.dc_formats.proofs.Ends.{ends_rise_at}
use Rattle.dc_keyfile.specs.declared.head.Head.{Head}
use Rattle.dc_keyfile.specs.declared.fault.KeyFault.{KeyFault}
use Rattle.dc_keyfile.specs.Head.{IsHead, head_of, head_from_bytes, head_bytes, due_length, piece_at, ends_of, are_ends, is_before, is_rising, ends_fault, pairs_of, body_of}
use Rattle.dc_keyfile.proofs.ReaderTests.{within}

-- ---- the head

numbers_again : (h : Head) → IsHead h → head_of h.stations h.words h.count ≡ Ok h
unfolding head_of
numbers_again h is =
    let not_large : ltb (2 ^ 26) (h.count * (32 * h.words)) ≡ false = le-ltb _ _ is.most_symbols in
    rw (within h.stations 256 is.some_stations is.most_stations, within h.words 4096 is.some_words is.most_words, not_large) refl

-- a head that stands before other bytes is read
pub head_again : (version : ℕ) (h : Head) (rest : List ℕ) → IsHead h → h.count < 2 ^ 32 → head_from_bytes version (head_bytes version h.stations h.words h.count ++ rest) ≡ Ok h
unfolding head_from_bytes
head_again version h rest is few =
    let b : List ℕ = head_bytes version h.stations h.words h.count ++ rest in
    let not_short : ltb (length (head_bytes version h.stations h.words h.count ++ rest)) 12
    ≡ false = le-ltb _ _ (omega (arith, length-append (head_bytes version h.stations h.words h.count) rest)) in
    let one : eqb version version ≡ true = eq-eqb _ _ refl in
    let stations : short_at (head_bytes version h.stations h.words h.count ++ rest) 4
    ≡ h.stations = let most = is.most_stations in short_again (head_bytes version h.stations h.words h.count ++ rest) 4 h.stations (omega arith) refl in
    let words : short_at (head_bytes version h.stations h.words h.count ++ rest) 6
    ≡ h.words = let most = is.most_words in short_again (head_bytes version h.stations h.words h.count ++ rest) 6 h.words (omega arith) refl in
    let count : number_at (head_bytes version h.stations h.words h.count ++ rest) 8 ≡ h.count = number_again (head_bytes version h.stations h.words h.count ++ rest) 8 h.count few refl in
    rw (not_short, one, stations, words, count) (numbers_again h is)

-- ---- the pairs

-- the length of a head and pairs of one size
pub whole_again : {X : Type 0} (spelling : X → List ℕ) (head : List ℕ) (size : ℕ) (ps : List X) → length head ≡ 12 → ((k : ℕ) (d : X) → k < length ps → length (spelling (get_or ps k d)) ≡ size)
    → length (head ++ flat_map spelling ps) ≡ due_length size (length ps)
whole_again spelling head size ps twelve wide = length-append head (flat_map spelling ps) ∙ omega (arith, twelve, length_of_pieces spelling size ps wide)

-- the piece of a pair is its spelling
pub piece_again : {X : Type 0} (spelling : X → List ℕ) (head : List ℕ) (size : ℕ) (ps : List X) → length head ≡ 12 → ((k : ℕ) (d : X) → k < length ps → length (spelling (get_or ps k d)) ≡ size)
    → (i : ℕ) (d : X) → i < length ps → piece_at (head ++ flat_map spelling ps) size i ≡ spelling (get_or ps i d)
piece_again spelling head size ps twelve wide i d lt =
    rw (← drop-drop (size * i) 12 (head ++ flat_map spelling ps), drop_at head (flat_map spelling ps) 12 twelve) (piece_of spelling size ps wide i d lt)

-- pairs of which each is read, and no more bytes
pub body_again : {X : Type 0} (b : List ℕ) (size : ℕ) (f : ℕ → Result X KeyFault) (ps : List X) → length b ≡ due_length size (length ps) → pairs_of f (length ps) ≡ Ok ps
    → body_of b size (length ps) f ≡ Ok ps
unfolding body_of
body_again b size f ps whole read =
    let not_short : ltb (length b) (due_length size (length ps)) ≡ false = le-ltb _ _ (omega arith) in
    let not_long : ltb (due_length size (length ps)) (length b) ≡ false = le-ltb _ _ (omega arith) in
    rw (not_short, read, not_long) refl

-- ---- the ends

is_before_again : (a b c d : ℕ) → a ≤ c → (a ≡ c → b < d) → (ltb a c || (eqb a c && ltb b d)) ≡ true
is_before_again a b c d le equal =
    elim (cases_lt a c) [
      | inl lt ↦ let first : ltb a c ≡ true = lt-ltb _ _ lt in rw first refl
      | inr ge ↦
          let same : a ≡ c = omega arith in
          let not_less : ltb a c ≡ false = le-ltb _ _ ge in
          let as_much : eqb a c ≡ true = eq-eqb _ _ same in
          let less : ltb b d ≡ true = lt-ltb _ _ (equal same) in
          rw (not_less, as_much, less) refl
    ]

before_again : (e f : ℕ × ℕ) → AreEndsBefore e f → is_before e f ≡ true
before_again e f before = is_before_again e.0 e.1 f.0 f.1 before.lesser before.greater

-- where ends rise, the test of each place says so
rising_again : {X : Type 0} (ends : X → ℕ × ℕ) (b : List ℕ) (size : ℕ) (ps : List X) → AreEndsRising (map ends ps) → ((k : ℕ) (d : X) → k < length ps
    → ends_of (piece_at b size k) ≡ ends (get_or ps k d))
    → (i : ℕ) (d : X) → i < length ps → is_rising b size i ≡ true
rising_again ends b size ps rising here zero d lt = refl
rising_again ends b size ps rising here (suc i) d lt =
    let not_first : eqb (suc i) 0 ≡ false = ne_eqb (suc i) 0 (λ e. omega arith) in
    let before : suc i - 1 ≡ i = omega arith in
    let next : i + 1 ≡ suc i = omega arith in
    let rises : AreEndsBefore (ends (get_or ps i d)) (ends (get_or ps (i + 1) d)) = ends_rise_at ends ps rising i d (omega arith) in
    let one = here i d (omega arith) in
    let other = here (suc i) d lt in
    let passes : is_before (ends_of (piece_at b size i)) (ends_of (piece_at b size (suc i))) ≡ true = (λ j. is_before (one j) (other j))
    ∙ before_again _ _ (subst (λ (n : ℕ). AreEndsBefore (ends (get_or ps i d)) (ends (get_or ps n d))) next rises) in
    rw (not_first, before) passes

-- ends that rise and are stations have no fault
pub ends_again : {X : Type 0} (ends : X → ℕ × ℕ) (b : List ℕ) (stations size : ℕ) (ps : List X) → AreEndsRising (map ends ps) → ((k : ℕ) (d : X) → k < length ps
    → ends_of (piece_at b size k) ≡ ends (get_or ps k d))
    → (i : ℕ) (d : X) → i < length ps → (ends (get_or ps i d)).0 < (ends (get_or ps i d)).1 → (ends (get_or ps i d)).1 < stations → ends_fault b stations size i ≡ None
unfolding ends_fault
ends_again ends b stations size ps rising here i d lt less below =
    let rises : ltb (ends (get_or ps i d)).0 (ends (get_or ps i d)).1 ≡ true = lt-ltb _ _ less in
    let inside : ltb (ends (get_or ps i d)).1 stations ≡ true = lt-ltb _ _ below in
    let are : are_ends stations (ends_of (piece_at b size i)) ≡ true = ap (are_ends stations) (here i d lt) ∙ rw (rises, inside) refl in
    rw (are, rising_again ends b size ps rising here i d lt) refl
