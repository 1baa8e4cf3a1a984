-- Each number of a plain word is a symbol.
use Rattle.std.proofs.Common.{◌≡◌, ℕ, zero, suc, ◌+◌, ◌*◌, ◌<◌, ◌==◌, Bool, true, false, cond, nat_lt, List, [], ◌∷◌, length, slice_index, Option, Some, None, sym, subst, arith}
use Rattle.std.specs.List.{All}
use Rattle.std.proofs.lemmas.List.{get_or-map}
use Rattle.std.proofs.lemmas.List.Elements.{All-head, All-drop}
use Rattle.dc_spec.specs.Words.{zero_word}
use Rattle.dc_spec.specs.Entries.{IsMessage, Stream}
use Rattle.dc_spec.specs.Values.{IsValue, contended_word}
use Rattle.dc_spec.proofs.WordLemmas.{symbol-word_of}
use Rattle.dc_station_rules.specs.Bursts.{fragment_count, fragment}
use Rattle.dc_station_rules.specs.Epochs.{Epoch, epoch_of, calls}
use Rattle.dc_station_rules.specs.Cycles.{Cycle, Place, at_reservation, in_burst, in_epoch, history_of, place_in}
use Rattle.dc_station_rules.specs.Stations.{marked, left_by, left_after, mark_word, long_word, burst_word, epoch_word, word_for, plain_word}
use Rattle.dc_station_rules.proofs.Carried.{enough, fragment-limb, burst-byte}

-- the values and messages that are pending
pub record IsFit (s : Stream) : Type 0 where
  pub shorts : All IsValue s.shorts
  pub longs : All IsMessage s.longs

zero-symbol : (l : ℕ) → l < 16 → slice_index zero_word l < 65537
zero-symbol l few = subst (λ (x : ℕ). x < 65537) (sym (symbol-word_of (λ _. 0) l few)) (omega arith)

choice-symbol : (b : Bool) (v w : List ℕ) (l : ℕ) → slice_index v l < 65537 → slice_index w l < 65537 → slice_index (cond b v w) l < 65537
choice-symbol true v w l left right = left
choice-symbol false v w l left right = right

-- the count of a fragment, and its bytes
fragment-count : (message : List ℕ) → IsMessage message → (i : ℕ) → slice_index (fragment message i) 0 < 65537
unfolding fragment
fragment-count message is i = let most = (enough (length message)).1 in let size = is.most in omega arith

fragment-symbol : (message : List ℕ) → IsMessage message → (i l : ℕ) → l < 16 → slice_index (fragment message i) l < 65537
fragment-symbol message is i zero few = fragment-count message is i
fragment-symbol message is i (suc r) few =
    let next : r + 1 ≡ suc r = omega arith in
    let byte = burst-byte message is (15 * i + r) in
    let limb : slice_index (fragment message i) (r + 1) < 65537 = subst (λ (x : ℕ). x < 65537) (sym (fragment-limb message i r (omega arith))) (omega arith) in
    subst (λ (k : ℕ). slice_index (fragment message i) k < 65537) next limb

-- the words of each place
mark-symbol : (mark : Option ℕ) (l : ℕ) → l < 16 → slice_index (mark_word mark) l < 65537
mark-symbol None l few = zero-symbol l few
mark-symbol (Some field) l few = subst (λ (x : ℕ). x < 65537) (sym (symbol-word_of (λ k. cond (k == field) 1 0) l few)) (small (l == field))
  where
    small : (b : Bool) → cond {A = ℕ} b 1 0 < 65537
    small true = omega arith
    small false = omega arith

long-symbol : (longs : List (List ℕ)) → All IsMessage longs → (i l : ℕ) → l < 16 → slice_index (long_word longs i) l < 65537
long-symbol [] are i l few = zero-symbol l few
long-symbol (m ∷ ms) are i l few = choice-symbol (nat_lt i (fragment_count (length m))) (fragment m i) zero_word l (fragment-symbol m (All-head IsMessage m ms are) i l few) (zero-symbol l few)

burst-symbol : (mark : Option ℕ) (field : ℕ) (longs : List (List ℕ)) → All IsMessage longs → (i l : ℕ) → l < 16 → slice_index (burst_word mark field longs i) l < 65537
burst-symbol None field longs are i l few = zero-symbol l few
burst-symbol (Some mark) field longs are i l few = choice-symbol (mark == field) (long_word longs i) zero_word l (long-symbol longs are i l few) (zero-symbol l few)

value-symbol : (value : List ℕ) → IsValue value → (l : ℕ) → l < 16 → slice_index (contended_word value 1) l < 65537
value-symbol value is zero few = omega arith
value-symbol value is (suc r) few =
    let size = is.fifteen in
    let byte = is.bytes r in
    subst (λ (x : ℕ). x < 65537) (sym (get_or-map (λ byte. 1 * byte) value r 0 0 (omega arith))) (omega arith)

epoch-symbol : (shorts : List (List ℕ)) → All IsValue shorts → (epoch : Epoch) (l : ℕ) → l < 16 → slice_index (epoch_word shorts epoch) l < 65537
epoch-symbol [] are epoch l few = zero-symbol l few
epoch-symbol (value ∷ values) are epoch l few = choice-symbol (calls value epoch) (contended_word value 1) zero_word l (value-symbol value (All-head IsValue value values are) l few)
    (zero-symbol l few)

place-symbol : (s : Stream) → IsFit s → (place : Place) (l : ℕ) → l < 16 → slice_index (word_for s place) l < 65537
unfolding word_for
place-symbol s is at_reservation l few = mark-symbol (marked s) l few
place-symbol s is (in_burst field words) l few = burst-symbol (marked s) field s.longs is.longs (length words) l few
place-symbol s is (in_epoch words) l few = epoch-symbol s.shorts is.shorts (epoch_of words) l few

-- what is left after cycles
fit-left : (s : Stream) (cycle : Cycle) → IsFit s → IsFit (left_by s cycle)
unfolding left_by
fit-left s cycle is = record { shorts = All-drop IsValue _ s.shorts is.shorts; longs = All-drop IsMessage _ s.longs is.longs }

fit-after : (s : Stream) (cycles : List Cycle) → IsFit s → IsFit (left_after s cycles)
fit-after s [] is = is
fit-after s (cycle ∷ cycles) is = fit-after (left_by s cycle) cycles (fit-left s cycle is)

-- so each number of a plain word is a symbol
pub plain-symbol : (s : Stream) → IsFit s → (words : List (List ℕ)) (l : ℕ) → l < 16 → slice_index (plain_word s words) l < 65537
unfolding plain_word
plain-symbol s is words l few = place-symbol (left_after s (history_of words).whole) (fit-after s (history_of words).whole is) (place_in (history_of words).begun) l few
