-- What is left of a stream, and the words that it gives.
use Rattle.std.proofs.Common.{◌≡◌, ◌≢◌, ℕ, zero, suc, ◌+◌, ◌<◌, Bool, true, false, ◌==◌, if◌then◌else◌, List, [], ◌∷◌, length, take, drop, slice_get, slice_set, get_or, Option, Some, None, refl, sym, ◌∙◌, add-one, eqb-true, eq-eqb, length-set, append-nil}
use Rattle.std.specs.List.{list_any}
use Rattle.std.proofs.Math.Seq.{drop-cons}
use Rattle.std.proofs.lemmas.List.{get_or-set_same, get_or-set_other}
use Rattle.std.proofs.lemmas.List.Folds.{list_any_more}
use Rattle.std.proofs.lemmas.Option.{slice_get_within, get_or_from_slice_get}
use Rattle.std.proofs.Math.Bool.{or-false}
use Rattle.dc_spec.proofs.Booleans.{or_second}
use Rattle.dc_spec.specs.Words.{zero_word}
use Rattle.dc_spec.proofs.WordLemmas.{length-word_of, symbol-word_of, word_from_symbols}
use Rattle.dc_spec.specs.Entries.{Stream}
use Rattle.dc_station_rules.specs.Epochs.{Leaf}
use Rattle.dc_station_rules.specs.Stations.{next_mark, mark_word, is_leaf_of}
use Rattle.dc_station.specs.declared.progress.Progress.{Progress}
use Rattle.dc_station.specs.Sending.{if_any, shorts_of, IsWithin, SendsShort, SendsLong}

-- a zero word in which one symbol is set to 1
marked_symbol : (field k : ℕ) (b : Bool) → (k == field) ≡ b → field < 16 → k < 16 → get_or (slice_set zero_word field 1) k 0 ≡ (if b then 1 else 0)
marked_symbol field k true e below lt =
    let same : k ≡ field = eqb-true k field e in
    rw same (get_or-set_same zero_word field 1 0 (rw (length-word_of (λ _. 0)) below))
marked_symbol field k false e below lt =
    let other : k ≢ field = λ same. let bad = rw same at e in let good = eq-eqb field field refl in cc in
    get_or-set_other zero_word field k 1 0 other ∙ symbol-word_of (λ _. 0) k lt

pub marking : (field : ℕ) → field < 16 → slice_set zero_word field 1 ≡ mark_word (Some field)
marking field below = word_from_symbols (λ l. if l == field then 1 else 0) (slice_set zero_word field 1) (length-set zero_word field 1 ∙ length-word_of (λ _. 0)) (λ k lt. marked_symbol field k (k == field) refl below lt)

-- what is left of a list begins with the item at the place up to which it is used up, and nothing is left where there is none
pub left_first : {A : Type 0} → (xs : List A) (n : ℕ) (x : A) → slice_get xs n ≡ Some x → drop n xs ≡ x ∷ drop (n + 1) xs
left_first xs n x is = drop-cons xs n x (slice_get_within xs n x is) ∙ rw (get_or_from_slice_get xs n x x is, add-one) refl

pub left_none : {A : Type 0} → (xs : List A) (n : ℕ) → slice_get xs n ≡ None → drop n xs ≡ []
left_none [] zero none = refl
left_none [] (suc n) none = refl
left_none (x ∷ xs) zero none = cc
left_none (x ∷ xs) (suc n) none = left_none xs n none

-- the next coin, where a message is left
mark_by : (message : List ℕ) (longs : List (List ℕ)) (coins : List ℕ) (used : ℕ) (o : Option ℕ) → slice_get coins used ≡ o → o ≡ next_mark (message ∷ longs) (drop used coins)
mark_by message longs coins used None is = rw (left_none coins used is) refl
mark_by message longs coins used (Some coin) is = rw (left_first coins used coin is) refl

pub mark_left : (longs : List (List ℕ)) (used : ℕ) (coins : List ℕ) (coins_used : ℕ) → used < length longs → slice_get coins coins_used ≡ next_mark (drop used longs) (drop coins_used coins)
mark_left longs used coins coins_used lt = rw (drop-cons longs used [] lt) (mark_by (get_or longs used []) (drop (suc used) longs) coins coins_used (slice_get coins coins_used) refl)

-- an item that passes a test is among the items
pub any_at : {A : Type 0} → (p : A → Bool) (xs : List A) (i : ℕ) (x : A) → slice_get xs i ≡ Some x → p x ≡ true → list_any p xs ≡ true
any_at p [] zero x is passes = cc
any_at p [] (suc i) x is passes = cc
any_at p (y ∷ xs) zero x is passes = let same : y ≡ x = cc in rw (same, passes) refl
any_at p (y ∷ xs) (suc i) x is passes = or_second (p y) (list_any p xs) (any_at p xs i x is passes)

-- none of the first items passes a test, and the next does not
pub none_more : {A : Type 0} → (p : A → Bool) (xs : List A) (i : ℕ) (x : A) → slice_get xs i ≡ Some x → list_any p (take i xs) ≡ false → p x ≡ false → list_any p (take (i + 1) xs) ≡ false
none_more p xs i x is before here = list_any_more p xs i x (slice_get_within xs i x is) ∙ rw (before, get_or_from_slice_get xs i x x is) here

-- the first pending value, or none
pub value_first : (flag : Bool) (stream : Stream) (value : List ℕ) (shorts : List (List ℕ)) (out : List Leaf) → flag ≡ false → stream.shorts ≡ value ∷ shorts
    → shorts_of flag stream out ≡ if_any (list_any (is_leaf_of value) out) value
value_first flag stream value shorts out unsent first = rw (unsent, first) refl

pub no_value_first : (flag : Bool) (stream : Stream) (out : List Leaf) → flag ≡ false → stream.shorts ≡ [] → shorts_of flag stream out ≡ []
no_value_first flag stream out unsent none = rw (unsent, none) refl

-- nothing is sent
pub sends_no_short : (stream : Stream) (progress : Progress) → IsWithin stream progress → SendsShort stream progress [] progress
sends_no_short stream progress within = record { within = within; same = refl; longs = refl; shorts = sym (or-false progress.short_sent); room = refl; log = λ fits. sym (append-nil progress.log.entries) }

pub sends_no_long : (stream : Stream) (progress : Progress) → IsWithin stream progress → SendsLong stream progress [] progress
sends_no_long stream progress within = record { within = within; same = refl; shorts = refl; longs = sym (or-false progress.long_sent); room = refl; log = λ fits. sym (append-nil progress.log.entries) }
