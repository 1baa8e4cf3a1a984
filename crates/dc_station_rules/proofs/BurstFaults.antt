-- What it means that a word of a burst breaks no check, and that the words after it do not matter for that.
use Rattle.std.proofs.Common.{◌≡◌, ℕ, zero, suc, ◌+◌, ◌-◌, ◌*◌, ◌<◌, ◌≤◌, Bool, true, false, cond, nat_lt, not, ◌==◌, List, [], ◌++◌, length, take, slice_index, Option, None, refl, sym, ap, arith, true≢false, ltb-false, le-ltb, eqb-true, eq-eqb}
use Rattle.std.proofs.lemmas.Bool.{not-false}
use Rattle.std.proofs.lemmas.List.{get_or_append_left, take-append-le}
use Rattle.dc_spec.specs.Values.{word_count}
use Rattle.dc_station_rules.specs.Bursts.{fragment_count, nth_word, carried, stated_length, count_fits, length_fault, padding_fault, fault_at}
use Rattle.dc_spec.proofs.GroupLemmas.{finds-none, find-none}
use Rattle.dc_spec.proofs.Options.{or-none, map-none, if-none}

-- the length that the first word tells needs as many words as its count says
abbrev pub LengthFits : List (List ℕ) → ℕ → Type 0
LengthFits words zero = fragment_count (stated_length words) ≡ word_count (nth_word words 0)
LengthFits words (suc i) = Unit {0}

-- word i breaks no check
pub record Passes (words : List (List ℕ)) (i : ℕ) : Type 0 where
  pub count : count_fits words i ≡ true
  pub limbs : (l : ℕ) → l < 15 → slice_index (nth_word words i) (1 + l) ≤ 255
  pub told : LengthFits words i
  pub padding : word_count (nth_word words i) ≡ 1 → (at : ℕ) → at < 15 * (i + 1) - (stated_length words + 2) → slice_index (carried (take (i + 1) words)) (stated_length words + 2 + at) ≡ 0

then-none : {A : Type 0} (b : Bool) (o : Option A) → cond b o None ≡ None → b ≡ true → o ≡ None
then-none true o e is = e
then-none false o e is = absurd (true≢false (sym is))

length-none : (words : List (List ℕ)) (i : ℕ) → length_fault words i ≡ None → LengthFits words i
length-none words zero e = eqb-true _ _ (if-none _ _ e)
length-none words (suc i) e = tt

-- a word without a fault passes
pub passes : (words : List (List ℕ)) (i : ℕ) → fault_at words i ≡ None → Passes words i
unfolding fault_at
passes words i e =
    let first = or-none _ _ e in
    let second = or-none _ _ first.1 in
    let third = or-none _ _ second.1 in
    record {
      count = if-none _ _ first.0;
      limbs = λ l lt. ltb-false _ _ (find-none (λ k. nat_lt 255 (slice_index (nth_word words i) k)) 1 15 l (map-none _ _ second.0) lt);
      told = length-none words i third.0;
      padding = λ one at lt. eqb-true _ _ (not-false _ (find-none (λ k. not (slice_index (carried (take (i + 1) words)) k == 0)) (stated_length words + 2) _ at
          (map-none _ _ (then-none _ _ third.1 (eq-eqb _ _ one))) lt));
    }

-- and a word that passes has none
length-passes : (words : List (List ℕ)) (i : ℕ) → LengthFits words i → length_fault words i ≡ None
length-passes words zero e = rw (eq-eqb _ _ e)
length-passes words (suc i) e = refl

padding-passes : (words : List (List ℕ)) (i : ℕ) (b : Bool) → (word_count (nth_word words i) == 1) ≡ b → Passes words i → padding_fault words i ≡ None
padding-passes words i false is pass = rw is
padding-passes words i true is pass = rw (
  is,
  finds-none (λ k. not (slice_index (carried (take (i + 1) words)) k == 0)) (stated_length words + 2) (15 * (i + 1) - (stated_length words + 2))
      (λ at lt. ap not (eq-eqb _ _ (pass.padding (eqb-true _ _ is) at lt))),
)

pub no-fault : (words : List (List ℕ)) (i : ℕ) → Passes words i → fault_at words i ≡ None
unfolding fault_at
no-fault words i pass = rw (
  pass.count,
  finds-none (λ k. nat_lt 255 (slice_index (nth_word words i) k)) 1 15 (λ l lt. le-ltb _ _ (pass.limbs l lt)),
  length-passes words i pass.told,
  padding-passes words i (word_count (nth_word words i) == 1) refl pass,
)

-- a word is judged by it and the words before it
word_at-append : (words more : List (List ℕ)) (i : ℕ) → i < length words → nth_word (words ++ more) i ≡ nth_word words i
word_at-append words more i lt = get_or_append_left words more [] i lt

pub fault_at-append : (words more : List (List ℕ)) (i : ℕ) → i < length words → fault_at (words ++ more) i ≡ fault_at words i
unfolding fault_at
fault_at-append words more zero lt = rw (word_at-append words more 0 lt, take-append-le 1 words more lt)
fault_at-append words more (suc i) lt =
    let before : i < length words = omega arith in
    let first : 0 < length words = omega arith in
    let here : i + 1 < length words = omega arith in
    let all : suc i + 1 ≤ length words = omega arith in
    rw (word_at-append words more (suc i) lt, word_at-append words more i before, word_at-append words more 0 first, take-append-le (suc i + 1) words more all)
