-- What a word that breaks no check by itself does to the bytes of a burst.
use Rattle.std.proofs.Common.{◌≡◌, ℕ, zero, suc, ◌+◌, ◌-◌, ◌*◌, ◌<◌, ◌≤◌, true, cond, nat_lt, nat_le, List, ◌++◌, length, slice_index, Some, None, refl, ap, ap₂, ◌∙◌, subst, arith, length-append, ltb-false, leb-true, eqb-true}
use Rattle.std.specs.Option.{option_or}
use Rattle.std.proofs.lemmas.List.{get_or_append_left}
use Rattle.dc_spec.specs.Bytes.{short_at}
use Rattle.dc_spec.specs.Values.{fifteen, word_count, word_limbs}
use Rattle.dc_station_rules.specs.Bursts.{burst_count, fragment_count, limb_fault}
use Rattle.dc_spec.proofs.GroupLemmas.{find-none, length-fifteen}
use Rattle.std.proofs.lemmas.Bool.{and_parts}
use Rattle.dc_spec.proofs.Options.{or-none, map-none, if-none}
use Rattle.dc_station_rules.proofs.Carried.{enough}
use Rattle.dc_reserve.specs.declared.judge.BurstStep.{BurstStep}
use Rattle.dc_reserve.specs.declared.judge.BurstStep.TheVariants.{Goes, Message, Void}
use Rattle.dc_reserve.specs.declared.judge.Phase.{Phase}
use Rattle.dc_reserve.specs.declared.judge.Phase.TheVariants.{First, Later, Whole, Broken}
use Rattle.dc_reserve.specs.Phases.{IsGoing, FitsPhase, count_allowed, first_length_fault, own_fault, Leads, burst_phase_after, MayFollow}

-- a word that breaks no check by itself
pub own_none : (phase : Phase) (word : List ℕ) → own_fault phase word ≡ None → (count_allowed phase (word_count word) ≡ true) × (limb_fault word ≡ None) × (first_length_fault phase word ≡ None)
own_none phase word e =
    let first = or-none (cond (count_allowed phase (word_count word)) None (Some (burst_count (word_count word)))) (option_or (limb_fault word) (first_length_fault phase word)) e in
    let second = or-none (limb_fault word) (first_length_fault phase word) first.1 in
    (if-none (count_allowed phase (word_count word)) (burst_count (word_count word)) first.0, second.0, second.1)

-- its limbs are bytes
pub limbs_small : (word : List ℕ) → limb_fault word ≡ None → (l : ℕ) → l < 15 → slice_index word (l + 1) ≤ 255
limbs_small word e l lt =
    let place : 1 + l ≡ l + 1 = omega arith in
    subst (λ (k : ℕ). slice_index word k ≤ 255) place (ltb-false _ _ (find-none (λ k. nat_lt 255 (slice_index word k)) 1 15 l (map-none _ _ e) lt))

-- the first two limbs tell the length
told_by_limbs : (word : List ℕ) → short_at (word_limbs word) 0 ≡ short_at word 1
unfolding fifteen
told_by_limbs word = refl

-- bytes after others do not change the length
told_before : (bytes more : List ℕ) → 2 ≤ length bytes → short_at (bytes ++ more) 0 ≡ short_at bytes 0
told_before bytes more le = ap₂ (λ (a b : ℕ). a * 256 + b) (get_or_append_left bytes more 0 0 (omega arith)) (get_or_append_left bytes more 0 1 (omega arith))

-- the bytes after a word, and its count
pub record After (word bytes : List ℕ) : Type 0 where
  pub some : 1 ≤ word_count word
  pub most : word_count word ≤ 256
  pub long : 15 ≤ length bytes
  pub due : length bytes + 15 * (word_count word - 1) ≡ 15 * fragment_count (short_at bytes 0)
  pub few : fragment_count (short_at bytes 0) ≤ 256

after_first : (word : List ℕ) → own_fault First word ≡ None → After word (word_limbs word)
after_first word e =
    let facts = own_none First word e in
    let counts = and_parts (nat_le 1 (word_count word)) (nat_le (word_count word) 256) facts.0 in
    let some : 1 ≤ word_count word = leb-true _ _ counts.0 in
    let most : word_count word ≤ 256 = leb-true _ _ counts.1 in
    let told : fragment_count (short_at word 1) ≡ word_count word = eqb-true _ _ (if-none _ _ facts.2) in
    let needs : fragment_count (short_at (word_limbs word) 0) ≡ word_count word = ap fragment_count (told_by_limbs word) ∙ told in
    let size : length (word_limbs word) ≡ 15 = length-fifteen _ in
    record { some = some; most = most; long = omega (arith, size); due = omega (arith, size, needs); few = omega (arith, needs) }

after_later : (left : ℕ) (bytes word : List ℕ) → FitsPhase (Later left) bytes → own_fault (Later left) word ≡ None → After word (bytes ++ word_limbs word)
after_later left bytes word fits e =
    let facts = own_none (Later left) word e in
    let count : word_count word ≡ left = eqb-true _ _ facts.0 in
    let size : length (word_limbs word) ≡ 15 = length-fifteen _ in
    let all : length (bytes ++ word_limbs word) ≡ length bytes + 15 = length-append bytes (word_limbs word) ∙ ap (λ (n : ℕ). length bytes + n) size in
    let some : 1 ≤ left = fits.0 in
    let long : 15 ≤ length bytes = fits.1 in
    let due : length bytes + 15 * left ≡ 15 * fragment_count (short_at bytes 0) = fits.2 in
    let few : fragment_count (short_at bytes 0) ≤ 256 = fits.3 in
    let same : fragment_count (short_at (bytes ++ word_limbs word) 0) ≡ fragment_count (short_at bytes 0) = ap fragment_count (told_before bytes (word_limbs word) (omega arith)) in
    record { some = omega arith; most = omega arith; long = omega arith; due = omega arith; few = omega arith }

-- the bytes after a word that breaks no check by itself
pub after_word : (phase : Phase) (bytes word : List ℕ) → IsGoing phase → FitsPhase phase bytes → own_fault phase word ≡ None → After word (bytes ++ word_limbs word)
after_word First bytes word going fits e = rw fits (after_first word e)
after_word (Later left) bytes word going fits e = after_later left bytes word fits e
after_word (Whole size) bytes word going fits e = absurd going
after_word Broken bytes word going fits e = absurd going

-- there is room for the bytes of a word
pub room_for_word : (phase : Phase) (bytes : List ℕ) → IsGoing phase → FitsPhase phase bytes → length bytes + 15 ≤ 3840
room_for_word First bytes going fits = rw fits (omega arith)
room_for_word (Later left) bytes going fits = omega (arith, fits.0, fits.2, fits.3)
room_for_word (Whole size) bytes going fits = absurd going
room_for_word Broken bytes going fits = absurd going

-- in a whole burst the message ends within the bytes
pub message_fits : (word bytes : List ℕ) → After word bytes → word_count word ≡ 1 → short_at bytes 0 + 2 ≤ length bytes
message_fits word bytes after one = let fits = (enough (short_at bytes 0)).0 in let due = after.due in omega arith

-- the bytes go with the phase after a step
pub fits_after : (phase : Phase) (bytes word : List ℕ) (step : BurstStep) (new : List ℕ) → IsGoing phase → FitsPhase phase bytes → Leads phase bytes word step new
    → FitsPhase (burst_phase_after step word) new × MayFollow step word
fits_after phase bytes word Goes new going fits leads =
    let after : After word new = rw leads.2 (after_word phase bytes word going fits leads.0) in
    let some : 1 ≤ word_count word = after.some in
    let more : 1 ≤ word_count word - 1 = first_left (word_count word) some leads.1 in
    ((more, after.long, after.due, after.few), (after.some, after.most))
  where
    first_left : (n : ℕ) → 1 ≤ n → (n ≡ 1 → ⊥) → 1 ≤ n - 1
    first_left zero le other = absurd (omega arith)
    first_left (suc zero) le other = absurd (other refl)
    first_left (suc (suc n)) le other = omega arith
fits_after phase bytes word (Message size) new going fits leads =
    let after : After word new = rw leads.2 (after_word phase bytes word going fits leads.0) in
    let whole : short_at new 0 + 2 ≤ length new = message_fits word new after leads.1 in
    (rw leads.4 whole, tt)
fits_after phase bytes word (Void why) new going fits leads = (tt, tt)
