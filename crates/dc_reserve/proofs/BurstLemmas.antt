-- One more word of a burst, against all its words.
use Rattle.std.proofs.Common.{◌≡◌, ℕ, zero, suc, ◌+◌, ◌-◌, ◌*◌, ◌<◌, ◌≤◌, cond, ◌==◌, List, [], ◌∷◌, ◌++◌, length, take, drop, get_or, Option, Some, None, option_map, refl, sym, ap, ap₂, ◌∙◌, subst, arith, inl, inr, length-append, length-take, length-drop, take_all, eq-eqb, ne_eqb}
use Rattle.std.specs.List.{filter_map, range_with_len, cons_option}
use Rattle.std.specs.Option.{option_or}
use Rattle.std.proofs.lemmas.Bool.{cases_lt}
use Rattle.std.proofs.lemmas.Bool.Decides.{eqb_tells}
use Rattle.std.proofs.lemmas.List.{get_or_append_left, get_or-append_right, append-nil}
use Rattle.std.proofs.lemmas.Grind.{flat_map-append}
use Rattle.dc_spec.specs.Bytes.{short_at}
use Rattle.dc_spec.specs.Values.{fifteen, word_count, word_limbs}
use Rattle.dc_station_rules.specs.Bursts.{BurstFault, burst_padding, nth_word, carried, stated_length, padding_fault, limb_fault, fault_at, burst_faults, Burst, goes_on, gave, void_burst, carried_message, burst_by_faults, burst_of}
use Rattle.dc_station_rules.proofs.BurstFaults.{fault_at-append}
use Rattle.dc_station_rules.proofs.Carried.{length-carried}
use Rattle.dc_station_rules.proofs.MessageBursts.{broken-burst, clean-ends, clean-goes}
use Rattle.dc_reserve.specs.declared.judge.BurstStep.{BurstStep}
use Rattle.dc_reserve.specs.declared.judge.BurstStep.TheVariants.{Goes, Message, Void}
use Rattle.dc_reserve.specs.declared.judge.Phase.{Phase}
use Rattle.dc_reserve.specs.declared.judge.Phase.TheVariants.{First, Later, Whole, Broken}
use Rattle.dc_reserve.specs.Phases.{IsGoing, FitsPhase, burst_fault_of, first_length_fault, own_fault, stray_byte, Leads, burst_phase_after}
use Rattle.dc_reserve.specs.StandsFor.{State, IsKeptOf, StandsFor, StepShows}
use Rattle.dc_reserve.proofs.StepLemmas.{After, after_word, message_fits}

-- nothing in front of an empty list
cons_none : {A : Type 0} (o : Option A) (xs : List A) → cons_option o xs ≡ [] → (o ≡ None) × (xs ≡ [])
cons_none None xs e = (refl, e)
cons_none (Some x) xs e = absurd cc

-- places that give nothing at all
none_each : {A : Type 0} (f : ℕ → Option A) (a n : ℕ) → filter_map f (range_with_len a n) ≡ [] → (i : ℕ) → i < n → f (a + i) ≡ None
none_each f a zero e i lt = absurd (omega arith)
none_each f a (suc n) e zero lt = let place : a ≡ a + 0 = omega arith in subst (λ k. f k ≡ None) place (cons_none (f a) _ e).0
none_each f a (suc n) e (suc i) lt = let place : a + 1 + i ≡ a + suc i = omega arith in subst (λ k. f k ≡ None) place (none_each f (a + 1) n (cons_none (f a) _ e).1 i (omega arith))

no_faults : (words : List (List ℕ)) (faults : List BurstFault) → burst_by_faults words faults ≡ goes_on → faults ≡ []
no_faults words [] e = refl
no_faults words (fault ∷ faults) e = absurd cc

-- no word of a burst that goes on is faulty
going_clean : (words : List (List ℕ)) → burst_of words ≡ goes_on → (i : ℕ) → i < length words → fault_at words i ≡ None
unfolding burst_of burst_faults
going_clean words e i lt = let place : 0 + i ≡ i = omega arith in subst (λ k. fault_at words k ≡ None) place (none_each (fault_at words) 0 (length words) (no_faults words _ e) i lt)

-- the words of the burst after one more
abbrev with_word : List (List ℕ) → List ℕ → List (List ℕ)
with_word words word = words ++ word ∷ []

length-with_word : (words : List (List ℕ)) (word : List ℕ) → length (with_word words word) ≡ length words + 1
length-with_word words word = length-append words (word ∷ [])

last-with_word : (words : List (List ℕ)) (word : List ℕ) → nth_word (with_word words word) (length words) ≡ word
last-with_word words word = get_or-append_right words (word ∷ []) (length words) (length words) [] refl (omega arith) ∙ first
  where
    first : get_or (word ∷ []) (length words - length words) [] ≡ word
    first = let none : length words - length words ≡ 0 = omega arith in rw none refl

carried-with_word : (words : List (List ℕ)) (word : List ℕ) → carried (with_word words word) ≡ carried words ++ word_limbs word
carried-with_word words word = flat_map-append word_limbs words (word ∷ []) ∙ ap (λ (more : List ℕ). carried words ++ more) (append-nil (word_limbs word))

-- the bytes have the length of the first word
told_carried : (words : List (List ℕ)) → 1 ≤ length words → stated_length words ≡ short_at (carried words) 0
unfolding fifteen
told_carried [] le = absurd (omega arith)
told_carried (word ∷ words) le = refl

-- the padding of all words
padding_is : (words : List (List ℕ)) (i : ℕ) → length words ≡ i + 1 → padding_fault words i ≡ cond (word_count (nth_word words i) == 1) (option_map burst_padding (stray_byte (carried words))) None
padding_is words i size =
    let told : stated_length words ≡ short_at (carried words) 0 = told_carried words (omega arith) in
    let whole : take (i + 1) words ≡ words = take_all (i + 1) words (omega arith) in
    let long : 15 * (i + 1) ≡ length (carried words) = omega (arith, length-carried words) in
    rw (whole, told, long) refl

-- three checks and a last one
or_apart : {A : Type 0} (a b c d : Option A) → option_or a (option_or b (option_or c d)) ≡ option_or (option_or a (option_or b c)) d
or_apart (Some x) b c d = refl
or_apart None (Some x) c d = refl
or_apart None None c d = refl

-- the first check that a word after these bytes breaks
abbrev next_fault : Phase → List ℕ → List ℕ → Option BurstFault
next_fault phase bytes word = option_or (own_fault phase word) (cond (word_count word == 1) (option_map burst_padding (stray_byte (bytes ++ word_limbs word))) None)

fault_of_first : (word : List ℕ) → fault_at (word ∷ []) 0 ≡ next_fault First [] word
unfolding fault_at
fault_of_first word =
    let padding : padding_fault (word ∷ []) 0 ≡ cond (word_count word == 1) (option_map burst_padding (stray_byte (word_limbs word))) None
    = padding_is (word ∷ []) 0 refl ∙ ap (λ (bytes : List ℕ). cond (word_count word == 1) (option_map burst_padding (stray_byte bytes)) None) (append-nil (word_limbs word)) in
    or_apart _ (limb_fault word) (first_length_fault First word) (padding_fault (word ∷ []) 0) ∙ ap (option_or (own_fault First word)) padding

one_less : (a b : ℕ) → (a + 1 == b + 1) ≡ (a == b)
one_less a b = elim (eqb_tells a b) [
  | inl e ↦ rw e.0 (eq-eqb (a + 1) (b + 1) (omega (arith, e.1)))
  | inr e ↦ rw e.0 (ne_eqb (a + 1) (b + 1) (λ same. e.1 (omega arith)))
]

fault_of_later : (words : List (List ℕ)) (word : List ℕ) (left i : ℕ) → length words ≡ suc i → word_count (nth_word words i) ≡ left + 1
    → fault_at (with_word words word) (suc i) ≡ next_fault (Later left) (carried words) word
unfolding fault_at
fault_of_later words word left i size count =
    let here : nth_word (with_word words word) (suc i) ≡ word = subst (λ (k : ℕ). nth_word (with_word words word) k ≡ word) size (last-with_word words word) in
    let before : nth_word (with_word words word) i ≡ nth_word words i = get_or_append_left words (word ∷ []) [] i (omega arith) in
    let padding : padding_fault (with_word words word) (suc i) ≡ cond (word_count word == 1) (option_map burst_padding (stray_byte (carried words ++ word_limbs word))) None
    = padding_is (with_word words word) (suc i) (omega (arith, length-with_word words word)) ∙ ap₂ (λ (w bytes : List ℕ). cond (word_count w == 1) (option_map burst_padding (stray_byte bytes)) None) here (carried-with_word words word) in
    rw (padding, here, before, count, one_less (word_count word) left) (or_apart _ (limb_fault word) None _)

-- the first check that the next word breaks
fault_of_next : (phase : Phase) (bytes : List ℕ) (words : List (List ℕ)) (word : List ℕ) → IsKeptOf phase bytes words goes_on
    → fault_at (with_word words word) (length words) ≡ next_fault phase bytes word
fault_of_next First bytes words word keeps = rw (keeps.0, keeps.1) (fault_of_first word)
fault_of_next (Later left) bytes words word keeps =
    let size : length words ≡ suc (length words - 1) = omega (arith, keeps.0) in
    ap (fault_at (with_word words word)) size ∙ (rw keeps.2 (fault_of_later words word left (length words - 1) size keeps.1))
fault_of_next (Whole size) bytes words word keeps = absurd keeps
fault_of_next Broken bytes words word keeps = absurd keeps

-- the words before are not faulty either
clean_before : (words : List (List ℕ)) (word : List ℕ) → burst_of words ≡ goes_on → (i : ℕ) → i < length words → fault_at (with_word words word) i ≡ None
clean_before words word e i lt = fault_at-append words (word ∷ []) i lt ∙ going_clean words e i lt

clean_all : (words : List (List ℕ)) (word : List ℕ) → burst_of words ≡ goes_on → fault_at (with_word words word) (length words) ≡ None → (i : ℕ) → i < length (with_word words word)
    → fault_at (with_word words word) i ≡ None
clean_all words word e last i lt = elim (cases_lt i (length words)) [
  | inl below ↦ clean_before words word e i below
  | inr le ↦ let same : length words ≡ i = omega (arith, length-with_word words word) in subst (λ (k : ℕ). fault_at (with_word words word) k ≡ None) same last
]

-- the last count
last_count : (words : List (List ℕ)) (word : List ℕ) → word_count (nth_word (with_word words word) (length (with_word words word) - 1)) ≡ word_count word
last_count words word =
    let place : length (with_word words word) - 1 ≡ length words = omega (arith, length-with_word words word) in
    rw place (ap word_count (last-with_word words word))

-- the bytes of all words
bytes_so_far : (phase : Phase) (bytes : List ℕ) (words : List (List ℕ)) → IsKeptOf phase bytes words goes_on → bytes ≡ carried words
bytes_so_far First bytes words keeps = rw (keeps.0, keeps.1) refl
bytes_so_far (Later left) bytes words keeps = keeps.2
bytes_so_far (Whole size) bytes words keeps = absurd keeps
bytes_so_far Broken bytes words keeps = absurd keeps

-- what one more word does: what is kept after it goes with all words, and the step shows what they are
pub one_more : (phase : Phase) (bytes : List ℕ) (words : List (List ℕ)) (word : List ℕ) (step : BurstStep) (new : List ℕ) → IsGoing phase → FitsPhase phase bytes → IsKeptOf phase bytes words goes_on
    → burst_of words ≡ goes_on → Leads phase bytes word step new
    → IsKeptOf (burst_phase_after step word) new (with_word words word) (burst_of (with_word words word)) × StepShows step (burst_of (with_word words word))
one_more phase bytes words word Goes new going fits keeps e leads =
    let fault : fault_at (with_word words word) (length words) ≡ None = fault_of_next phase bytes words word keeps ∙ (rw leads.0 (not_one (word_count word) leads.1)) in
    let is : burst_of (with_word words word) ≡ goes_on = clean-goes (with_word words word) (clean_all words word e fault) (λ one. leads.1 (sym (last_count words word) ∙ one)) in
    let after = after_word phase bytes word going fits leads.0 in
    let some : 1 ≤ word_count word = after.some in
    let count : word_count word ≡ word_count word - 1 + 1 = omega arith in
    (rw is (omega (arith, length-with_word words word), last_count words word ∙ count, leads.2 ∙ rw (bytes_so_far phase bytes words keeps) (sym (carried-with_word words word))), is)
  where
    not_one : (n : ℕ) → (n ≡ 1 → ⊥) → cond (n == 1) (option_map burst_padding (stray_byte (bytes ++ word_limbs word))) None ≡ None
    not_one n other = rw (ne_eqb n 1 other) refl
one_more phase bytes words word (Message size) new going fits keeps e leads =
    let all : new ≡ carried (with_word words word) = leads.2 ∙ rw (bytes_so_far phase bytes words keeps) (sym (carried-with_word words word)) in
    let stray : stray_byte (bytes ++ word_limbs word) ≡ None = sym (ap stray_byte leads.2) ∙ leads.3 in
    let fault : fault_at (with_word words word) (length words) ≡ None = fault_of_next phase bytes words word keeps ∙ (rw (leads.0, leads.1, stray) refl) in
    let is : burst_of (with_word words word) ≡ gave (carried_message (with_word words word)) = clean-ends (with_word words word) (clean_all words word e fault) (last_count words word ∙ leads.1) in
    let told : stated_length (with_word words word) ≡ size = told_carried (with_word words word) (omega (arith, length-with_word words word)) ∙ sym (ap (λ (b : List ℕ). short_at b 0) all) ∙ sym leads.4 in
    let message : carried_message (with_word words word) ≡ take size (drop 2 new) = ap₂ (λ (n : ℕ) (b : List ℕ). take n (drop 2 b)) told (sym all) in
    let after : After word new = rw leads.2 (after_word phase bytes word going fits leads.0) in
    let fit : short_at new 0 + 2 ≤ length new = message_fits word new after leads.1 in
    let told_size : size ≡ short_at new 0 = leads.4 in
    let long : length (carried_message (with_word words word)) ≡ size = rw message (omega (arith, length-take size (drop 2 new), length-drop 2 new)) in
    (rw is (message, long), (carried_message (with_word words word), (is, long)))
one_more phase bytes words word (Void why) new going fits keeps e leads =
    let fault : fault_at (with_word words word) (length words) ≡ Some (burst_fault_of why) = fault_of_next phase bytes words word keeps ∙ leads in
    let is : burst_of (with_word words word) ≡ void_burst (burst_fault_of why) = broken-burst words word (burst_fault_of why) (clean_before words word e) fault in
    (rw is tt, is)

-- where further words are due, the words so far go on
going_on : (phase : Phase) (bytes : List ℕ) (words : List (List ℕ)) (burst : Burst) → IsGoing phase → IsKeptOf phase bytes words burst → burst ≡ goes_on
going_on First bytes words goes_on going keeps = refl
going_on First bytes words (gave message) going keeps = absurd keeps
going_on First bytes words (void_burst fault) going keeps = absurd keeps
going_on (Later left) bytes words goes_on going keeps = refl
going_on (Later left) bytes words (gave message) going keeps = absurd keeps
going_on (Later left) bytes words (void_burst fault) going keeps = absurd keeps
going_on (Whole size) bytes words burst going keeps = absurd going
going_on Broken bytes words burst going keeps = absurd going

-- the same from what the object stands for
pub step_after : (state : State) (words : List (List ℕ)) (word : List ℕ) (step : BurstStep) (new : List ℕ) → IsGoing state.phase → FitsPhase state.phase state.bytes
    → Leads state.phase state.bytes word step new → StandsFor state words
    → IsKeptOf (burst_phase_after step word) new (with_word words word) (burst_of (with_word words word)) × StepShows step (burst_of (with_word words word))
step_after state words word step new going fits leads stands =
    let e : burst_of words ≡ goes_on = going_on state.phase state.bytes words (burst_of words) going stands.kept in
    one_more state.phase state.bytes words word step new going fits (subst (λ (b : Burst). IsKeptOf state.phase state.bytes words b) e stands.kept) e leads
