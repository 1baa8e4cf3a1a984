-- A hub core with one more arrival, and what it replies.
use Rattle.std.proofs.Common.{◌≡◌, ℕ, suc, ◌+◌, ◌*◌, ◌<◌, ◌≤◌, ◌≢◌, Bool, true, false, cond, not, List, [], ◌∷◌, ◌++◌, length, get_or, set, replicate, take, drop, nat_lt, nat_le, ◌==◌, if◌then◌else◌, Option, Some, None, Result, Ok, Err, is_none, refl, sym, ap, subst, ◌∙◌, inl, inr, arith, eqb-true, eq-eqb}
use Rattle.std.proofs.lemmas.Bool.{cases_Bool, cases_order, cases_eq, lt-ltb, le-ltb, lt-leb, leb-false, ltb-false, eqb-false, ne_eqb, and_parts, and_from, and_left, or_left, cond-true, cond-false}
use Rattle.std.proofs.lemmas.List.{length-set, length-take, length-drop, length-replicate, get_or-set_same, get_or-set_other, get_or-replicate, get_or-take, get_or-drop}
use Rattle.std.proofs.lemmas.List.FromFn.{length-map-range_with_len, get_or-map-range_with_len}
use Rattle.std.proofs.lemmas.Option.{slice_get-get_or}
use Rattle.dc_spec.specs.Words.{IsWord, AreWords, zero_word, word_sum}
use Rattle.dc_spec.proofs.WordLemmas.{IsWord-word_of}
use Rattle.dc_spec.specs.Recorded.{Recorded, round_words, superposed}
use Rattle.dc_hub_rules.specs.Hubs.{Arrival, HubReply, no_station, over, old, ahead, round_start, accepted, accepted_sum, is_complete, complete_rounds, first_missing, reply_accepted, reply_now, reply}
use Rattle.dc_hub_rules.proofs.HubLemmas.{same_some, none_some, none_or_some, start_kept, progress_began}
use Rattle.dc_hub_rules.proofs.OneMore.{is_from, accepted_kept, accepted_new, accepted_late, complete_accepted, accepted_complete, complete_before, later_not_begun, rounds_counted, first_round, none_accepted}
use Rattle.dc_superpose.specs.Presence.{first_clear}
use Rattle.dc_superpose.specs.HubCore.{HubState, IsHub, is_kept, kept_word, StandsFor, IsRecordOf}
use Rattle.dc_superpose.specs.HubSteps.{answer_of, fault_of, IsDue, Accepts, words_with, words_now}
use Rattle.dc_superpose.specs.declared.hub_step.HubStep.{HubStep}
use Rattle.dc_superpose.specs.declared.hub_step.HubStep.TheVariants.{Waiting, Complete}
use Rattle.dc_superpose.specs.declared.hub_fault.HubFault.{HubFault}
use Rattle.dc_superpose.specs.declared.hub_fault.HubFault.TheVariants.{Station, Over, Old, Ahead, Repeated}
use Rattle.dc_superpose.proofs.Rounds.{round_within}
use Rattle.dc_superpose.proofs.Flags.{first_clear-Some, clear_flag, set_flags, find-first_clear, filled}

-- ---- the table

-- a word of a complete round is there
kept_before : (n round : ℕ) (words : List (List ℕ)) (there : List Bool) (i t : ℕ) → t < round → kept_word n round words there i t ≡ Some (get_or words (t * n + i) [])
kept_before n round words there i t lt = cond-true (is_kept round there i t) _ _ (or_left (nat_lt t round) _ (lt-ltb t round lt))

-- a word of the round in progress is there where the flag of its station is set
kept_now : (n round : ℕ) (words : List (List ℕ)) (there : List Bool) (i : ℕ) → kept_word n round words there i round ≡ cond (get_or there i false) (Some (get_or words (round * n + i) [])) None
kept_now n round words there i =
    let not_before : nat_lt round round ≡ false = le-ltb round round (omega arith) in
    let now : (round == round) ≡ true = eq-eqb round round refl in
    rw (not_before, now) refl

-- a word of a later round is not
kept_after : (n round : ℕ) (words : List (List ℕ)) (there : List Bool) (i t : ℕ) → round < t → kept_word n round words there i t ≡ None
kept_after n round words there i t lt =
    let not_before : nat_lt t round ≡ false = le-ltb t round (omega arith) in
    let not_now : (t == round) ≡ false = ne_eqb t round (λ e. omega arith) in
    rw (not_before, not_now) refl

-- where no flag is set, no word of the round in progress is there
kept_none : (n round : ℕ) (words : List (List ℕ)) (i t : ℕ) → i < n → round ≤ t → kept_word n round words (replicate n false) i t ≡ None
kept_none n round words i t lt le = elim (cases_eq t round) [
  | inl same ↦ subst (λ (u : ℕ). kept_word n round words (replicate n false) i u ≡ None) (sym same)
      (kept_now n round words (replicate n false) i ∙ cond-false _ _ _ (get_or-replicate n i false false lt))
  | inr other ↦ kept_after n round words (replicate n false) i t (omega arith)
]

-- ---- the accepted words with one more arrival

next_before : (c : HubState) (n rounds : ℕ) (xs : List Arrival) (a : Arrival) (i t : ℕ) → StandsFor c n rounds xs → i < c.stations → t < c.rounds → t < c.round
    → accepted c.stations (xs ++ a ∷ []) i t ≡ Some (get_or c.words (t * c.stations + i) [])
next_before c n rounds xs a i t stands lt low before =
    accepted_kept c.stations xs (a ∷ []) i t _ (stands.words_are i t lt low ∙ kept_before c.stations c.round c.words c.there i t before)

next_there : (c : HubState) (n rounds : ℕ) (xs : List Arrival) (a : Arrival) (i : ℕ) → StandsFor c n rounds xs → i < c.stations → c.round < c.rounds → get_or c.there i false ≡ true
    → accepted c.stations (xs ++ a ∷ []) i c.round ≡ Some (get_or c.words (c.round * c.stations + i) [])
next_there c n rounds xs a i stands lt going there =
    accepted_kept c.stations xs (a ∷ []) i c.round _ (stands.words_are i c.round lt going ∙ kept_now c.stations c.round c.words c.there i ∙ cond-true _ _ _ there)

next_missing : (c : HubState) (n rounds : ℕ) (xs : List Arrival) (a : Arrival) (i : ℕ) → StandsFor c n rounds xs → i < c.stations → c.round < c.rounds → get_or c.there i false ≡ false
    → accepted c.stations (xs ++ a ∷ []) i c.round ≡ cond (is_from i c.round a) (Some a.word) None
next_missing c n rounds xs a i stands lt going missing =
    let began = progress_began c.stations c.rounds xs c.round (sym stands.round_is) in
    accepted_new c.stations xs a i c.round began.0 began.1 (stands.words_are i c.round lt going ∙ kept_now c.stations c.round c.words c.there i ∙ cond-false _ _ _ missing)

next_after : (c : HubState) (n rounds : ℕ) (xs : List Arrival) (a : Arrival) (i t : ℕ) → StandsFor c n rounds xs → t < c.rounds → c.round < t → accepted c.stations (xs ++ a ∷ []) i t ≡ None
next_after c n rounds xs a i t stands low after = accepted_late c.stations xs a i t (later_not_begun c.stations c.rounds xs c.round t (sym stands.round_is) after (omega arith))

-- the round in progress has begun
began_still : (c : HubState) (n rounds : ℕ) (xs : List Arrival) (a : Arrival) → StandsFor c n rounds xs → (s : ℕ) × (round_start c.stations (xs ++ a ∷ []) c.round ≡ Some s)
began_still c n rounds xs a stands =
    let began = progress_began c.stations c.rounds xs c.round (sym stands.round_is) in
    (began.0, start_kept c.stations xs (a ∷ []) c.round began.0 began.1)

-- as many rounds are complete while a word of the round in progress is missing
still_counted : (stations rounds round s f : ℕ) (xs : List Arrival) → round_start stations xs round ≡ Some s → round ≤ rounds → f < stations → (round < rounds → accepted stations xs f round ≡ None)
    → round ≡ complete_rounds stations rounds xs
still_counted stations rounds round s f xs began le lt missing = sym (rounds_counted stations rounds xs round s le began (λ going. elim (none_or_some (round_start stations xs (suc round))) [
  | inl none ↦ none
  | inr some ↦ absurd (let word = complete_accepted stations xs round some.0 f some.1 lt in none_some word.0 _ word.1 (missing going))
]))

-- ---- faults

none_of : (b1 b2 b3 b4 b5 : Bool) (f1 f2 f3 f4 f5 : HubFault) → (if b1 then Some f1 else if b2 then Some f2 else if b3 then Some f3 else if b4 then Some f4 else if b5 then Some f5 else None) ≡ None
    → (b1 ≡ false) × (b2 ≡ false) × (b3 ≡ false) × (b4 ≡ false) × (b5 ≡ false)
none_of true b2 b3 b4 b5 f1 f2 f3 f4 f5 h = absurd (none_some f1 _ refl h)
none_of false true b3 b4 b5 f1 f2 f3 f4 f5 h = absurd (none_some f2 _ refl h)
none_of false false true b4 b5 f1 f2 f3 f4 f5 h = absurd (none_some f3 _ refl h)
none_of false false false true b5 f1 f2 f3 f4 f5 h = absurd (none_some f4 _ refl h)
none_of false false false false true f1 f2 f3 f4 f5 h = absurd (none_some f5 _ refl h)
none_of false false false false false f1 f2 f3 f4 f5 h = (refl, refl, refl, refl, refl)

-- a word that is not refused is due
pub due : (c : HubState) (i t : ℕ) → IsHub c → fault_of c i t ≡ None → IsDue c i × (t ≡ c.round)
due c i t hub h =
    let tests = none_of (nat_le c.stations i) (c.round == c.rounds) (nat_lt t c.round) (nat_lt c.round t) (get_or c.there i false) _ _ _ _ _ h in
    let ne : c.round ≢ c.rounds = eqb-false c.round c.rounds tests.1 in
    let within = hub.within in
    let low = ltb-false t c.round tests.2 in
    let high = ltb-false c.round t tests.3 in
    (record { station = leb-false c.stations i tests.0; going = omega arith; missing = tests.4 }, omega arith)

-- and a word that is due is not refused
not_refused : (c : HubState) (i : ℕ) → IsDue c i → fault_of c i c.round ≡ None
not_refused c i due =
    let lt = due.station in
    let going = due.going in
    let b1 : nat_le c.stations i ≡ false = lt-leb c.stations i lt in
    let b2 : (c.round == c.rounds) ≡ false = ne_eqb c.round c.rounds (λ e. omega arith) in
    let b3 : nat_lt c.round c.round ≡ false = le-ltb c.round c.round (omega arith) in
    let b5 : get_or c.there i false ≡ false = due.missing in
    rw (b1, b2, b3, b5) refl

-- a refused word is not of a station whose word of the round in progress is missing
refused_from : (c : HubState) (a : Arrival) (f : HubFault) (i : ℕ) → fault_of c a.station a.round ≡ Some f → IsDue c i → is_from i c.round a ≡ false
refused_from c a f i h due = elim (cases_Bool (is_from i c.round a)) [
  | inr other ↦ other
  | inl same ↦ absurd (let tests = and_parts (a.station == i) (a.round == c.round) same in
      none_some f _ h (ap (λ (j : ℕ). fault_of c j a.round) (eqb-true a.station i tests.0) ∙ ap (fault_of c i) (eqb-true a.round c.round tests.1) ∙ not_refused c i due))
]

-- ---- a refused arrival

refused_missing : (c : HubState) (n rounds : ℕ) (xs : List Arrival) (a : Arrival) (f : HubFault) (i : ℕ) → StandsFor c n rounds xs → fault_of c a.station a.round ≡ Some f → IsDue c i
    → accepted c.stations (xs ++ a ∷ []) i c.round ≡ None
refused_missing c n rounds xs a f i stands h due = next_missing c n rounds xs a i stands due.station due.going due.missing ∙ cond-false _ _ _ (refused_from c a f i h due)

refused_now : (c : HubState) (n rounds : ℕ) (xs : List Arrival) (a : Arrival) (f : HubFault) (i : ℕ) → StandsFor c n rounds xs → fault_of c a.station a.round ≡ Some f → i < c.stations
    → c.round < c.rounds → accepted c.stations (xs ++ a ∷ []) i c.round ≡ kept_word c.stations c.round c.words c.there i c.round
refused_now c n rounds xs a f i stands h lt going = elim (cases_Bool (get_or c.there i false)) [
  | inl there ↦ next_there c n rounds xs a i stands lt going there ∙ sym (kept_now c.stations c.round c.words c.there i ∙ cond-true _ _ _ there)
  | inr missing ↦ refused_missing c n rounds xs a f i stands h (record { station = lt; going = going; missing = missing })
      ∙ sym (kept_now c.stations c.round c.words c.there i ∙ cond-false _ _ _ missing)
]

-- a refused arrival changes nothing
pub refused_stands : (c : HubState) (n rounds : ℕ) (xs : List Arrival) (a : Arrival) (f : HubFault) → IsHub c → fault_of c a.station a.round ≡ Some f → StandsFor c n rounds xs
    → StandsFor c n rounds (xs ++ a ∷ [])
refused_stands c n rounds xs a f hub h stands =
    let began = began_still c n rounds xs a stands in
    let flag = clear_flag c.there hub.missing.0 hub.missing.1 in
    let long = hub.flags in
    let first : hub.missing.0 < c.stations = (let e = flag.0 in omega arith) in
    record {
      stations_are = stands.stations_are;
      rounds_are = stands.rounds_are;
      round_is = still_counted c.stations c.rounds c.round began.0 hub.missing.0 (xs ++ a ∷ []) began.1 hub.within first
          (λ going. refused_missing c n rounds xs a f hub.missing.0 stands h (record { station = first; going = going; missing = flag.1 }));
      words_are = λ i t lt low. elim (cases_order t c.round) [
        | inl same ↦ subst (λ (u : ℕ). accepted c.stations (xs ++ a ∷ []) i u ≡ kept_word c.stations c.round c.words c.there i u) (sym same)
            (refused_now c n rounds xs a f i stands h lt (omega arith))
        | inr (inl before) ↦ next_before c n rounds xs a i t stands lt low before ∙ sym (kept_before c.stations c.round c.words c.there i t before)
        | inr (inr after) ↦ next_after c n rounds xs a i t stands low after ∙ sym (kept_after c.stations c.round c.words c.there i t after)
      ];
    }

-- ---- an accepted arrival

-- the place of the word is one of the table
place_within : (c : HubState) (i : ℕ) → IsHub c → IsDue c i → c.round * c.stations + i < length c.words
place_within c i hub due =
    let most = round_within c.round c.rounds c.stations due.going in
    let count = hub.session.count in
    let lt = due.station in
    omega arith

with_before : (c : HubState) (n rounds : ℕ) (xs : List Arrival) (a : Arrival) (i t : ℕ) → StandsFor c n rounds xs → i < c.stations → t < c.rounds → t < c.round
    → accepted c.stations (xs ++ a ∷ []) i t ≡ kept_word c.stations c.round (words_with c a.station a.word) (set c.there a.station true) i t
with_before c n rounds xs a i t stands lt low before =
    let apart = round_within t c.round c.stations before in
    let other : t * c.stations + i ≢ c.round * c.stations + a.station = λ e. omega arith in
    next_before c n rounds xs a i t stands lt low before
    ∙ ap (λ (w : List ℕ). Some w) (sym (get_or-set_other c.words (c.round * c.stations + a.station) (t * c.stations + i) a.word [] other))
    ∙ sym (kept_before c.stations c.round (words_with c a.station a.word) (set c.there a.station true) i t before)

with_own : (c : HubState) (n rounds : ℕ) (xs : List Arrival) (a : Arrival) → IsHub c → StandsFor c n rounds xs → IsDue c a.station → a.round ≡ c.round
    → accepted c.stations (xs ++ a ∷ []) a.station c.round ≡ kept_word c.stations c.round (words_with c a.station a.word) (set c.there a.station true) a.station c.round
with_own c n rounds xs a hub stands due now =
    let long = hub.flags in
    let lt = due.station in
    next_missing c n rounds xs a a.station stands due.station due.going due.missing
    ∙ cond-true _ _ _ (and_from (a.station == a.station) (a.round == c.round) (eq-eqb a.station a.station refl) (eq-eqb a.round c.round now))
    ∙ sym (kept_now c.stations c.round (words_with c a.station a.word) (set c.there a.station true) a.station
    ∙ cond-true _ _ _ (get_or-set_same c.there a.station true false (omega arith))
    ∙ ap (λ (w : List ℕ). Some w) (get_or-set_same c.words (c.round * c.stations + a.station) a.word [] (place_within c a.station hub due)))

with_other : (c : HubState) (n rounds : ℕ) (xs : List Arrival) (a : Arrival) (i : ℕ) → StandsFor c n rounds xs → i < c.stations → c.round < c.rounds → i ≢ a.station
    → accepted c.stations (xs ++ a ∷ []) i c.round ≡ kept_word c.stations c.round (words_with c a.station a.word) (set c.there a.station true) i c.round
with_other c n rounds xs a i stands lt going other =
    let flag : get_or (set c.there a.station true) i false ≡ get_or c.there i false = get_or-set_other c.there a.station i true false other in
    let place : c.round * c.stations + i ≢ c.round * c.stations + a.station = λ e. other (omega arith) in
    elim (cases_Bool (get_or c.there i false)) [
      | inl there ↦ next_there c n rounds xs a i stands lt going there
          ∙ ap (λ (w : List ℕ). Some w) (sym (get_or-set_other c.words (c.round * c.stations + a.station) (c.round * c.stations + i) a.word [] place))
          ∙ sym (kept_now c.stations c.round (words_with c a.station a.word) (set c.there a.station true) i ∙ cond-true _ _ _ (flag ∙ there))
      | inr missing ↦ next_missing c n rounds xs a i stands lt going missing
          ∙ cond-false _ _ _ (and_left (a.station == i) (a.round == c.round) (ne_eqb a.station i (λ e. other (sym e))))
          ∙ sym (kept_now c.stations c.round (words_with c a.station a.word) (set c.there a.station true) i ∙ cond-false _ _ _ (flag ∙ missing))
    ]

with_now : (c : HubState) (n rounds : ℕ) (xs : List Arrival) (a : Arrival) (i : ℕ) → IsHub c → StandsFor c n rounds xs → IsDue c a.station → a.round ≡ c.round → i < c.stations
    → accepted c.stations (xs ++ a ∷ []) i c.round ≡ kept_word c.stations c.round (words_with c a.station a.word) (set c.there a.station true) i c.round
with_now c n rounds xs a i hub stands due now lt = elim (cases_eq i a.station) [
  | inl same ↦ subst (λ (j : ℕ). accepted c.stations (xs ++ a ∷ []) j c.round ≡ kept_word c.stations c.round (words_with c a.station a.word) (set c.there a.station true) j c.round) (sym same)
      (with_own c n rounds xs a hub stands due now)
  | inr other ↦ with_other c n rounds xs a i stands lt due.going other
]

-- the accepted words are those of the table with the word
with_words : (c : HubState) (n rounds : ℕ) (xs : List Arrival) (a : Arrival) (i t : ℕ) → IsHub c → StandsFor c n rounds xs → IsDue c a.station → a.round ≡ c.round → i < c.stations → t < c.rounds
    → accepted c.stations (xs ++ a ∷ []) i t ≡ kept_word c.stations c.round (words_with c a.station a.word) (set c.there a.station true) i t
with_words c n rounds xs a i t hub stands due now lt low = elim (cases_order t c.round) [
  | inl same ↦ subst (λ (u : ℕ). accepted c.stations (xs ++ a ∷ []) i u ≡ kept_word c.stations c.round (words_with c a.station a.word) (set c.there a.station true) i u) (sym same)
      (with_now c n rounds xs a i hub stands due now lt)
  | inr (inl before) ↦ with_before c n rounds xs a i t stands lt low before
  | inr (inr after) ↦ next_after c n rounds xs a i t stands low after
      ∙ sym (kept_after c.stations c.round (words_with c a.station a.word) (set c.there a.station true) i t after)
]

-- the accepted words of the round, by the flags
flagged : (c : HubState) (n rounds : ℕ) (xs : List Arrival) (a : Arrival) (i : ℕ) → IsHub c → StandsFor c n rounds xs → IsDue c a.station → a.round ≡ c.round → i < c.stations
    → accepted c.stations (xs ++ a ∷ []) i c.round ≡ cond (get_or (set c.there a.station true) i false) (Some (get_or (words_with c a.station a.word) (c.round * c.stations + i) [])) None
flagged c n rounds xs a i hub stands due now lt = with_now c n rounds xs a i hub stands due now lt ∙ kept_now c.stations c.round (words_with c a.station a.word) (set c.there a.station true) i

-- a word after which others are missing
pub waiting_stands : (c : HubState) (n rounds : ℕ) (xs : List Arrival) (a : Arrival) (m : ℕ) → IsHub c → IsDue c a.station → a.round ≡ c.round → first_clear (set c.there a.station true) ≡ Some m
    → StandsFor c n rounds xs
    → StandsFor (record { stations = c.stations; rounds = c.rounds; round = c.round; words = words_with c a.station a.word; there = set c.there a.station true }) n rounds (xs ++ a ∷ [])
waiting_stands c n rounds xs a m hub due now first stands =
    let began = began_still c n rounds xs a stands in
    let flag = clear_flag (set c.there a.station true) m first in
    let within : m < c.stations = omega (arith, flag.0, length-set c.there a.station true, hub.flags) in
    record {
      stations_are = stands.stations_are;
      rounds_are = stands.rounds_are;
      round_is = still_counted c.stations c.rounds c.round began.0 m (xs ++ a ∷ []) began.1 hub.within within
          (λ going. flagged c n rounds xs a m hub stands due now within ∙ cond-false _ _ _ flag.1);
      words_are = λ i t lt low. with_words c n rounds xs a i t hub stands due now lt low;
    }

all_there : (c : HubState) (n rounds : ℕ) (xs : List Arrival) (a : Arrival) (i : ℕ) → IsHub c → IsDue c a.station → a.round ≡ c.round → first_clear (set c.there a.station true) ≡ None
    → StandsFor c n rounds xs → i < c.stations → accepted c.stations (xs ++ a ∷ []) i c.round ≡ Some (get_or (words_with c a.station a.word) (c.round * c.stations + i) [])
all_there c n rounds xs a i hub due now full stands lt =
    flagged c n rounds xs a i hub stands due now lt
    ∙ cond-true _ _ _ (set_flags (set c.there a.station true) full i (omega (arith, length-set c.there a.station true, hub.flags)))

-- the last word of a round
pub complete_stands : (c : HubState) (n rounds : ℕ) (xs : List Arrival) (a : Arrival) → IsHub c → IsDue c a.station → a.round ≡ c.round → first_clear (set c.there a.station true) ≡ None
    → StandsFor c n rounds xs
    → StandsFor (record { stations = c.stations; rounds = c.rounds; round = c.round + 1; words = words_with c a.station a.word; there = replicate c.stations false }) n rounds (xs ++ a ∷ [])
complete_stands c n rounds xs a hub due now full stands =
    let began = began_still c n rounds xs a stands in
    let ended = accepted_complete c.stations (xs ++ a ∷ []) c.round began.0 began.1 (λ i lt. (_, all_there c n rounds xs a i hub due now full stands lt)) in
    let next : c.round + 1 ≡ suc c.round = omega arith in
    let going = due.going in
    let some = hub.session.some_stations in
    record {
      stations_are = stands.stations_are;
      rounds_are = stands.rounds_are;
      round_is = still_counted c.stations c.rounds (c.round + 1) ended.0 0 (xs ++ a ∷ []) (ap (round_start c.stations (xs ++ a ∷ [])) next ∙ ended.1) (omega arith) (omega arith)
          (λ more. next_after c n rounds xs a 0 (c.round + 1) stands more (omega arith));
      words_are = λ i t lt low. elim (cases_order t c.round) [
        | inl same ↦ subst (λ (u : ℕ). accepted c.stations (xs ++ a ∷ []) i u ≡ kept_word c.stations (c.round + 1) (words_with c a.station a.word) (replicate c.stations false) i u) (sym same)
            (all_there c n rounds xs a i hub due now full stands lt
            ∙ sym (kept_before c.stations (c.round + 1) (words_with c a.station a.word) (replicate c.stations false) i c.round (omega arith)))
        | inr (inl before) ↦ with_before c n rounds xs a i t stands lt low before
            ∙ kept_before c.stations c.round (words_with c a.station a.word) (set c.there a.station true) i t before
            ∙ sym (kept_before c.stations (c.round + 1) (words_with c a.station a.word) (replicate c.stations false) i t (omega arith))
        | inr (inr after) ↦ next_after c n rounds xs a i t stands low after ∙ sym (kept_none c.stations (c.round + 1) (words_with c a.station a.word) i t lt (omega arith))
      ];
    }

-- ---- replies

abbrev reply_at : ℕ → ℕ → List Arrival → Arrival → ℕ → HubReply
reply_at n rounds xs a now =
    if nat_le n a.station then no_station a.station
    else if now == rounds then over
    else if nat_lt a.round now then old now
    else if nat_lt now a.round then ahead now
    else reply_now n xs a (accepted n xs a.station now)

-- the reply by the round that the core has
reply_by : (c : HubState) (n rounds : ℕ) (xs : List Arrival) (a : Arrival) → StandsFor c n rounds xs → reply n rounds xs a ≡ reply_at c.stations c.rounds xs a c.round
reply_by c n rounds xs a stands =
    ap (λ (k : ℕ). reply k rounds xs a) (sym stands.stations_are) ∙ ap (λ (k : ℕ). reply c.stations k xs a) (sym stands.rounds_are) ∙ ap (reply_at c.stations c.rounds xs a) (sym stands.round_is)

abbrev refusal_of : HubFault → Result HubStep HubFault
refusal_of f = Err f

chosen : (b1 b2 b3 b4 b5 : Bool) (s now n : ℕ) (kept : List ℕ) (xs : List Arrival) (a : Arrival) (o : Option (List ℕ)) (f : HubFault) → (b1 ≡ false → b2 ≡ false → o ≡ cond b5 (Some kept) None)
    → (if b1 then Some (Station s) else if b2 then Some Over else if b3 then Some (Old now) else if b4 then Some (Ahead now) else if b5 then Some (Repeated kept) else None) ≡ Some f
    → answer_of (if b1 then no_station s else if b2 then over else if b3 then old now else if b4 then ahead now else reply_now n xs a o) ≡ refusal_of f
chosen true b2 b3 b4 b5 s now n kept xs a o f same h = ap refusal_of (same_some (Station s) f h)
chosen false true b3 b4 b5 s now n kept xs a o f same h = ap refusal_of (same_some Over f h)
chosen false false true b4 b5 s now n kept xs a o f same h = ap refusal_of (same_some (Old now) f h)
chosen false false false true b5 s now n kept xs a o f same h = ap refusal_of (same_some (Ahead now) f h)
chosen false false false false true s now n kept xs a o f same h =
    ap (λ (p : Option (List ℕ)). answer_of (reply_now n xs a p)) (same refl refl) ∙ ap refusal_of (same_some (Repeated kept) f h)
chosen false false false false false s now n kept xs a o f same h = absurd (none_some f _ h refl)

pub refused_reply : (c : HubState) (n rounds : ℕ) (xs : List Arrival) (a : Arrival) (f : HubFault) → IsHub c → fault_of c a.station a.round ≡ Some f → StandsFor c n rounds xs
    → answer_of (reply n rounds xs a) ≡ Err f
refused_reply c n rounds xs a f hub h stands =
    let within = hub.within in
    ap answer_of (reply_by c n rounds xs a stands)
    ∙ chosen (nat_le c.stations a.station) (c.round == c.rounds) (nat_lt a.round c.round) (nat_lt c.round a.round) (get_or c.there a.station false) a.station c.round c.stations
    (get_or c.words (c.round * c.stations + a.station) []) xs a (accepted c.stations xs a.station c.round) f
    (λ is_station is_going. let ne : c.round ≢ c.rounds = eqb-false c.round c.rounds is_going in
    stands.words_are a.station c.round (leb-false c.stations a.station is_station) (omega arith) ∙ kept_now c.stations c.round c.words c.there a.station) h

due_reply : (c : HubState) (n rounds : ℕ) (xs : List Arrival) (a : Arrival) → StandsFor c n rounds xs → IsDue c a.station → a.round ≡ c.round
    → reply n rounds xs a ≡ reply_accepted c.stations (xs ++ a ∷ []) c.round (first_missing c.stations (xs ++ a ∷ []) c.round)
due_reply c n rounds xs a stands due now =
    let lt = due.station in
    let going = due.going in
    let b1 : nat_le c.stations a.station ≡ false = lt-leb c.stations a.station lt in
    let b2 : (c.round == c.rounds) ≡ false = ne_eqb c.round c.rounds (λ e. omega arith) in
    let b3 : nat_lt a.round c.round ≡ false = le-ltb a.round c.round (omega arith) in
    let b4 : nat_lt c.round a.round ≡ false = le-ltb c.round a.round (omega arith) in
    let none : accepted c.stations xs a.station c.round ≡ None = stands.words_are a.station c.round lt going ∙ kept_now c.stations c.round c.words c.there a.station ∙ cond-false _ _ _ due.missing in
    let at : reply_at c.stations c.rounds xs a c.round ≡ reply_now c.stations xs a None = last (nat_le c.stations a.station) (c.round == c.rounds) (nat_lt a.round c.round) (nat_lt c.round a.round)
    a.station c.round c.stations xs a (accepted c.stations xs a.station c.round) b1 b2 b3 b4 none in
    reply_by c n rounds xs a stands ∙ at ∙ ap (λ (t : ℕ). reply_accepted c.stations (xs ++ a ∷ []) t (first_missing c.stations (xs ++ a ∷ []) t)) now
  where
    last : (b1 b2 b3 b4 : Bool) (s round k : ℕ) (xs : List Arrival) (a : Arrival) (o : Option (List ℕ)) → b1 ≡ false → b2 ≡ false → b3 ≡ false → b4 ≡ false → o ≡ None
        → (if b1 then no_station s else if b2 then over else if b3 then old round else if b4 then ahead round else reply_now k xs a o) ≡ reply_now k xs a None
    last b1 b2 b3 b4 s round k xs a o e1 e2 e3 e4 none = rw (e1, e2, e3, e4, none) refl

missing_is : (c : HubState) (n rounds : ℕ) (xs : List Arrival) (a : Arrival) → IsHub c → StandsFor c n rounds xs → IsDue c a.station → a.round ≡ c.round
    → first_missing c.stations (xs ++ a ∷ []) c.round ≡ first_clear (set c.there a.station true)
missing_is c n rounds xs a hub stands due now = find-first_clear (λ i. is_none (accepted c.stations (xs ++ a ∷ []) i c.round)) (set c.there a.station true) c.stations
    (length-set c.there a.station true ∙ hub.flags)
    (λ i lt. ap is_none (flagged c n rounds xs a i hub stands due now lt)
    ∙ none_where (get_or (set c.there a.station true) i false) (get_or (words_with c a.station a.word) (c.round * c.stations + i) []))
  where
    none_where : (b : Bool) (w : List ℕ) → is_none (cond b (Some w) None) ≡ not b
    none_where true w = refl
    none_where false w = refl

pub waiting_reply : (c : HubState) (n rounds : ℕ) (xs : List Arrival) (a : Arrival) (m : ℕ) → IsHub c → IsDue c a.station → a.round ≡ c.round → first_clear (set c.there a.station true) ≡ Some m
    → StandsFor c n rounds xs → answer_of (reply n rounds xs a) ≡ Ok (Waiting m)
waiting_reply c n rounds xs a m hub due now first stands =
    ap answer_of (due_reply c n rounds xs a stands due now
    ∙ ap (reply_accepted c.stations (xs ++ a ∷ []) c.round) (missing_is c n rounds xs a hub stands due now ∙ first))

-- the sum of the accepted words of a round whose words stand one after the other
sum_of_round : (n t : ℕ) (xs : List Arrival) (words : List (List ℕ)) → t * n + n ≤ length words → ((i : ℕ) → i < n → accepted n xs i t ≡ Some (get_or words (t * n + i) []))
    → accepted_sum n xs t ≡ word_sum (take n (drop (t * n) words))
sum_of_round n t xs words long at =
    let count : length (take n (drop (t * n) words)) ≡ n = omega (arith, length-take n (drop (t * n) words), length-drop (t * n) words) in
    ap word_sum (filled (λ i. accepted n xs i t) (take n (drop (t * n) words)) [] n count
    (λ i lt. at i lt ∙ ap (λ (w : List ℕ). Some w) (sym (get_or-take n (drop (t * n) words) i [] lt ∙ get_or-drop (t * n) words i []))))

abbrev completed : List ℕ → Result HubStep HubFault
completed w = Ok (Complete w)

pub complete_reply : (c : HubState) (n rounds : ℕ) (xs : List Arrival) (a : Arrival) → IsHub c → IsDue c a.station → a.round ≡ c.round → first_clear (set c.there a.station true) ≡ None
    → StandsFor c n rounds xs → answer_of (reply n rounds xs a) ≡ Ok (Complete (word_sum (words_now c (words_with c a.station a.word))))
complete_reply c n rounds xs a hub due now full stands =
    let most = round_within c.round c.rounds c.stations due.going in
    let count = hub.session.count in
    let long = length-set c.words (c.round * c.stations + a.station) a.word in
    ap answer_of (due_reply c n rounds xs a stands due now
    ∙ ap (reply_accepted c.stations (xs ++ a ∷ []) c.round) (missing_is c n rounds xs a hub stands due now ∙ full))
    ∙ ap completed (sum_of_round c.stations c.round (xs ++ a ∷ []) (words_with c a.station a.word) (omega arith)
    (λ i lt. all_there c n rounds xs a i hub due now full stands lt))

-- ---- the start, the first missing station and the end

start_with : (n rounds : ℕ) (words : List (List ℕ)) → 1 ≤ n → 1 ≤ rounds
    → StandsFor (record { stations = n; rounds = rounds; round = 0; words = words; there = replicate n false }) n rounds []
start_with n rounds words some some' = record {
  stations_are = refl;
  rounds_are = refl;
  round_is = still_counted n rounds 0 0 0 [] (first_round n) (omega arith) (omega arith) (λ going. none_accepted n 0 0);
  words_are = λ i t lt low. none_accepted n i t ∙ sym (kept_none n 0 words i t lt (omega arith));
}

pub start_stands : (n rounds : ℕ) (words : List (List ℕ)) (there : List Bool) → 1 ≤ n → 1 ≤ rounds → there ≡ replicate n false
    → StandsFor (record { stations = n; rounds = rounds; round = 0; words = words; there = there }) n rounds []
start_stands n rounds words there some some' is =
    subst (λ (fs : List Bool). StandsFor (record { stations = n; rounds = rounds; round = 0; words = words; there = fs }) n rounds []) (sym is) (start_with n rounds words some some')

-- where no flag is set, the first station's is not
first_of_none : (n : ℕ) → 1 ≤ n → first_clear (replicate n false) ≡ Some 0
first_of_none n some =
    let long = length-replicate n false in
    first_clear-Some (replicate n false) 0 (λ k low. absurd (omega arith)) (omega arith) (get_or-replicate n 0 false false (omega arith))

pub start_hub : (n rounds count : ℕ) (words : List (List ℕ)) (there : List Bool) → 1 ≤ n → n ≤ 256 → 1 ≤ rounds → rounds ≤ 4096 → count ≡ rounds * n → words ≡ replicate count zero_word
    → there ≡ replicate n false → IsHub (record { stations = n; rounds = rounds; round = 0; words = words; there = there })
start_hub n rounds count words there some most some' most' product zeros clear = record {
  session = record {
    some_stations = some;
    most_stations = most;
    some_rounds = some';
    most_rounds = most';
    count = ap (λ (ws : List (List ℕ)). length ws) zeros ∙ length-replicate count zero_word ∙ product;
    are_words = subst AreWords (sym zeros) (zeros_are_words count);
  };
  within = omega arith;
  flags = ap (λ (fs : List Bool). length fs) clear ∙ length-replicate n false;
  missing = (0, ap first_clear clear ∙ first_of_none n some);
}
  where
    zeros_are_words : (count : ℕ) → AreWords (replicate count zero_word)
    zeros_are_words count = λ k d lt. let long = length-replicate count zero_word in
        subst IsWord (sym (get_or-replicate count k zero_word d (omega arith))) (IsWord-word_of (λ _. 0) (λ k lt. omega arith))

-- ---- the answer to a word that is due

pub accepted_reply : (c new : HubState) (n rounds : ℕ) (xs : List Arrival) (a : Arrival) (step : HubStep) → IsHub c → IsDue c a.station → a.round ≡ c.round → Accepts c a.station a.word new step
    → StandsFor c n rounds xs → Ok step ≡ answer_of (reply n rounds xs a)
accepted_reply c new n rounds xs a (Waiting m) hub due now is stands = sym (waiting_reply c n rounds xs a m hub due now is.0 stands)
accepted_reply c new n rounds xs a (Complete sum) hub due now is stands = ap completed is.2 ∙ sym (complete_reply c n rounds xs a hub due now is.0 stands)

pub accepted_stands : (c new : HubState) (n rounds : ℕ) (xs : List Arrival) (a : Arrival) (step : HubStep) → IsHub c → IsDue c a.station → a.round ≡ c.round → Accepts c a.station a.word new step
    → StandsFor c n rounds xs → StandsFor new n rounds (xs ++ a ∷ [])
accepted_stands c new n rounds xs a (Waiting m) hub due now is stands =
    subst (λ (s : HubState). StandsFor s n rounds (xs ++ a ∷ [])) (sym is.1) (waiting_stands c n rounds xs a m hub due now is.0 stands)
accepted_stands c new n rounds xs a (Complete sum) hub due now is stands =
    subst (λ (s : HubState). StandsFor s n rounds (xs ++ a ∷ [])) (sym is.1) (complete_stands c n rounds xs a hub due now is.0 stands)

pub first_missing_is : (c : HubState) (n rounds : ℕ) (xs : List Arrival) (m : ℕ) → IsHub c → StandsFor c n rounds xs → c.round < c.rounds → first_clear c.there ≡ Some m
    → first_missing n xs c.round ≡ Some m
first_missing_is c n rounds xs m hub stands going first =
    ap (λ (k : ℕ). first_missing k xs c.round) (sym stands.stations_are)
    ∙ find-first_clear (λ i. is_none (accepted c.stations xs i c.round)) c.there c.stations hub.flags
    (λ i lt. ap is_none (stands.words_are i c.round lt going ∙ kept_now c.stations c.round c.words c.there i) ∙ none_where (get_or c.there i false) (get_or c.words (c.round * c.stations + i) []))
    ∙ first
  where
    none_where : (b : Bool) (w : List ℕ) → is_none (cond b (Some w) None) ≡ not b
    none_where true w = refl
    none_where false w = refl

record_here : (c : HubState) (n rounds : ℕ) (xs : List Arrival) → IsHub c → StandsFor c n rounds xs → c.round ≡ c.rounds
    → IsRecordOf c.stations c.rounds xs (record { stations = c.stations; rounds = c.rounds; words = c.words })
record_here c n rounds xs hub stands ended =
    let began = progress_began c.stations c.rounds xs c.round (sym stands.round_is) in
    let count = hub.session.count in
    let t : Recorded = record { stations = c.stations; rounds = c.rounds; words = c.words } in
    let word : (i r : ℕ) → i < c.stations → r < c.rounds → accepted c.stations xs i r ≡ Some (get_or c.words (r * c.stations + i) []) = λ i r lt low.
    stands.words_are i r lt low ∙ kept_before c.stations c.round c.words c.there i r (omega arith) in
    record {
      stations_are = refl;
      rounds_are = refl;
      words_are = λ i r lt low. let most = round_within r c.rounds c.stations low in slice_get-get_or c.words (r * c.stations + i) [] (omega arith) ∙ sym (word i r lt low);
      sums_are = λ r low. let most = round_within r c.rounds c.stations low in
          let long = length-map-range_with_len (λ k. word_sum (round_words t k)) 0 c.rounds in
          slice_get-get_or (superposed t) r [] (omega arith)
          ∙ ap (λ (w : List ℕ). Some w) (get_or-map-range_with_len (λ k. word_sum (round_words t k)) 0 c.rounds r r [] low (omega arith)
          ∙ sym (sum_of_round c.stations r xs c.words (omega arith) (λ i lt. word i r lt low)))
          ∙ sym (cond-true (is_complete c.stations xs r) _ _ (complete_before c.stations xs c.round began.0 r began.1 (omega arith)));
    }

pub finished_record : (c : HubState) (n rounds : ℕ) (xs : List Arrival) → IsHub c → StandsFor c n rounds xs → c.round ≡ c.rounds
    → IsRecordOf n rounds xs (record { stations = c.stations; rounds = c.rounds; words = c.words })
finished_record c n rounds xs hub stands ended =
    subst (λ (k : ℕ). IsRecordOf k rounds xs (record { stations = c.stations; rounds = c.rounds; words = c.words })) stands.stations_are
    (subst (λ (k : ℕ). IsRecordOf c.stations k xs (record { stations = c.stations; rounds = c.rounds; words = c.words })) stands.rounds_are (record_here c n rounds xs hub stands ended))

abbrev record_of : ℕ → ℕ → List (List ℕ) → Recorded
record_of s r ws = record { stations = s; rounds = r; words = ws }

pub finished : (c : HubState) (stations' rounds' n rounds : ℕ) (words : List (List ℕ)) (xs : List Arrival) → IsHub c → StandsFor c n rounds xs → c.round ≡ c.rounds → stations' ≡ c.stations
    → rounds' ≡ c.rounds → words ≡ c.words → IsRecordOf n rounds xs (record { stations = stations'; rounds = rounds'; words = words })
finished c stations' rounds' n rounds words xs hub stands ended s r w =
    let t : record_of stations' rounds' words ≡ record_of c.stations c.rounds c.words = rw (s, r, w) refl in
    subst (IsRecordOf n rounds xs) (sym t) (finished_record c n rounds xs hub stands ended)
