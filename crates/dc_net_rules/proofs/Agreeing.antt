-- What follows for each part of a net whose parts agree.
use Rattle.std.proofs.Common.{◌≡◌, ℕ, ◌+◌, ◌<◌, not, Bool, true, false, cond, ◌||◌, ◌==◌, if◌then◌else◌, nat_lt, List, [], ◌∷◌, ◌++◌, length, get_or, map, filter, find, slice_index_or, Option, Some, None, refl, sym, ap, subst, ◌∙◌, arith, inl, inr, true≢false, eqb-true, ltb-true}
use Rattle.std.specs.List.{All, list_any, reduce, range_with_len, enumerate_from}
use Rattle.std.specs.List.Sorted.{IsStrictlyIncreasing}
use Rattle.std.specs.Option.{is_some}
use Rattle.std.proofs.lemmas.Bool.{cases_Bool}
use Rattle.std.proofs.lemmas.List.Elements.{All-cons}
use Rattle.std.proofs.lemmas.List.FromFn.{length-enumerate_from, get_or-enumerate_from, length-range_with_len, get_or-range_with_len}
use Rattle.std.proofs.lemmas.List.Kept.{AllPairs-from_increasing}
use Rattle.dc_spec.specs.Lists.{is_among}
use Rattle.dc_spec.specs.Scripts.{Term, Said, Delivery, all_sum, each, stations_of, Turn}
use Rattle.dc_spec.specs.Net.{Net}
use Rattle.dc_spec.proofs.Options.{map-none}
use Rattle.dc_spec.proofs.ListLemmas.{passes_kept}
use Rattle.dc_net_rules.specs.Runs.{honest_stations, script_turn}
use Rattle.dc_net_rules.specs.Agreement.{Disagreement, key_stations, key_words, script_rounds, first_of, first_by, missing_key, stray_key, stream_fault, stream_missing, stream_stray, least_in_one, station_dealt, station_fault, delivery_fault, rule_fault, names_no_station, names_member_now, say_by_faulty_rule, dealt_by_faulty_rule, script_station, script_rule, Agrees}
use Rattle.dc_net_rules.proofs.RisingLists.{same_rising}

-- where no answer is first, each answer is none
first_none : {A : Type 0} (o : Option A) (rest : List (Option A)) → first_of (o ∷ rest) ≡ None → (o ≡ None) × (first_of rest ≡ None)
first_none None rest h = (refl, h)
first_none (Some x) rest h = let clash : ⊥ = cc in absurd clash

-- where a function gives no answer along a list, it gives none at each item
none_along : {A B : Type 0} (f : A → Option B) (xs : List A) → first_by f xs ≡ None → All (λ x. f x ≡ None) xs
none_along f [] h = λ k d within. absurd (omega arith)
none_along f (x ∷ xs) h = let both = first_none (f x) (map f xs) h in All-cons (λ y. f y ≡ None) x xs both.0 (none_along f xs both.1)

-- what a test that fails says
test_holds : (b : Bool) (d : Disagreement) → (if b then None else Some d) ≡ None → b ≡ true
test_holds true d h = refl
test_holds false d h = let clash : ⊥ = cc in absurd clash

-- where nothing is found, each item fails
pub none_found : {X : Type 0} (p : X → Bool) (xs : List X) → find p xs ≡ None → All (λ x. p x ≡ false) xs
none_found p [] h = λ k d within. absurd (omega arith)
none_found p (x ∷ xs) h = (elim (p x) as (λ b. p x ≡ b → cond b (Some x) (find p xs) ≡ None → All (λ y. p y ≡ false) (x ∷ xs)) [
  | true ↦ λ e k. (let clash : ⊥ = cc in absurd clash)
  | false ↦ λ e k. All-cons (λ y. p y ≡ false) x xs e (none_found p xs k)
]) refl h

-- both tests fail where one of two fails
both_fail : (b c : Bool) → (b || c) ≡ false → (b ≡ false) × (c ≡ false)
both_fail false c h = (refl, h)
both_fail true c h = absurd (true≢false h)

-- and where none of a list passes, each item fails
none_passes : {X : Type 0} (p : X → Bool) (xs : List X) → list_any p xs ≡ false → All (λ x. p x ≡ false) xs
none_passes p [] h = λ k d within. absurd (omega arith)
none_passes p (x ∷ xs) h = let both = both_fail (p x) (list_any p xs) h in All-cons (λ y. p y ≡ false) x xs both.0 (none_passes p xs both.1)

-- each test of a net gives none
pub record AllAgree (net : Net) : Type 0 where
  pub key_stations : net.keys.stations ≡ net.stations
  pub missing : missing_key net ≡ None
  pub words : net.keys.words ≡ net.words
  pub streams : All (λ i. stream_fault net i ≡ None) (range_with_len 0 net.stations)
  pub rounds : length net.script.rounds ≡ net.words
  pub stations : All (λ t. station_fault net t ≡ None) (enumerate_from 0 net.script.rounds)
  pub rules : All (λ t. rule_fault net t ≡ None) (enumerate_from 0 net.script.rounds)

pub all_agree : (net : Net) → Agrees net → AllAgree net
all_agree net agrees =
    let turns = enumerate_from 0 net.script.rounds in
    let t1 : Option Disagreement = if net.keys.stations == net.stations then None else Some (key_stations net.keys.stations net.stations) in
    let t2 : Option Disagreement = if net.keys.words == net.words then None else Some (key_words net.keys.words net.words) in
    let t3 = missing_key net in
    let t4 = stray_key net in
    let t5 = first_by (stream_fault net) (range_with_len 0 net.stations) in
    let t6 : Option Disagreement = if length net.script.rounds == net.words then None else Some (script_rounds (length net.script.rounds) net.words) in
    let t7 = first_by (station_fault net) turns in
    let t8 = first_by (delivery_fault net) turns in
    let t9 = first_by (rule_fault net) turns in
    let a = first_none t1 (t2 ∷ t3 ∷ t4 ∷ t5 ∷ t6 ∷ t7 ∷ t8 ∷ t9 ∷ []) agrees in
    let b = first_none t2 (t3 ∷ t4 ∷ t5 ∷ t6 ∷ t7 ∷ t8 ∷ t9 ∷ []) a.1 in
    let c = first_none t3 (t4 ∷ t5 ∷ t6 ∷ t7 ∷ t8 ∷ t9 ∷ []) b.1 in
    let d = first_none t4 (t5 ∷ t6 ∷ t7 ∷ t8 ∷ t9 ∷ []) c.1 in
    let e = first_none t5 (t6 ∷ t7 ∷ t8 ∷ t9 ∷ []) d.1 in
    let f = first_none t6 (t7 ∷ t8 ∷ t9 ∷ []) e.1 in
    let g = first_none t7 (t8 ∷ t9 ∷ []) f.1 in
    let h = first_none t8 (t9 ∷ []) g.1 in
    let i = first_none t9 [] h.1 in
    record {
      key_stations = eqb-true net.keys.stations net.stations (test_holds (net.keys.stations == net.stations) (key_stations net.keys.stations net.stations) a.0);
      missing = c.0;
      words = eqb-true net.keys.words net.words (test_holds (net.keys.words == net.words) (key_words net.keys.words net.words) b.0);
      streams = none_along (stream_fault net) (range_with_len 0 net.stations) e.0;
      rounds = eqb-true (length net.script.rounds) net.words
          (test_holds (length net.script.rounds == net.words) (script_rounds (length net.script.rounds) net.words) f.0);
      stations = none_along (station_fault net) (enumerate_from 0 net.script.rounds) g.0;
      rules = none_along (rule_fault net) (enumerate_from 0 net.script.rounds) i.0;
    }

-- what both tests of a stream say
stream_due : (member there : Bool) (stray missing : Disagreement)
    → (if member then (if there then Some stray else None) else (if there then None else Some missing)) ≡ None → there ≡ not member
stream_due true true stray missing h = let clash : ⊥ = cc in absurd clash
stream_due true false stray missing h = refl
stream_due false true stray missing h = refl
stream_due false false stray missing h = let clash : ⊥ = cc in absurd clash

-- the stations that have a stream are the honest ones
pub has_stream : (net : Net) → Agrees net → (i : ℕ) → i < net.stations → is_some (slice_index_or net.streams i None) ≡ not (is_among net.coalition i)
has_stream net agrees i below =
    let at : stream_fault net i ≡ None = subst (λ (k : ℕ). stream_fault net k ≡ None) (get_or-range_with_len 0 net.stations i 0 below
    ∙ (let e : 0 + i ≡ i = omega arith in e))
    ((all_agree net agrees).streams i 0 (let e = length-range_with_len 0 net.stations in omega arith)) in
    stream_due (is_among net.coalition i) (is_some (slice_index_or net.streams i None)) (stream_stray i) (stream_missing i) at

-- lists of which neither has a number that the other lacks have the same numbers
no_least : (xs : List ℕ) (f : ℕ → ℕ → ℕ) → reduce f xs ≡ None → xs ≡ []
no_least [] f h = refl
no_least (x ∷ xs) f h = let clash : ⊥ = cc in absurd clash

nothing_left : (xs ys : List ℕ) → xs ++ ys ≡ [] → (xs ≡ []) × (ys ≡ [])
nothing_left [] ys h = (refl, h)
nothing_left (x ∷ xs) ys h = let clash : ⊥ = cc in absurd clash

all_among : (xs ys : List ℕ) → filter (λ x. not (is_among ys x)) xs ≡ [] → (a : ℕ) → is_among xs a ≡ true → is_among ys a ≡ true
all_among xs ys none a here = elim (cases_Bool (is_among ys a)) [
  | inl there ↦ there
  | inr gone ↦ absurd (true≢false (sym (passes_kept (λ x. not (is_among ys x)) xs a here (ap not gone)) ∙ ap (λ (zs : List ℕ). is_among zs a) none))
]

same_numbers : (xs ys : List ℕ) → least_in_one xs ys ≡ None → (a : ℕ) → is_among xs a ≡ is_among ys a
same_numbers xs ys none a =
    let empty = nothing_left (filter (λ x. not (is_among ys x)) xs) (filter (λ y. not (is_among xs y)) ys)
    (no_least _ (λ x y. if nat_lt y x then y else x) none) in
    elim (cases_Bool (is_among xs a)) [
      | inl here ↦ here ∙ sym (all_among xs ys empty.0 a here)
      | inr gone ↦ elim (cases_Bool (is_among ys a)) [
        | inl there ↦ all_among ys xs empty.1 a there ∙ sym there
        | inr away ↦ gone ∙ sym away
      ]
    ]

-- and rising ones are the same
pub same_lists : (xs ys : List ℕ) → least_in_one xs ys ≡ None → IsStrictlyIncreasing xs → IsStrictlyIncreasing ys → xs ≡ ys
same_lists xs ys none up down = same_rising xs ys (AllPairs-from_increasing xs up) (AllPairs-from_increasing ys down) (same_numbers xs ys none)

-- a test of rounds at one round
at_round : (net : Net) (f : ℕ × Turn → Option Disagreement) (t : ℕ) → t < length net.script.rounds
    → All (λ r. f r ≡ None) (enumerate_from 0 net.script.rounds) → f (t, script_turn net t) ≡ None
at_round net f t within all =
    let d : Turn = record { says = []; delivery = all_sum } in
    let is : get_or (enumerate_from 0 net.script.rounds) t (0, d) ≡ (t, script_turn net t) = get_or-enumerate_from 0 net.script.rounds t (0, d) within
    ∙ ap (λ (k : ℕ). (k, get_or net.script.rounds t d)) (let e : 0 + t ≡ t = omega arith in e) in
    subst (λ (r : ℕ × Turn). f r ≡ None) is (all t (0, d) (let e = length-enumerate_from 0 net.script.rounds in omega arith))

-- in a round the words said are those of the members, and the words delivered those of the honest stations
pub says_match : (net : Net) → Agrees net → (t : ℕ) → t < net.words → least_in_one (stations_of (script_turn net t).says) net.coalition ≡ None
says_match net agrees t within =
    let all = all_agree net agrees in
    let at = at_round net (station_fault net) t (let e = all.rounds in omega arith) all.stations in
    (first_none (least_in_one (stations_of (script_turn net t).says) net.coalition) (station_dealt net (script_turn net t).delivery ∷ [])
    (map-none (script_station t) _ at)).0

pub dealt_match : (net : Net) → Agrees net → (t : ℕ) → t < net.words → (dealt : List Said) → (script_turn net t).delivery ≡ each dealt
    → least_in_one (stations_of dealt) (honest_stations net) ≡ None
dealt_match net agrees t within dealt is =
    let all = all_agree net agrees in
    let at = at_round net (station_fault net) t (let e = all.rounds in omega arith) all.stations in
    let both = first_none (least_in_one (stations_of (script_turn net t).says) net.coalition) (station_dealt net (script_turn net t).delivery ∷ [])
    (map-none (script_station t) _ at) in
    let delivery = first_none (station_dealt net (script_turn net t).delivery) [] both.1 in
    subst (λ (d : Delivery). station_dealt net d ≡ None) is delivery.0

-- a term names a station
named_below : (net : Net) (term : Term) → names_no_station net term ≡ false → term.station < net.stations
named_below net term h = elim (cases_Bool (nat_lt term.station net.stations)) [
  | inl below ↦ ltb-true term.station net.stations below
  | inr past ↦ absurd (true≢false (sym (ap not past) ∙ h))
]

-- so do all terms of the words said
pub say_terms : (net : Net) → Agrees net → (t : ℕ) → t < net.words → All (λ said. All (λ term. term.station < net.stations) said.terms) (script_turn net t).says
say_terms net agrees t within =
    let all = all_agree net agrees in
    let at = at_round net (rule_fault net) t (let e = all.rounds in omega arith) all.rules in
    let both = first_none (say_by_faulty_rule net t (script_turn net t).says) (dealt_by_faulty_rule net (script_turn net t).delivery ∷ [])
    (map-none (script_rule t) _ at) in
    let p : Said → Bool = λ said. list_any (λ term. names_no_station net term || names_member_now net t term) said.terms in
    let failing = none_found p (script_turn net t).says (map-none (λ said. said.station) _ both.0) in
    λ k d low. λ j e less.
    let fails = none_passes (λ term. names_no_station net term || names_member_now net t term) (get_or (script_turn net t).says k d).terms
    (failing k d low) j e less in
    named_below net (get_or (get_or (script_turn net t).says k d).terms j e) (both_fail _ _ fails).0

-- and of the words delivered
pub dealt_terms : (net : Net) → Agrees net → (t : ℕ) → t < net.words → (dealt : List Said) → (script_turn net t).delivery ≡ each dealt
    → All (λ said. All (λ term. term.station < net.stations) said.terms) dealt
dealt_terms net agrees t within dealt is =
    let all = all_agree net agrees in
    let at = at_round net (rule_fault net) t (let e = all.rounds in omega arith) all.rules in
    let both = first_none (say_by_faulty_rule net t (script_turn net t).says) (dealt_by_faulty_rule net (script_turn net t).delivery ∷ [])
    (map-none (script_rule t) _ at) in
    let later = first_none (dealt_by_faulty_rule net (script_turn net t).delivery) [] both.1 in
    let found : dealt_by_faulty_rule net (each dealt) ≡ None = subst (λ (d : Delivery). dealt_by_faulty_rule net d ≡ None) is later.0 in
    let failing = none_found (λ said. list_any (names_no_station net) said.terms) dealt (map-none (λ said. said.station) _ found) in
    λ k d low. λ j e less.
    named_below net (get_or (get_or dealt k d).terms j e) (none_passes (names_no_station net) (get_or dealt k d).terms (failing k d low) j e less)
