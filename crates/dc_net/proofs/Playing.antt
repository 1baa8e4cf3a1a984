-- The script of a net whose parts agree has what a run asks of it.
use Rattle.std.proofs.Common.{◌≡◌, ℕ, ◌+◌, ◌*◌, ◌<◌, true, List, [], ◌∷◌, length, nat_eq, refl, sym, ap, subst, ◌∙◌, arith, inl, inr, eqb-true, true≢false, All}
use Rattle.std.specs.List.{AllPairs, range_with_len}
use Rattle.std.specs.List.Sorted.{IsStrictlyIncreasing}
use Rattle.std.proofs.Math.Nat.{mul-le-mul_right}
use Rattle.std.proofs.lemmas.Bool.{cases_Bool}
use Rattle.std.proofs.lemmas.List.{length-map}
use Rattle.std.proofs.lemmas.List.Elements.{All-head, All-tail, All-nil}
use Rattle.std.proofs.lemmas.List.Kept.{AllPairs-from_increasing}
use Rattle.dc_spec.specs.Lists.{is_among}
use Rattle.dc_spec.specs.Scripts.{Said, Delivery, all_sum, each, delivered_words, stations_of}
use Rattle.dc_spec.specs.Net.{Net}
use Rattle.dc_spec.proofs.Booleans.{or_cases}
use Rattle.dc_spec.proofs.ListLemmas.{in_range, kept_passes, passes_kept}
use Rattle.dc_formats.specs.ScriptFile.{IsSaid, AreSaid, IsTurn, IsScript}
use Rattle.dc_net_rules.specs.Runs.{honest_stations, script_turn}
use Rattle.dc_net_rules.proofs.RisingLists.{same_rising}
use Rattle.dc_net_rules.proofs.Agreeing.{all_agree, same_lists, says_match, dealt_match, say_terms, dealt_terms}
use Rattle.dc_net.specs.Checked.{IsChecked}
use Rattle.dc_net.specs.Rows.{members_of, IsWithin}
use Rattle.dc_net.specs.Run.{IsPlayable}
use Rattle.dc_net.proofs.RoundWords.{kept_rise}

-- what holds of all numbers of a list holds of each number among it
among_all : (P : ℕ → Type 0) (xs : List ℕ) (a : ℕ) → All P xs → is_among xs a ≡ true → P a
among_all P [] a all here = absurd (true≢false (sym here))
among_all P (x ∷ xs) a all here = elim (or_cases (nat_eq a x) (is_among xs a) here) [
  | inl first ↦ subst P (sym (eqb-true a x first)) (All-head P x xs all)
  | inr later ↦ among_all P xs a (All-tail P x xs all) later
]

-- the members among all stations are the members
pub members_are : (coalition : List ℕ) (n : ℕ) → IsStrictlyIncreasing coalition → All (λ m. m < n) coalition → coalition ≡ members_of coalition n
members_are coalition n up below =
    same_rising coalition (members_of coalition n) (AllPairs-from_increasing coalition up) (kept_rise (is_among coalition) n)
    (λ a. elim (cases_Bool (is_among coalition a)) [
      | inl member ↦ member
          ∙ sym (passes_kept (is_among coalition) (range_with_len 0 n) a
          (in_range 0 n a (omega arith) (let low = among_all (λ m. m < n) coalition a below member in omega arith)) member)
      | inr other ↦ elim (cases_Bool (is_among (members_of coalition n) a)) [
        | inl kept ↦ kept_passes (is_among coalition) (range_with_len 0 n) a kept ∙ sym kept
        | inr gone ↦ other ∙ sym gone
      ]
    ])

-- rising by places
next_rise : (xs : List ℕ) → AllPairs (λ a b. a < b) xs → IsStrictlyIncreasing xs
next_rise xs up k within = up k (k + 1) 0 (omega arith) within

-- a term that names no later round and a station of the net names a word that is there
within : (n t : ℕ) (listed : List Said) → All (IsSaid t) listed → All (λ said. All (λ term. term.station < n) said.terms) listed
    → All (IsWithin (t * n + n) n) listed
within n t listed are named = λ k d low.
    let terms = (are k d low).are_terms in
    record {
      named = λ j e less. (let term = terms j e less in let early = mul-le-mul_right n term.no_later in let station = named k d low j e less in omega arith);
      places = λ j e less. (let term = terms j e less in (term.to, term.symbol));
    }

-- the words delivered
dealt_within : (net : Net) (t : ℕ) (delivery : Delivery) → ((dealt : List Said) → delivery ≡ each dealt → AreSaid t dealt)
    → ((dealt : List Said) → delivery ≡ each dealt → All (λ said. All (λ term. term.station < net.stations) said.terms) dealt)
    → All (IsWithin (t * net.stations + net.stations) net.stations) (delivered_words delivery)
dealt_within net t all_sum are named = All-nil (IsWithin (t * net.stations + net.stations) net.stations)
dealt_within net t (each dealt) are named = within net.stations t dealt (are dealt refl).are_said (named dealt refl)

-- so each round can be played
pub playable : (net : Net) (t : ℕ) → IsChecked net → IsScript net.script → IsStrictlyIncreasing net.coalition → t < net.words
    → IsPlayable net (t * net.stations) (script_turn net t)
playable net t checked script up low =
    let agrees = checked.agrees in
    let rounds = (all_agree net agrees).rounds in
    let turn : IsTurn t (script_turn net t) = script.are_turns t _ (omega arith) in
    let says = same_lists (stations_of (script_turn net t).says) net.coalition (says_match net agrees t low) turn.said.stations_rise up in
    record {
      as_many = sym (length-map (script_turn net t).says (λ said. said.station)) ∙ ap (λ (xs : List ℕ). length xs) says;
      members = says ∙ members_are net.coalition net.stations up checked.members;
      says = within net.stations t (script_turn net t).says turn.said.are_said (say_terms net agrees t low);
      honest = λ dealt is. same_lists (stations_of dealt) (honest_stations net) (dealt_match net agrees t low dealt is)
          (turn.dealt_words dealt is).stations_rise (next_rise (honest_stations net) (kept_rise _ net.stations));
      dealt = dealt_within net t (script_turn net t).delivery turn.dealt_words (dealt_terms net agrees t low);
    }
