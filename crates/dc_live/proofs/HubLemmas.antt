-- The words that a hub's core accepted, and those that each peer gave.
use Rattle.std.proofs.Common.{◌≡◌, ℕ, zero, suc, ◌<◌, ◌≤◌, true, IsTrue, inl, inr, List, [], ◌∷◌, length, slice_get, Option, Some, None, is_none, refl, sym, ap, ◌∙◌, arith, true≢false}
use Rattle.std.specs.List.{range_with_len}
use Rattle.std.proofs.lemmas.Bool.{cases_lt}
use Rattle.dc_spec.specs.Lists.{is_among}
use Rattle.dc_spec.proofs.ListLemmas.{found_passes}
use Rattle.dc_hub_rules.specs.Hubs.{Arrival, accepted, first_missing}
use Rattle.dc_superpose.specs.HubCore.{HubState, StandsFor}
use Rattle.dc_live.specs.Seats.{SeatsState, told_by}
use Rattle.dc_live.specs.HubSteps.{AreInStep, IsDue}
use Rattle.dc_live.proofs.SeatLemmas.{has_peer}

-- ---- the next peer

is_none_is : {X : Type 0} (o : Option X) → is_none o ≡ true → o ≡ None
is_none_is None e = refl
is_none_is (Some x) e = absurd (true≢false (sym e))

past_end : {X : Type 0} (xs : List X) (k : ℕ) → slice_get xs k ≡ None → length xs ≤ k
past_end xs k none = elim (cases_lt k (length xs)) [
  | inr le ↦ le
  | inl low ↦ by_first xs k none low
]
  where
    by_first : {X : Type 0} (xs : List X) (k : ℕ) → slice_get xs k ≡ None → k < length xs → length xs ≤ k
    by_first [] k none low = absurd (omega arith)
    by_first (x ∷ xs) zero none low = absurd (cc)
    by_first (x ∷ xs) (suc k) none low = let rest = by_first xs k none (omega arith) in omega arith

-- a station whose word is missing has a peer
pub missing_told : {s : SeatsState} {c : HubState} (m : ℕ) → AreInStep s c → m < c.stations → IsTrue (is_among s.told m)
missing_told {s} {c} m in_step low =
    let stations = in_step.step.core.stations_are in
    has_peer s in_step.step.are in_step.step.all m (omega arith)

-- which is due
pub missing_due : {s : SeatsState} {c : HubState} (m p : ℕ) → AreInStep s c → c.round < c.rounds
    → ((n rounds : ℕ) (arrivals : List Arrival) → StandsFor c n rounds arrivals → first_missing n arrivals c.round ≡ Some m)
    → p < length s.told → told_by s p ≡ m → IsDue s c.round p
missing_due {s} {c} m p in_step going missing low told =
    let step = in_step.step in
    let all = step.all in
    let rounds = step.core.rounds_are in
    let found = found_passes (λ i. is_none (accepted s.stations in_step.arrivals i c.round)) (range_with_len 0 s.stations) m (missing s.stations s.words in_step.arrivals step.core) in
    let none : accepted s.stations in_step.arrivals m c.round ≡ None = is_none_is (accepted s.stations in_step.arrivals m c.round) found.0 in
    let at : slice_get (in_step.words p) c.round ≡ None =
    sym (step.accepted p c.round (omega arith) (omega arith)) ∙ ap (λ (i : ℕ). accepted s.stations in_step.arrivals i c.round) told ∙ none in
    let most = past_end (in_step.words p) c.round at in
    let least = (step.level p (omega arith)).0 in
    let count = step.counted p (omega arith) in
    record { seated = omega arith; missing = omega arith }
