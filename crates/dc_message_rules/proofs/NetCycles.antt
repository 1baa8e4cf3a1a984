-- The cycles of a net without a coalition: no burst and no epoch is void, and epochs deliver the values sent.
use Rattle.std.proofs.Common.{◌≡◌, ℕ, ◌<◌, ◌≤◌, true, List, [], ◌∷◌, ◌++◌, length, map, take, All, sym, ◌∙◌, ap, subst, arith}
use Rattle.std.specs.List.{range_with_len, AllByRecursion}
use Rattle.dc_spec.specs.Entries.{Stream}
use Rattle.dc_spec.specs.Values.{IsValue}
use Rattle.dc_spec.specs.Net.{Net}
use Rattle.dc_station_rules.specs.Bursts.{IsMessageBurst}
use Rattle.dc_station_rules.specs.Epochs.{Leaf, EpochFault, void_epoch, epoch_of, leaves, is_over}
use Rattle.dc_station_rules.specs.Cycles.{Cycle, cycles, epoch_words, history_of}
use Rattle.dc_station_rules.specs.Stations.{left_after}
use Rattle.dc_net_rules.specs.Nets.{IsNet}
use Rattle.dc_net_rules.specs.Runs.{history, rounds_of, run_of, station_stream}
use Rattle.dc_message_rules.specs.SentEpochs.{Delivers}
use Rattle.dc_message_rules.specs.Undisturbed.{first_values, IsUndisturbed}
use Rattle.dc_message_rules.proofs.Deliveries.{histories-sums}
use Rattle.dc_message_rules.proofs.Delivered.{epochs-stand, epochs-deliver}
use Rattle.dc_message_rules.specs.SentEpochs.{epoch_length}
use Rattle.dc_message_rules.proofs.Lengths.{epoch-lengths}
use Rattle.dc_message_rules.proofs.Firsts.{firsts-values, firsts-few}
use Rattle.dc_message_rules.proofs.Balance.{fit-before, map-twice}
use Rattle.dc_message_rules.proofs.NetBalance.{net_streams, fit-net, first-sums}
use Rattle.dc_message_rules.proofs.Undisturbed.{session-undisturbed}

-- what is pending before a cycle
abbrev pub pending_before : Net → List Cycle → List Stream
pending_before net before = map (λ (s : Stream). left_after s before) (net_streams net)

-- a cycle of what a station received
net-cycle : (net : Net) → IsNet net → net.coalition ≡ [] → (t : ℕ) → t ≤ net.words → (i : ℕ) → i < net.stations → (before : List Cycle) (cycle : Cycle) (after : List Cycle)
    → cycles (history_of (history (rounds_of net t) i)) ≡ before ++ cycle ∷ after → IsUndisturbed (pending_before net before) cycle
net-cycle net is none t le i low before cycle after e =
    session-undisturbed (net_streams net) (fit-net net is) (take t (run_of net).sums) (first-sums net is none t le) before cycle after
    (ap (λ (ws : List (List ℕ)). cycles (history_of ws)) (sym (histories-sums net is none t le i low)) ∙ e)

few-values : (net : Net) → IsNet net → (before : List Cycle) → length (first_values (pending_before net before)) ≤ 256
few-values net is before = let most = (fit-before (net_streams net) before (fit-net net is)).few in let few = firsts-few (pending_before net before) in omega arith

are-values : (net : Net) → IsNet net → (before : List Cycle) → All IsValue (first_values (pending_before net before))
are-values net is before = firsts-values (pending_before net before) (fit-before (net_streams net) before (fit-net net is)).values

pub nothing-void : (net : Net) → IsNet net → net.coalition ≡ [] → (t : ℕ) → t ≤ net.words → (i : ℕ) → i < net.stations → (before : List Cycle) (cycle : Cycle) (after : List Cycle)
    → cycles (history_of (history (rounds_of net t) i)) ≡ before ++ cycle ∷ after
    → AllByRecursion (λ (b : ℕ × List (List ℕ)). (message : List ℕ) × IsMessageBurst b.1 message) cycle.bursts
    × ((out : List Leaf) (fault : EpochFault) → epoch_of (epoch_words cycle) ≡ void_epoch out fault → ⊥)
nothing-void net is none t le i low before cycle after e =
    let clean = net-cycle net is none t le i low before cycle after e in
    (clean.bursts, epochs-stand (first_values (pending_before net before)) (are-values net is before) (few-values net is before) (epoch_words cycle) clean.epoch)

pub epochs-rise : (net : Net) → IsNet net → net.coalition ≡ [] → (t : ℕ) → t ≤ net.words → (i : ℕ) → i < net.stations → (before : List Cycle) (cycle : Cycle) (after : List Cycle)
    → cycles (history_of (history (rounds_of net t) i)) ≡ before ++ cycle ∷ after → is_over (epoch_of (epoch_words cycle)) ≡ true
    → Delivers (first_values (map (λ j. left_after (station_stream net j) before) (range_with_len 0 net.stations))) (leaves (epoch_of (epoch_words cycle)))
epochs-rise net is none t le i low before cycle after e over =
    let clean = net-cycle net is none t le i low before cycle after e in
    subst (λ (streams : List Stream). Delivers (first_values streams) (leaves (epoch_of (epoch_words cycle))))
    (map-twice (λ (s : Stream). left_after s before) (station_stream net) (range_with_len 0 net.stations))
    (epochs-deliver (first_values (pending_before net before)) (are-values net is before) (few-values net is before) (epoch_words cycle) clean.epoch over)

pub net-lengths : (net : Net) → IsNet net → net.coalition ≡ [] → (t : ℕ) → t ≤ net.words → (i : ℕ) → i < net.stations → (before : List Cycle) (cycle : Cycle) (after : List Cycle)
    → cycles (history_of (history (rounds_of net t) i)) ≡ before ++ cycle ∷ after → is_over (epoch_of (epoch_words cycle)) ≡ true
    → length (epoch_words cycle) ≡ epoch_length (leaves (epoch_of (epoch_words cycle)))
net-lengths net is none t le i low before cycle after e over =
    let clean = net-cycle net is none t le i low before cycle after e in
    epoch-lengths (first_values (pending_before net before)) (are-values net is before) (few-values net is before) (epoch_words cycle) clean.epoch over
