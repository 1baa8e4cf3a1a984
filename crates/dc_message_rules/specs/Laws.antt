-- Laws of messages: what holds of a net without a coalition.
use Rattle.std.specs.Prelude.{ℕ, ◌<◌, ◌≤◌, ◌≡◌, true, List, [], ◌∷◌, ◌++◌, length, map, take, slice_index_or, sum_by, All}
use Rattle.std.specs.List.{range_with_len, AllByRecursion}
use Rattle.dc_spec.specs.Values.{IsValue}
use Rattle.dc_spec.specs.Net.{Net}
use Rattle.dc_station_rules.specs.Epochs.{Leaf, EpochFault, void_epoch, epoch_of, leaves, is_over}
use Rattle.dc_station_rules.specs.Stations.{left_after, log_of, sent_of}
use Rattle.dc_net_rules.specs.Bags.{Message, count_in}
use Rattle.dc_net_rules.specs.Nets.{IsNet}
use Rattle.dc_net_rules.specs.Runs.{history, rounds_of, run_of, station_stream}
use Rattle.dc_message_rules.specs.PlainSums.{plain_sum}
use Rattle.dc_message_rules.specs.SentEpochs.{AreSent, Delivers, epoch_length}
use Rattle.dc_message_rules.specs.Undisturbed.{first_values}
use Rattle.dc_station_rules.specs.Bursts.{IsMessageBurst}
use Rattle.dc_station_rules.specs.Cycles.{Cycle, cycles, epoch_words, history_of}

-- what a station received in the first rounds is the sums of these rounds
abbrev pub HistoriesAreSums : Type 0
HistoriesAreSums =
    (net : Net) → IsNet net → net.coalition ≡ [] → (t : ℕ) → t ≤ net.words
    → (i : ℕ) → i < net.stations → history (rounds_of net t) i ≡ take t (run_of net).sums

-- the sum of a round is the sum of all plain words, each over the sums of the rounds before
abbrev pub SumsArePlain : Type 0
SumsArePlain =
    (net : Net) → IsNet net → net.coalition ≡ [] → (t : ℕ) → t < net.words
    → slice_index_or (run_of net).sums t [] ≡ plain_sum net (take t (run_of net).sums)

-- after each round all stations have one log
abbrev pub LogsAgree : Type 0
LogsAgree =
    (net : Net) → IsNet net → net.coalition ≡ [] → (t : ℕ) → t ≤ net.words
    → (i j : ℕ) → i < net.stations → j < net.stations
    → log_of (history (rounds_of net t) i) ≡ log_of (history (rounds_of net t) j)

-- an epoch in which up to 256 stations send their values where it calls for them is never void
abbrev pub EpochsStand : Type 0
EpochsStand =
    (values : List (List ℕ)) → All IsValue values → length values ≤ 256
    → (words : List (List ℕ)) → AreSent values words
    → (out : List Leaf) (fault : EpochFault) → epoch_of words ≡ void_epoch out fault → ⊥

-- and once it is over it has delivered the values: in rising order, each as often as it was sent
abbrev pub EpochsDeliver : Type 0
EpochsDeliver =
    (values : List (List ℕ)) → All IsValue values → length values ≤ 256
    → (words : List (List ℕ)) → AreSent values words → is_over (epoch_of words) ≡ true
    → Delivers values (leaves (epoch_of words))

-- after each round, each station's log has each message as often as it is in the lists of what all
-- stations sent together
abbrev pub MessagesBalance : Type 0
MessagesBalance =
    (net : Net) → IsNet net → net.coalition ≡ [] → (t : ℕ) → t ≤ net.words
    → (i : ℕ) → i < net.stations → (message : Message)
    → count_in message (log_of (history (rounds_of net t) i))
    ≡ sum_by (λ j. count_in message (sent_of (station_stream net j) (history (rounds_of net t) j)))
    (range_with_len 0 net.stations)

-- no burst that has ended is void, and no epoch is, in any cycle of what a station received
abbrev pub NothingIsVoid : Type 0
NothingIsVoid =
    (net : Net) → IsNet net → net.coalition ≡ [] → (t : ℕ) → t ≤ net.words
    → (i : ℕ) → i < net.stations → (before : List Cycle) (cycle : Cycle) (after : List Cycle)
    → cycles (history_of (history (rounds_of net t) i)) ≡ before ++ cycle ∷ after
    → AllByRecursion (λ (b : ℕ × List (List ℕ)). (message : List ℕ) × IsMessageBurst b.1 message)
    cycle.bursts
    × ((out : List Leaf) (fault : EpochFault)
    → epoch_of (epoch_words cycle) ≡ void_epoch out fault → ⊥)

-- each whole epoch delivers the values sent in its root, the first pending ones of all stations: in
-- rising order, each as often as it was sent there
abbrev pub EpochsRise : Type 0
EpochsRise =
    (net : Net) → IsNet net → net.coalition ≡ [] → (t : ℕ) → t ≤ net.words
    → (i : ℕ) → i < net.stations → (before : List Cycle) (cycle : Cycle) (after : List Cycle)
    → cycles (history_of (history (rounds_of net t) i)) ≡ before ++ cycle ∷ after
    → is_over (epoch_of (epoch_words cycle)) ≡ true
    → Delivers (first_values (map (λ j. left_after (station_stream net j) before)
    (range_with_len 0 net.stations))) (leaves (epoch_of (epoch_words cycle)))

-- and it takes one word for each leaf, and one more for each that two stations or more sent; or one
-- word where nobody sends
abbrev pub EpochLengths : Type 0
EpochLengths =
    (net : Net) → IsNet net → net.coalition ≡ [] → (t : ℕ) → t ≤ net.words
    → (i : ℕ) → i < net.stations → (before : List Cycle) (cycle : Cycle) (after : List Cycle)
    → cycles (history_of (history (rounds_of net t) i)) ≡ before ++ cycle ∷ after
    → is_over (epoch_of (epoch_words cycle)) ≡ true
    → length (epoch_words cycle) ≡ epoch_length (leaves (epoch_of (epoch_words cycle)))
