-- A cycle that nobody disturbs: each burst is that of a message, and in its epoch each word is what
-- the stations send.
use Rattle.std.specs.Prelude.{ℕ, ◌≡◌, List, ◌∷◌, ◌++◌, map, take}
use Rattle.std.specs.List.{flat_map, AllByRecursion}
use Rattle.dc_spec.specs.Entries.{Stream}
use Rattle.dc_station_rules.specs.Bursts.{IsMessageBurst}
use Rattle.dc_station_rules.specs.Cycles.{Cycle, cycles, epoch_words, history_of}
use Rattle.dc_station_rules.specs.Stations.{left_after}
use Rattle.dc_message_rules.specs.SentEpochs.{AreSent}

-- the first pending value of each station that has one
abbrev pub first_values : List Stream → List (List ℕ)
first_values streams = flat_map (λ (s : Stream). take 1 s.shorts) streams

-- no burst and no epoch of a cycle is disturbed, where these streams were pending before it
pub record IsUndisturbed (pending : List Stream) (cycle : Cycle) : Type 0 where
  pub bursts :
      AllByRecursion (λ (b : ℕ × List (List ℕ)). (message : List ℕ) × IsMessageBurst b.1 message)
      cycle.bursts
  pub epoch : AreSent (first_values pending) (epoch_words cycle)

-- and so in each cycle of a session
abbrev pub AreUndisturbed : List Stream → List (List ℕ) → Type 0
AreUndisturbed streams words =
    (before : List Cycle) (cycle : Cycle) (after : List Cycle)
    → cycles (history_of words) ≡ before ++ cycle ∷ after
    → IsUndisturbed (map (λ (s : Stream). left_after s before) streams) cycle
