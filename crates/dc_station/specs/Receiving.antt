-- A receiver as the code keeps it, against the words that were received.
use Rattle.std.specs.Prelude.{◌≡◌, ℕ, ◌+◌, ◌<◌, ◌≤◌, Bool, true, false, ◌⊎◌, List, [], ◌∷◌, ◌++◌, length, filter, nat_le, Option, Some, None}
use Rattle.dc_station_rules.specs.Bursts.{burst_of, gave, message_of}
use Rattle.dc_station_rules.specs.Epochs.{Leaf, epoch_of, is_over, leaves_at}
use Rattle.dc_station_rules.specs.Cycles.{Cycle, Place, at_reservation, in_burst, in_epoch, fields_left, history_of}
use Rattle.dc_station_rules.specs.Stations.{log_of}
use Rattle.dc_reserve.specs.Fields.{fields_of}
use Rattle.dc_reserve.specs.Phases.{IsGoing}
use Rattle.dc_reserve.specs.StandsFor.{State as BurstState, StandsFor as BurstStandsFor, IsWhole, IsAfter, StepShows}
use Rattle.dc_reserve.specs.declared.judge.BurstStep.{BurstStep}
use Rattle.dc_average.specs.StandsFor.{State as EpochState, StandsFor as EpochStandsFor, is_done}
use Rattle.dc_station.specs.declared.phase.Phase.{Phase}
use Rattle.dc_station.specs.declared.phase.Phase.TheVariants.{Reserve, Burst, Epoch}
use Rattle.dc_station.specs.declared.reception.Reception.{Reception}
use Rattle.dc_station.specs.declared.reception.Effect.{Effect}
use Rattle.dc_station.specs.declared.reception.Effect.TheVariants.{Nothing, Message, Leaves}

-- the phase at a place
abbrev pub phase_at : Place → Phase
phase_at at_reservation = Reserve
phase_at (in_burst field words) = Burst field (length words)
phase_at (in_epoch words) = Epoch

-- how many words of the burst have come
abbrev pub index_of : Phase → ℕ
index_of Reserve = 0
index_of (Burst field index) = index
index_of Epoch = 0

-- the phase after a word of an epoch, which is over or not
abbrev pub phase_after_epoch_word : Bool → Phase
phase_after_epoch_word true = Reserve
phase_after_epoch_word false = Epoch

-- the granted fields from a field on
abbrev pub fields_from : List Bool → ℕ → List ℕ
fields_from flags field = filter (λ f. nat_le field f) (fields_of flags)

-- whatever words were received, the burst or the epoch of the phase takes one more
abbrev pub MayTake : Phase → BurstState → EpochState → Type 0
MayTake Reserve burst epoch = Unit {0}
MayTake (Burst field index) burst epoch = (field < 16) × (1 ≤ index → IsGoing burst.phase)
MayTake Epoch burst epoch = is_done epoch ≡ false

abbrev pub IsReady : Reception → Type 0
IsReady reception = MayTake reception.phase reception.burst reception.epoch

-- a burst of which some words have come stands for them
abbrev pub IsBegun : ℕ → BurstState → List (List ℕ) → Type 0
IsBegun index burst words = 1 ≤ index → BurstStandsFor burst words

-- a word of a burst taken, of which so many words have come
pub record TakesNext (index : ℕ) (old : BurstState) (word : List ℕ) (new : BurstState) (step : BurstStep) : Type 0 where
  pub phase : IsAfter step new.phase
  pub stands : (words : List (List ℕ)) → index ≡ length words → IsBegun index old words → BurstStandsFor new (words ++ word ∷ [])
  pub shows : (words : List (List ℕ)) → index ≡ length words → IsBegun index old words → StepShows step (burst_of (words ++ word ∷ []))

-- the begun cycle has a burst of this field under way, and then bursts of the further granted fields
pub record InBurst (field : ℕ) (index : ℕ) (flags : List Bool) (burst : BurstState) (begun : Option Cycle) : Type 0 where
  pub cycle : Cycle
  pub is : begun ≡ Some cycle
  pub left : fields_left cycle ≡ field ∷ fields_from flags (field + 1)
  pub counted : index ≡ length cycle.since
  pub stands : IsBegun index burst cycle.since

-- the begun cycle has its epoch under way
pub record InEpoch (epoch : EpochState) (begun : Option Cycle) : Type 0 where
  pub cycle : Cycle
  pub is : begun ≡ Some cycle
  pub left : fields_left cycle ≡ []
  pub stands : EpochStandsFor epoch cycle.since

-- the phase is that of the begun cycle
abbrev pub InPhase : Phase → List Bool → BurstState → EpochState → Option Cycle → Type 0
InPhase Reserve flags burst epoch begun = begun ≡ None
InPhase (Burst field index) flags burst epoch begun = InBurst field index flags burst begun
InPhase Epoch flags burst epoch begun = InEpoch epoch begun

-- this is what is kept of these words
pub record Receives (reception : Reception) (words : List (List ℕ)) : Type 0 where
  pub place : InPhase reception.phase reception.granted reception.burst reception.epoch (history_of words).begun
  pub log : reception.log.entries ≡ log_of words

-- the phase with which bursts of these fields begin, or with none of them an epoch
abbrev pub IsAt : List ℕ → List Bool → Phase → EpochState → Type 0
IsAt [] flags phase epoch = (phase ≡ Epoch) × EpochStandsFor epoch []
IsAt (field ∷ fields) flags phase epoch = (phase ≡ Burst field 0) × (fields ≡ fields_from flags (field + 1)) × (field < 16)

-- a word of a burst of a field after which there is no message
pub record CompletesNoMessage (words : List (List ℕ)) (word : List ℕ) : Type 0 where
  pub cycle : Cycle
  pub field : ℕ
  pub fields : List ℕ
  pub is : (history_of words).begun ≡ Some cycle
  pub left : fields_left cycle ≡ field ∷ fields
  pub none : message_of (burst_of (cycle.since ++ word ∷ [])) ≡ None

-- a word that makes the burst of this field whole
pub record CompletesMessage (field : ℕ) (burst : BurstState) (words : List (List ℕ)) (word : List ℕ) : Type 0 where
  pub cycle : Cycle
  pub fields : List ℕ
  pub message : List ℕ
  pub is : (history_of words).begun ≡ Some cycle
  pub left : fields_left cycle ≡ field ∷ fields
  pub gives : burst_of (cycle.since ++ word ∷ []) ≡ gave message
  pub stands : BurstStandsFor burst (cycle.since ++ word ∷ [])

-- a word of an epoch: its leaves, and whether the epoch is over
pub record IsOfEpoch (over : Bool) (out : List Leaf) (words : List (List ℕ)) (word : List ℕ) : Type 0 where
  pub cycle : Cycle
  pub is : (history_of words).begun ≡ Some cycle
  pub left : fields_left cycle ≡ []
  pub leaves : out ≡ leaves_at cycle.since word
  pub ended : over ≡ is_over (epoch_of (cycle.since ++ word ∷ []))

-- this is the effect of a word after these words
abbrev pub IsEffectOf : Effect → Reception → List (List ℕ) → List ℕ → Type 0
IsEffectOf Nothing reception words word = ((history_of words).begun ≡ None) ⊎ CompletesNoMessage words word
IsEffectOf (Message field) reception words word = CompletesMessage field reception.burst words word
IsEffectOf (Leaves over) reception words word = IsOfEpoch over reception.leaves words word

-- where a message was completed, the burst has it
abbrev pub HasMessage : Effect → BurstState → Type 0
HasMessage Nothing burst = Unit {0}
HasMessage (Message field) burst = IsWhole burst.phase
HasMessage (Leaves over) burst = Unit {0}

-- a word taken: where the old receiver stands for words and there is room for one more, the new one stands for them and the word
pub record ReceivesWord (old : Reception) (word : List ℕ) (new : Reception) (effect : Effect) : Type 0 where
  pub ready : IsReady new
  pub index : index_of new.phase ≤ index_of old.phase + 1
  pub room : new.log.room ≡ old.log.room
  pub message : HasMessage effect new.burst
  pub receives : (words : List (List ℕ)) → length words < old.log.room → Receives old words → Receives new (words ++ word ∷ [])
  pub result_is : (words : List (List ℕ)) → Receives old words → IsEffectOf effect new words word
