-- A burst as the code keeps it, against the words that were received since its restart.
use Rattle.std.specs.Prelude.{◌≡◌, ℕ, ◌+◌, ◌-◌, ◌≤◌, List, [], length, take, drop}
use Rattle.dc_spec.specs.Values.{word_count}
use Rattle.dc_station_rules.specs.Bursts.{nth_word, carried, Burst, goes_on, gave, void_burst, burst_of}
use Rattle.dc_reserve.specs.declared.judge.BurstStep.{BurstStep}
use Rattle.dc_reserve.specs.declared.judge.BurstStep.TheVariants.{Goes, Message, Void}
use Rattle.dc_reserve.specs.declared.judge.Phase.{Phase}
use Rattle.dc_reserve.specs.declared.judge.Phase.TheVariants.{First, Later, Whole, Broken}
use Rattle.dc_reserve.specs.Phases.{IsGoing, burst_fault_of}

-- what is kept of a burst: its phase, and the bytes of its words
pub record State : Type 0 where
  pub phase : Phase
  pub bytes : List ℕ

-- what is kept goes with what the words are as a burst
abbrev pub IsKeptOf : Phase → List ℕ → List (List ℕ) → Burst → Type 0
IsKeptOf First bytes words goes_on = (words ≡ []) × (bytes ≡ [])
IsKeptOf (Later left) bytes words goes_on = (1 ≤ length words) × (word_count (nth_word words (length words - 1)) ≡ left + 1) × (bytes ≡ carried words)
IsKeptOf (Whole size) bytes words (gave message) = (message ≡ take size (drop 2 bytes)) × (length message ≡ size)
IsKeptOf Broken bytes words (void_burst fault) = Unit {0}
IsKeptOf phase bytes words burst = ⊥

-- this is what is kept of these words
pub record StandsFor (state : State) (words : List (List ℕ)) : Type 0 where
  pub kept : IsKeptOf state.phase state.bytes words (burst_of words)

-- a step shows what words are as a burst
abbrev pub StepShows : BurstStep → Burst → Type 0
StepShows Goes burst = burst ≡ goes_on
StepShows (Message size) burst = (message : List ℕ) × ((burst ≡ gave message) × (length message ≡ size))
StepShows (Void why) burst = burst ≡ void_burst (burst_fault_of why)

-- the last step gave a message
abbrev pub IsWhole : Phase → Type 0
IsWhole First = ⊥
IsWhole (Later left) = ⊥
IsWhole (Whole size) = Unit {0}
IsWhole Broken = ⊥

-- after a step further words are needed, or the message is there, or neither
abbrev pub IsAfter : BurstStep → Phase → Type 0
IsAfter Goes phase = IsGoing phase
IsAfter (Message size) phase = IsWhole phase
IsAfter (Void why) phase = Unit {0}
