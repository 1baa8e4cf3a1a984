-- An epoch as the code keeps it, against the words that were received since its restart.
use Rattle.std.specs.Prelude.{◌≡◌, ℕ, Bool, true, false, ◌&&◌, List, [], ◌∷◌}
use Rattle.dc_station_rules.specs.Epochs.{Epoch, unbegun, resolving, void_epoch, Ranged, epoch_of, is_over}
use Rattle.dc_average.specs.Items.{items_of, from_open}

-- whether the root was received, and the groups that wait for their words, the current one first
pub record State : Type 0 where
  pub begun : Bool
  pub waiting : List Ranged

abbrev pub is_empty : {A : Type 0} → List A → Bool
is_empty [] = true
is_empty (x ∷ xs) = false

-- whether no further word is taken
abbrev pub is_done : State → Bool
is_done state = state.begun && is_empty state.waiting

-- what is kept of an epoch: of its tree the groups from the first open one on
abbrev pub state_of : Epoch → State
state_of unbegun = record { begun = false; waiting = [] }
state_of (resolving tree) = record { begun = true; waiting = from_open (items_of tree) }
state_of (void_epoch out fault) = record { begun = true; waiting = [] }

-- this is what is kept of the epoch of these words, and it takes no further word exactly where the epoch does not
pub record StandsFor (state : State) (words : List (List ℕ)) : Type 0 where
  pub kept : state ≡ state_of (epoch_of words)
  pub over : is_done state ≡ is_over (epoch_of words)
