-- What a word changes in what a station keeps of its sending.
use Rattle.std.specs.Prelude.{◌≡◌, ℕ, Bool, true, false, List}
use Rattle.dc_spec.specs.Entries.{Stream}
use Rattle.dc_station_rules.specs.Bursts.{burst_of, gave}
use Rattle.dc_station_rules.specs.Epochs.{Leaf}
use Rattle.dc_reserve.specs.StandsFor.{State as BurstState, StandsFor as BurstStandsFor}
use Rattle.dc_station.specs.declared.reception.Reception.{Reception}
use Rattle.dc_station.specs.declared.reception.Effect.{Effect}
use Rattle.dc_station.specs.declared.reception.Effect.TheVariants.{Nothing, Message, Leaves}
use Rattle.dc_station.specs.declared.progress.Progress.{Progress}
use Rattle.dc_station.specs.Sending.{Ends, SendsLong, SendsShort, left, longs_of, shorts_of}

-- the message of a burst of this field
pub record HearsMessage (stream : Stream) (old : Progress) (field : ℕ) (burst : BurstState) (new : Progress) : Type 0 where
  pub given : List ℕ
  pub given_is : (words : List (List ℕ)) (message : List ℕ) → BurstStandsFor burst words → burst_of words ≡ gave message → given ≡ message
  pub sends : SendsLong stream old (longs_of (left stream old) field given) new

-- the last leaves of a cycle, and then its end
pub record HearsLast (stream : Stream) (old : Progress) (out : List Leaf) (new : Progress) : Type 0 where
  pub before : Progress
  pub sends : SendsShort stream old (shorts_of old.short_sent (left stream old) out) before
  pub ends : Ends stream before new

-- leaves, the last of the cycle or not
abbrev pub HearsLeaves : Bool → Stream → Progress → List Leaf → Progress → Type 0
HearsLeaves true stream old out new = HearsLast stream old out new
HearsLeaves false stream old out new = SendsShort stream old (shorts_of old.short_sent (left stream old) out) new

-- the result of a word
abbrev pub Hears : Effect → Stream → Progress → Reception → Progress → Type 0
Hears Nothing stream old reception new = new ≡ old
Hears (Message field) stream old reception new = HearsMessage stream old field reception.burst new
Hears (Leaves over) stream old reception new = HearsLeaves over stream old reception.leaves new
