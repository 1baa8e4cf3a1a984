-- What a call of a sink does to its state, by its answer.
use Rattle.std.specs.Prelude.{ℕ, ◌≤◌, ◌≡◌, List, [], Result, Ok, Err, IsOk}
use Rattle.dc_spec.specs.Outside.{SinkState, Rose, IsFront, grown}
use Rattle.dc_edge.specs.declared.fault.Failed.{Failed}

-- the sink took this and no more
abbrev pub Appended : List ℕ → SinkState → SinkState → Type 0
Appended bytes before after = after.written ≡ grown before.written bytes

-- all was appended, or a front and the count rose
abbrev pub PutAnswer : List ℕ → SinkState → SinkState → Result Unit Failed → Type 0
PutAnswer bytes before after (Ok _) = Appended bytes before after
PutAnswer bytes before after (Err _) = ((front : List ℕ) × IsFront front bytes × Appended front before after) × Rose before.faults after.faults

-- a put of a piece: the count never falls, and an empty piece is taken and changes nothing
pub record Puts (bytes : List ℕ) (before after : SinkState) (result : Result Unit Failed) : Type 0 where
  pub counted : before.faults ≤ after.faults
  pub answer : PutAnswer bytes before after result
  pub empty : bytes ≡ [] → IsOk result × (after ≡ before)
