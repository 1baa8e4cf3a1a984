-- What contracts see of a receiver, a sender and a station.
use Rattle.std.specs.Prelude.{◌≡◌, ℕ, ◌≤◌}
use Rattle.dc_spec.specs.Limits.{most_words}
use Rattle.dc_spec.specs.Entries.{Stream}
use Rattle.dc_station.specs.declared.reception.Reception.{Reception}
use Rattle.dc_station.specs.declared.reception.Effect.{Effect}
use Rattle.dc_station.specs.declared.progress.Progress.{Progress}
use Rattle.dc_station.specs.Receiving.{HasMessage, IsReady, index_of}
use Rattle.dc_station.specs.Sending.{IsWithin}

-- how many words were received, how many words the session has, what is kept of the words, and the result of the last one
pub record ReceiverState : Type 0 where
  pub taken : ℕ
  pub total : ℕ
  pub kept : Reception
  pub effect : Effect

-- one more word can always be taken, and the log has room for all words
pub record IsReceiver (taken : ℕ) (total : ℕ) (kept : Reception) (effect : Effect) : Type 0 where
  pub within : taken ≤ total
  pub few : total ≤ most_words
  pub ready : IsReady kept
  pub index : index_of kept.phase ≤ taken
  pub room : kept.log.room ≡ total
  pub message : HasMessage effect kept.burst

-- how many words were taken, how many words the session has, and what is pending and sent
pub record SenderState : Type 0 where
  pub taken : ℕ
  pub total : ℕ
  pub progress : Progress

-- a sender's counts are within this stream
abbrev pub IsSenderOf : SenderState → Stream → Type 0
IsSenderOf sender stream = IsWithin stream sender.progress

-- how many words were received, how many words the session has, the stream, and the two parts of the station
pub record State : Type 0 where
  pub taken : ℕ
  pub total : ℕ
  pub stream : Stream
  pub receiver : ReceiverState
  pub sender : SenderState

-- the sender took each word of the receiver
pub record IsStation (stream : Stream) (receiver : ReceiverState) (sender : SenderState) : Type 0 where
  pub level : sender.taken ≡ receiver.taken
  pub session : sender.total ≡ receiver.total
  pub own : IsSenderOf sender stream
