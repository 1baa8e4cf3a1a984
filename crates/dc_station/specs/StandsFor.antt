-- A receiver, a sender and a station as the code keeps them, against streams and the words that were received.
use Rattle.std.specs.Prelude.{◌≡◌, ℕ, Bool, false, List, [], ◌∷◌, ◌++◌, length, Option, Some, None}
use Rattle.dc_spec.specs.Entries.{Entry, Stream}
use Rattle.dc_station_rules.specs.Cycles.{Cycle, history_of}
use Rattle.dc_station_rules.specs.Stations.{left_after, longs_sent, sent_of, shorts_sent}
use Rattle.dc_station.specs.declared.reception.Reception.{Reception}
use Rattle.dc_station.specs.declared.reception.Effect.{Effect}
use Rattle.dc_station.specs.declared.progress.Progress.{Progress}
use Rattle.dc_station.specs.Receiving.{IsEffectOf, Receives}
use Rattle.dc_station.specs.Sending.{left, one_if}
use Rattle.dc_station.specs.State.{ReceiverState, SenderState, State}

-- this is the result of the last of these words, where there is one
abbrev pub IsOfLast : Effect → Reception → List (List ℕ) → Type 0
IsOfLast effect kept all = (words : List (List ℕ)) (word : List ℕ) → all ≡ words ++ word ∷ [] → IsEffectOf effect kept words word

-- the receiver has so many words in its session, and has received these words
pub record ReceiverStandsFor (receiver : ReceiverState) (total : ℕ) (words : List (List ℕ)) : Type 0 where
  pub session : receiver.total ≡ total
  pub counted : receiver.taken ≡ length words
  pub receives : Receives receiver.kept words
  pub last : IsOfLast receiver.effect receiver.kept words

-- whether a value and a message of a pending stream were sent in the begun cycle
abbrev pub AreSent : Bool → Bool → Stream → Option Cycle → Type 0
AreSent short_sent long_sent pending None = (short_sent ≡ false) × (long_sent ≡ false)
AreSent short_sent long_sent pending (Some cycle) = (length (shorts_sent pending cycle) ≡ one_if short_sent) × (length (longs_sent pending cycle) ≡ one_if long_sent)

-- what was pending when the cycle began, what the cycle sent, and all entries that were sent
pub record Sends (stream : Stream) (progress : Progress) (pending : Stream) (begun : Option Cycle) (entries : List Entry) : Type 0 where
  pub remains : left stream progress ≡ pending
  pub sent : AreSent progress.short_sent progress.long_sent pending begun
  pub log : progress.log.entries ≡ entries

-- the sender has so many words in its session, and has taken these words with this stream
pub record SenderStandsFor (sender : SenderState) (stream : Stream) (total : ℕ) (words : List (List ℕ)) : Type 0 where
  pub session : sender.total ≡ total
  pub counted : sender.taken ≡ length words
  pub sends : Sends stream sender.progress (left_after stream (history_of words).whole) (history_of words).begun (sent_of stream words)

-- the station has this stream and so many words in its session, and has received these words
pub record StandsFor (state : State) (stream : Stream) (total : ℕ) (words : List (List ℕ)) : Type 0 where
  pub session : state.total ≡ total
  pub counted : state.taken ≡ length words
  pub own : state.stream ≡ stream
  pub receives : ReceiverStandsFor state.receiver total words
  pub sends : SenderStandsFor state.sender state.stream total words
