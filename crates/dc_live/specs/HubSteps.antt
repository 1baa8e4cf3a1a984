-- The steps of a hub's session: a turn of one peer, a word for the core, a sum for all peers.
use Rattle.std.specs.Prelude.{ℕ, ◌+◌, ◌<◌, ◌≤◌, ◌≡◌, List, [], ◌∷◌, ◌++◌, length, slice_get, Option, Some, None, Result, Ok, Err}
use Rattle.dc_spec.specs.Outside.{WireState, Rose, IsFront}
use Rattle.dc_spec.specs.Frames.{Frame as frame, all}
use Rattle.dc_formats.specs.Frames.{frame_bytes}
use Rattle.dc_hub_rules.specs.Hubs.{Arrival, accepted, reply}
use Rattle.dc_superpose.specs.HubCore.{HubState, StandsFor}
use Rattle.dc_superpose.specs.HubSteps.{answer_of, Counts}
use Rattle.dc_superpose.specs.declared.hub_step.HubStep.{HubStep}
use Rattle.dc_superpose.specs.declared.hub_step.HubStep.TheVariants.{Waiting, Complete}
use Rattle.dc_superpose.specs.declared.hub_fault.HubFault.{HubFault}
use Rattle.dc_live.specs.Hearing.{word_of}
use Rattle.dc_live.specs.Seats.{SeatsState, seat_at, told_by, with_seat, counted_once, AreSeats}
use Rattle.dc_live.specs.HubSession.{TalksWithAll}
use Rattle.dc_live.specs.declared.fault.PeerFault.{PeerFault}
use Rattle.dc_live.specs.declared.fault.LiveFault.{LiveFault}
use Rattle.dc_live.specs.declared.fault.LiveFault.TheVariants.{Wire, Peer}

-- by peer the words that were taken: the accepted words are these; of each peer the word of the round in progress is the next one,
-- or it
-- was the last one, and then nothing was taken behind it
pub record InStep (s : SeatsState) (c : HubState) (arrivals : List Arrival) (words : ℕ → List (List ℕ)) : Type 0 where
  pub are : AreSeats s
  pub all : length s.told ≡ s.stations
  pub core : StandsFor c s.stations s.words arrivals
  pub counted : (p : ℕ) → p < s.stations → (seat_at s p).heard ≡ length (words p)
  pub level : (p : ℕ) → p < s.stations → (c.round ≤ length (words p)) × (length (words p) ≤ c.round + 1)
  pub accepted : (p t : ℕ) → p < s.stations → t < s.words → accepted s.stations arrivals (told_by s p) t ≡ slice_get (words p) t
  pub there : (p : ℕ) → p < s.stations → length (words p) ≡ c.round + 1 → (seat_at s p).reader.part ≡ []
  pub over : s.words ≤ c.round → (p : ℕ) → p < s.stations → (length (words p) ≤ c.round) × ((seat_at s p).reader.part ≡ [])

-- the seats and the core are in step for some arrivals and words
pub record AreInStep (s : SeatsState) (c : HubState) : Type 0 where
  pub arrivals : List Arrival
  pub words : ℕ → List (List ℕ)
  pub step : InStep s c arrivals words

-- the word of this peer for the round in progress is missing
pub record IsDue (s : SeatsState) (round peer : ℕ) : Type 0 where
  pub seated : peer < s.stations
  pub missing : (seat_at s peer).heard ≡ round

-- when each answer of a broadcast comes: every peer was sent the text, or each a front of it and the count rose
abbrev pub BroadcastAnswer : ℕ → (ℕ → List ℕ) → List ℕ → WireState → WireState → Result Unit LiveFault → Type 0
BroadcastAnswer n given text before after (Ok _) = (p : ℕ) → p < n → given p ≡ text
BroadcastAnswer n given text before after (Err Wire) = ((p : ℕ) → p < n → IsFront (given p) text) × Rose before.faults after.faults
BroadcastAnswer n given text before after (Err (Peer peer fault)) = ⊥

-- the sum of a round goes out to all peers
pub record Broadcasts (n round : ℕ) (sum : List ℕ) (before after : WireState) (result : Result Unit LiveFault) : Type 0 where
  pub given : ℕ → List ℕ
  pub talks : TalksWithAll n (λ p. []) given before after
  pub answer : BroadcastAnswer n given (frame_bytes (all round sum)) before after result

-- the sum that an answer of the core gives
abbrev pub sum_in : Result HubStep HubFault → Option (List ℕ)
sum_in (Ok (Complete sum)) = Some sum
sum_in (Ok (Waiting missing)) = None
sum_in (Err fault) = None

-- the word of a station for the round in progress goes to the core, which answers with the sum of the round where it is complete
pub record FeedsCore (station : ℕ) (word : List ℕ) (c new : HubState) (sum : Option (List ℕ)) : Type 0 where
  pub answer : Result HubStep HubFault
  pub sum_is : sum ≡ sum_in answer
  pub replies : (n rounds : ℕ) (arrivals : List Arrival) → StandsFor c n rounds arrivals
      → answer ≡ answer_of (reply n rounds arrivals (record { station = station; round = c.round; word = word }))
  pub stands : (n rounds : ℕ) (arrivals : List Arrival) → StandsFor c n rounds arrivals
      → StandsFor new n rounds (arrivals ++ record { station = station; round = c.round; word = word } ∷ [])
  pub counts : Counts c new answer

-- what goes out after a word: the sum of a complete round, and else nothing
abbrev pub GoesOut : ℕ → ℕ → WireState → WireState → Result Unit LiveFault → Option (List ℕ) → Type 0
GoesOut n round before after result (Some sum) = Broadcasts n round sum before after result
GoesOut n round before after result None = (after ≡ before) × (result ≡ Ok tt)

-- the word of a peer for the round in progress is taken
pub record TakesWord (peer : ℕ) (word : List ℕ) (s new : SeatsState) (c new_core : HubState)
    (before after : WireState) (result : Result Unit LiveFault) : Type 0 where
  pub seats : new ≡ with_seat s peer (counted_once (seat_at s peer))
  pub sum : Option (List ℕ)
  pub core : FeedsCore (told_by s peer) word c new_core sum
  pub out : GoesOut s.stations c.round before after result sum

-- nothing changed, and this is the answer
pub record IsRefused (peer : ℕ) (s new : SeatsState) (c new_core : HubState)
    (before after : WireState) (fault : LiveFault) (result : Result Unit LiveFault) : Type 0 where
  pub seats : new ≡ s
  pub core : new_core ≡ c
  pub wire : after ≡ before
  pub is : result ≡ Err fault

-- a frame of a peer where its word of the round in progress is due
pub record TakesFrame (peer : ℕ) (f : frame) (s new : SeatsState) (c new_core : HubState)
    (before after : WireState) (result : Result Unit LiveFault) : Type 0 where
  pub unfit : (fault : PeerFault) → word_of c.round f ≡ Err fault → IsRefused peer s new c new_core before after (Peer peer fault) result
  pub fit : (word : List ℕ) → word_of c.round f ≡ Ok word → TakesWord peer word s new c new_core before after result
