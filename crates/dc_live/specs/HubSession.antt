-- The session of a hub: what each peer is sent by the words that all peers gave, and how it ends.
use Rattle.std.specs.Prelude.{ℕ, ◌+◌, ◌<◌, ◌≤◌, ◌≡◌, ◌≢◌, ◌++◌, List, [], length, drop, map, slice_get, Some, None, Result, Ok, Err}
use Rattle.std.specs.List.{range_with_len}
use Rattle.dc_spec.specs.Outside.{WireState, Rose, IsEmptyIfKnown, grown, preceded}
use Rattle.dc_spec.specs.Frames.{all}
use Rattle.dc_formats.specs.Frames.{frames_bytes}
use Rattle.dc_frame.specs.Reading.{reading, capped}
use Rattle.dc_hub_rules.specs.Hubs.{Arrival, accepted, accepted_sum, complete_rounds}
use Rattle.dc_superpose.specs.HubCore.{HubState, StandsFor}
use Rattle.dc_live.specs.Hearing.{Heard, hear, word_of, frame_fault}
use Rattle.dc_live.specs.Seats.{SeatsState, told_by, GaveHellos}
use Rattle.dc_live.specs.Talking.{Spoke}
use Rattle.dc_live.specs.declared.fault.LiveFault.{LiveFault}
use Rattle.dc_live.specs.declared.fault.LiveFault.TheVariants.{Wire, Peer}
use Rattle.dc_live.specs.declared.fault.PeerFault.TheVariants as faults

-- what the hub hears of a peer that gave these bytes, behind its hello
unfoldable pub words_heard : ℕ → List ℕ → Heard
words_heard total bytes = hear word_of total 0 (drop 1 (reading bytes).frames) (frame_fault bytes)

-- what the hub sends to every peer: the sums of the accepted words of so many rounds, in turn
abbrev pub sums_bytes : ℕ → List Arrival → ℕ → List ℕ
sums_bytes n arrivals rounds = frames_bytes (map (λ t. all t (accepted_sum n arrivals t)) (range_with_len 0 rounds))

-- each of the first so many peers gave the taken bytes and was sent the given ones, where that is known; all else stays, and the
-- count
-- never falls
pub record TalksWithAll (n : ℕ) (taken given : ℕ → List ℕ) (before after : WireState) : Type 0 where
  pub peers : after.peers ≡ before.peers
  pub left : (p : ℕ) → p < n → before.left p ≡ preceded (taken p) (after.left p)
  pub sent : (p : ℕ) → p < n → after.sent p ≡ grown (before.sent p) (given p)
  pub others : (p : ℕ) → n ≤ p → (after.left p ≡ before.left p) × (after.sent p ≡ before.sent p)
  pub asked : after.asked ≡ before.asked
  pub counted : before.faults ≤ after.faults

-- the bytes of a peer are exactly its hello and a word for each round of the session
pub record IsWholePeer (total : ℕ) (bytes : List ℕ) : Type 0 where
  pub words : length (words_heard total bytes).words ≡ total
  pub frames : length (reading bytes).frames ≡ total + 1
  pub rest : (reading bytes).ends ≡ Ok []

-- the bytes of a peer show no fault, and some of its words are still to come
pub record IsUnfinishedPeer (total : ℕ) (bytes : List ℕ) : Type 0 where
  pub words : length (words_heard total bytes).words < total
  pub fault : (words_heard total bytes).fault ≡ None

-- the bytes of a peer show no fault and go with this round: its words of all earlier rounds are there, and where the word of this
-- round is
-- too, nothing behind it was taken
pub record IsInStep (total rounds : ℕ) (bytes : List ℕ) : Type 0 where
  pub fault : (words_heard total bytes).fault ≡ None
  pub least : rounds ≤ length (words_heard total bytes).words
  pub most : length (words_heard total bytes).words ≤ rounds + 1
  pub frames : length (words_heard total bytes).words ≡ rounds + 1 → length (reading bytes).frames ≡ rounds + 2
  pub rest : length (words_heard total bytes).words ≡ rounds + 1 → (reading bytes).ends ≡ Ok []

-- at a fault of a peer its word of the round in progress is missing, and the bytes of all others go with this round
pub record IsFaultInRound (n total rounds : ℕ) (bytes : ℕ → List ℕ) (who : ℕ) : Type 0 where
  pub peer : who < n
  pub now : length (words_heard total (bytes who)).words ≡ rounds
  pub others : (p : ℕ) → p < n → p ≢ who → IsInStep total rounds (bytes p)

-- when each answer comes, by the bytes of each peer: after the last round and no byte more; where the wire failed; where the bytes
-- of a
-- peer ended; where the bytes of a peer show the fault
abbrev pub HubEnds : ℕ → ℕ → ℕ → (ℕ → List ℕ) → WireState → WireState → Result Unit LiveFault → Type 0
HubEnds n total rounds bytes before after (Ok _) = (rounds ≡ total) × ((p : ℕ) → p < n → IsWholePeer total (bytes p))
HubEnds n total rounds bytes before after (Err Wire) = ((p : ℕ) → p < n → IsInStep total rounds (bytes p)) × Rose before.faults after.faults
HubEnds n total rounds bytes before after (Err (Peer who (faults.Ended at))) =
    IsFaultInRound n total rounds bytes who × (at ≡ capped (length (bytes who))) × IsUnfinishedPeer total (bytes who) × IsEmptyIfKnown (after.left who)
HubEnds n total rounds bytes before after (Err (Peer who fault)) =
    IsFaultInRound n total rounds bytes who × ((words_heard total (bytes who)).fault ≡ Some fault)

-- by the bytes that each peer gave in all: the accepted words of a station are those that its peer gave, in turn; and the end
pub record HeardAll (s : SeatsState) (arrivals : List Arrival) (bytes : ℕ → List ℕ)
    (before after : WireState) (result : Result Unit LiveFault) : Type 0 where
  pub words : (p t : ℕ) → p < s.stations → t < s.words → accepted s.stations arrivals (told_by s p) t ≡ slice_get (words_heard s.words (bytes p)).words t
  pub ends : HubEnds s.stations s.words (complete_rounds s.stations s.words arrivals) bytes before after result

-- a session of a hub: the words that the core took, and what every peer was sent by them
pub record RunsHub (s : SeatsState) (new_core : HubState) (before after : WireState) (result : Result Unit LiveFault) : Type 0 where
  pub taken : ℕ → List ℕ
  pub given : ℕ → List ℕ
  pub arrivals : List Arrival
  pub talks : TalksWithAll s.stations taken given before after
  pub core : StandsFor new_core s.stations s.words arrivals
  pub spoke : (p : ℕ) → p < s.stations → Spoke (sums_bytes s.stations arrivals (complete_rounds s.stations s.words arrivals)) (given p) result
  pub heard : (greeted : ℕ → List ℕ) → GaveHellos s greeted → HeardAll s arrivals (λ p. greeted p ++ taken p) before after result

-- it is known what the peers give, each behind its hello a word for each round in order, and no fault was counted
pub record HearsWords (s : SeatsState) (before after : WireState) : Type 0 where
  pub greeted : ℕ → List ℕ
  pub hellos : GaveHellos s greeted
  pub rest : ℕ → List ℕ
  pub known : (p : ℕ) → p < s.stations → before.left p ≡ Some (rest p)
  pub words : (p : ℕ) → p < s.stations → length (words_heard s.words (greeted p ++ rest p)).words ≡ s.words
  pub counted : Rose before.faults after.faults → ⊥
