-- The session of a station: what it sends by what it hears, and how it ends.
use Rattle.std.specs.Prelude.{ℕ, ◌<◌, ◌≤◌, ◌≡◌, List, [], length, Some, None, Result, Ok, Err}
use Rattle.dc_spec.specs.Outside.{WireState, Rose, IsEmptyIfKnown}
use Rattle.dc_spec.specs.Entries.{Stream}
use Rattle.dc_spec.specs.Pads.{Keys}
use Rattle.dc_spec.specs.Frames.{Frame as frame, hello}
use Rattle.dc_formats.specs.Frames.{frames_bytes}
use Rattle.dc_formats.specs.KeyFile.{IsKeys}
use Rattle.dc_net_rules.specs.SessionTexts.{says}
use Rattle.dc_keys.specs.StationPads.{StationPads, station_pads}
use Rattle.dc_frame.specs.Reading.{reading, capped}
use Rattle.dc_station.specs.State.{State}
use Rattle.dc_station.specs.StandsFor.{StandsFor as station_stands_for}
use Rattle.dc_conv.specs.Mask.{MaskState, session_words, StandsFor as mask_stands_for}
use Rattle.dc_live.specs.Hearing.{heard, station_fault}
use Rattle.dc_live.specs.Talking.{Talks, Spoke}
use Rattle.dc_live.specs.declared.fault.LiveFault.{LiveFault}
use Rattle.dc_live.specs.declared.fault.LiveFault.TheVariants.{Wire, Peer}
use Rattle.dc_live.specs.declared.fault.PeerFault.TheVariants as faults

-- who greets: a station of so many, in a session of so many words
pub record Greeting : Type 0 where
  pub station : ℕ
  pub stations : ℕ
  pub words : ℕ

-- the numbers of a hello
abbrev pub greeting_of : frame → Greeting
greeting_of (hello station stations words) = record { station = station; stations = stations; words = words }
greeting_of _ = record { station = 0; stations = 0; words = 0 }

-- a frame is a hello
abbrev pub IsHello : frame → Type 0
IsHello (hello station stations words) = Unit {0}
IsHello _ = ⊥

-- the station and the mask are those of a session of so many words, at least one, and have received none
pub record IsBefore (words : ℕ) (st : State) (mask : MaskState) : Type 0 where
  pub some : 1 ≤ words
  pub received : st.taken ≡ 0
  pub session : st.total ≡ words
  pub taken : mask.taken ≡ 0
  pub pads : session_words mask ≡ words

-- the bytes are exactly the frames of a session of so many words, each the sum of its round
pub record IsWholeSession (total : ℕ) (bytes : List ℕ) : Type 0 where
  pub words : length (heard total bytes) ≡ total
  pub frames : length (reading bytes).frames ≡ total
  pub rest : (reading bytes).ends ≡ Ok []

-- the bytes show no fault, and some of the session's words are still to come
pub record IsUnfinished (total : ℕ) (bytes : List ℕ) : Type 0 where
  pub words : length (heard total bytes) < total
  pub fault : station_fault total bytes ≡ None

-- when each answer comes: after the last word and no byte more; where the wire failed; where the bytes ended; where they show the
-- fault
abbrev pub StationEnds : ℕ → ℕ → List ℕ → WireState → WireState → Result Unit LiveFault → Type 0
StationEnds peer total taken before after (Ok _) = IsWholeSession total taken
StationEnds peer total taken before after (Err Wire) = IsUnfinished total taken × Rose before.faults after.faults
StationEnds peer total taken before after (Err (Peer who (faults.Ended at))) =
    (who ≡ peer) × (at ≡ capped (length taken)) × IsUnfinished total taken × IsEmptyIfKnown (after.left peer)
StationEnds peer total taken before after (Err (Peer who fault)) = (who ≡ peer) × (station_fault total taken ≡ Some fault)

-- a session of a station by the bytes that the peer gave: what was sent is what the station with these keys and this stream says
-- after the words heard; the station and the mask have taken these words
pub record RunsStation (peer : ℕ) (g : Greeting) (st new_st : State) (mask new_mask : MaskState)
    (before after : WireState) (result : Result Unit LiveFault) : Type 0 where
  pub taken : List ℕ
  pub given : List ℕ
  pub talks : Talks peer taken given before after
  pub ends : StationEnds peer g.words taken before after result
  pub spoke : (stream : Stream) (keys : Keys) → IsKeys keys → station_stands_for st stream g.words []
      → mask_stands_for mask (station_pads keys g.station) []
      → Spoke (frames_bytes (says g.station g.stations g.words keys.pairs stream (heard g.words taken))) given result
  pub received : (stream : Stream) → station_stands_for st stream g.words [] → station_stands_for new_st stream g.words (heard g.words taken)
  pub masked : (pads : StationPads) → mask_stands_for mask pads [] → mask_stands_for new_mask pads (heard g.words taken)

-- it is known what the peer gives, which begins with the sums of all rounds in order, and no fault was counted
pub record HearsAll (peer total : ℕ) (before after : WireState) : Type 0 where
  pub bytes : List ℕ
  pub known : before.left peer ≡ Some bytes
  pub words : length (heard total bytes) ≡ total
  pub counted : Rose before.faults after.faults → ⊥
