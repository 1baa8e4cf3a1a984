-- The steps of a station's session: its word goes out, the sum of the round comes in.
use Rattle.std.specs.Prelude.{ℕ, ◌<◌, ◌≡◌, List, [], ◌∷◌, ◌++◌, length, Some, Result, Ok, Err}
use Rattle.dc_spec.specs.Outside.{WireState, Rose, IsEmptyIfKnown}
use Rattle.dc_spec.specs.Entries.{Stream}
use Rattle.dc_spec.specs.Pads.{Keys}
use Rattle.dc_spec.specs.Frames.{Frame as frame, send, all}
use Rattle.dc_formats.specs.Frames.{frame_bytes}
use Rattle.dc_formats.specs.KeyFile.{IsKeys}
use Rattle.dc_net_rules.specs.Runs.{station_word}
use Rattle.dc_keys.specs.StationPads.{station_pads}
use Rattle.dc_frame.specs.Reading.{reading, capped}
use Rattle.dc_frame.specs.Reader.{ReaderState}
use Rattle.dc_station.specs.State.{State}
use Rattle.dc_station.specs.StandsFor.{StandsFor as station_stands_for}
use Rattle.dc_conv.specs.Mask.{MaskState, StandsFor as mask_stands_for}
use Rattle.dc_live.specs.Hearing.{sum_of, hear, frame_fault}
use Rattle.dc_live.specs.Receiving.{HasRead, Waits}
use Rattle.dc_live.specs.Sending.{SendsText}
use Rattle.dc_live.specs.Talking.{Talks}
use Rattle.dc_live.specs.declared.fault.LiveFault.{LiveFault}
use Rattle.dc_live.specs.declared.fault.LiveFault.TheVariants.{Wire, Peer}
use Rattle.dc_live.specs.declared.fault.PeerFault.{PeerFault}
use Rattle.dc_live.specs.declared.fault.PeerFault.TheVariants as faults

-- a word goes out, which for every stream, every keys and all words that the station and the mask stand for is the station's word
pub record SaysWord (peer round : ℕ) (st : State) (mask : MaskState)
    (before after : WireState) (result : Result Unit LiveFault) : Type 0 where
  pub word : List ℕ
  pub sends : SendsText peer (frame_bytes (send round word)) before after result
  pub is : (stream : Stream) (total : ℕ) (keys : Keys) (me : ℕ) (words : List (List ℕ)) → IsKeys keys → station_stands_for st stream total words
      → mask_stands_for mask (station_pads keys me) words → word ≡ station_word stream keys.pairs me words

-- behind the frames that were read before, the bytes show this fault where the sum of this round is due
pub record ShowsInRound (round : ℕ) (bytes : List ℕ) (frames : List frame) (fault : PeerFault) : Type 0 where
  pub tail : List frame
  pub read : (reading bytes).frames ≡ frames ++ tail
  pub shown : (total : ℕ) → round < total → hear sum_of total round tail (frame_fault bytes) ≡ record { words = []; fault = Some fault }

-- what was read of all bytes so far, by the answer where the sum of a round is due
abbrev pub AfterSum : ℕ → List ℕ → List frame → ReaderState → Result (List ℕ) LiveFault → Type 0
AfterSum round bytes frames new (Ok word) = HasRead new bytes (frames ++ all round word ∷ [])
AfterSum round bytes frames new (Err Wire) = HasRead new bytes frames
AfterSum round bytes frames new (Err (Peer who (faults.Ended at))) = HasRead new bytes frames × (at ≡ capped (length bytes))
AfterSum round bytes frames new (Err (Peer who fault)) = ShowsInRound round bytes frames fault

-- when each answer comes
abbrev pub SumAnswer : ℕ → ReaderState → WireState → WireState → Result (List ℕ) LiveFault → Type 0
SumAnswer peer new before after (Ok word) = Waits new × (new.part ≡ [])
SumAnswer peer new before after (Err Wire) = Rose before.faults after.faults
SumAnswer peer new before after (Err (Peer who (faults.Ended at))) = (who ≡ peer) × IsEmptyIfKnown (after.left peer)
SumAnswer peer new before after (Err (Peer who fault)) = who ≡ peer

-- the sum of a round was received
pub record HearsSum (peer round : ℕ) (r new : ReaderState)
    (before after : WireState) (result : Result (List ℕ) LiveFault) : Type 0 where
  pub piece : List ℕ
  pub talks : Talks peer piece [] before after
  pub read : (bytes : List ℕ) (frames : List frame) → HasRead r bytes frames → AfterSum round (bytes ++ piece) frames new result
  pub answer : SumAnswer peer new before after result
