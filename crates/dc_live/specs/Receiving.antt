-- Receiving frames of a peer, piece by piece.
use Rattle.std.specs.Prelude.{ℕ, ◌+◌, ◌<◌, ◌≤◌, ◌≡◌, List, [], ◌∷◌, ◌++◌, length, Option, Some, None, Result, Ok, Err}
use Rattle.dc_spec.specs.Outside.{WireState, Rose, IsEmptyIfKnown}
use Rattle.dc_spec.specs.Frames.{Frame as frame}
use Rattle.dc_frame.specs.Frames.{frame_of}
use Rattle.dc_frame.specs.Reading.{first, missing, reading, capped, fault_in}
use Rattle.dc_frame.specs.Reader.{ReaderState, StandsFor}
use Rattle.dc_frame.specs.declared.frame.Frame.{Frame}
use Rattle.dc_live.specs.Talking.{Talks}
use Rattle.dc_live.specs.declared.fault.LiveFault.{LiveFault}
use Rattle.dc_live.specs.declared.fault.LiveFault.TheVariants.{Wire, Peer}
use Rattle.dc_live.specs.declared.fault.PeerFault.{PeerFault}
use Rattle.dc_live.specs.declared.fault.PeerFault.TheVariants as faults

-- the reader waits for more bytes of a frame
abbrev pub Waits : ReaderState → Type 0
Waits r = first r.part ≡ Ok None

-- the reader was fed these bytes, and all whole frames in them, which are these, were taken out
pub record HasRead (r : ReaderState) (bytes : List ℕ) (frames : List frame) : Type 0 where
  pub front : List ℕ
  pub whole : bytes ≡ front ++ r.part
  pub read : reading front ≡ record { frames = frames; ends = Ok [] }
  pub place : r.start ≡ capped (length front)
  pub waits : Waits r

-- a fault of frames that the bytes show whatever was fed before
abbrev pub ShowsFault : ReaderState → List ℕ → PeerFault → Type 0
ShowsFault r piece (faults.Frame fault) = (bytes : List ℕ) (taken : ℕ) → StandsFor r bytes taken → Some fault ≡ fault_in (bytes ++ piece)
ShowsFault r piece _ = ⊥

-- what is known of one receive of a piece by its answer
abbrev pub PieceAnswer : ℕ → List ℕ → ReaderState → ReaderState → WireState → WireState → Result Unit LiveFault → Type 0
PieceAnswer peer piece r new before after (Ok _) = (1 ≤ length piece) × (length piece ≤ missing r.part) × (new ≡ record r { part = r.part ++ piece })
PieceAnswer peer piece r new before after (Err Wire) = (piece ≡ []) × (new ≡ r) × Rose before.faults after.faults
PieceAnswer peer piece r new before after (Err (Peer who (faults.Ended at))) =
    (who ≡ peer) × (piece ≡ []) × (new ≡ r) × (at ≡ capped (r.start + length r.part)) × IsEmptyIfKnown (after.left peer)
PieceAnswer peer piece r new before after (Err (Peer who fault)) = (who ≡ peer) × (1 ≤ length piece) × (length piece ≤ missing r.part) × ShowsFault r piece fault

-- one receive of at most the bytes that the frame in progress needs
pub record ReceivesPiece (peer : ℕ) (r new : ReaderState) (before after : WireState) (result : Result Unit LiveFault) : Type 0 where
  pub piece : List ℕ
  pub talks : Talks peer piece [] before after
  pub answer : PieceAnswer peer piece r new before after result

-- what was read of all bytes so far, by the answer of a receive of a frame; no frame is there yet, or one more was taken out
abbrev pub AfterRead : List ℕ → List frame → ReaderState → Result (Option Frame) LiveFault → Type 0
AfterRead bytes frames new (Ok None) = HasRead new bytes frames
AfterRead bytes frames new (Ok (Some found)) = HasRead new bytes (frames ++ frame_of found ∷ [])
AfterRead bytes frames new (Err Wire) = HasRead new bytes frames
AfterRead bytes frames new (Err (Peer who (faults.Ended at))) = HasRead new bytes frames × (at ≡ capped (length bytes))
AfterRead bytes frames new (Err (Peer who (faults.Frame fault))) = reading bytes ≡ record { frames = frames; ends = Err fault }
AfterRead bytes frames new (Err (Peer who fault)) = ⊥

-- when each answer of a receive comes
abbrev pub FrameAnswer : ℕ → ReaderState → ReaderState → WireState → WireState → Result (Option Frame) LiveFault → Type 0
FrameAnswer peer r new before after (Ok None) = Waits new × (length r.part < length new.part)
FrameAnswer peer r new before after (Ok (Some found)) = Waits new × (new.part ≡ [])
FrameAnswer peer r new before after (Err Wire) = Rose before.faults after.faults
FrameAnswer peer r new before after (Err (Peer who (faults.Ended at))) = (who ≡ peer) × IsEmptyIfKnown (after.left peer)
FrameAnswer peer r new before after (Err (Peer who fault)) = who ≡ peer

-- bytes were received from a peer, and a frame taken out where it is whole
pub record ReceivesFrame (peer : ℕ) (r new : ReaderState)
    (before after : WireState) (result : Result (Option Frame) LiveFault) : Type 0 where
  pub piece : List ℕ
  pub talks : Talks peer piece [] before after
  pub read : (bytes : List ℕ) (frames : List frame) → HasRead r bytes frames → AfterRead (bytes ++ piece) frames new result
  pub answer : FrameAnswer peer r new before after result

-- a frame that was received as one that may be there
abbrev pub found_in : Result Frame LiveFault → Result (Option Frame) LiveFault
found_in (Ok found) = Ok (Some found)
found_in (Err fault) = Err fault
