-- Greeting a peer: its hello, and whether it fits.
use Rattle.std.specs.Prelude.{ℕ, ◌≡◌, ◌==◌, ◌&&◌, Bool, IsTrue, not, nat_lt, if◌then◌else◌, List, [], ◌∷◌, length, Option, Some, None, Result, Ok, Err}
use Rattle.std.specs.Result.{result_err}
use Rattle.dc_spec.specs.Lists.{is_among}
use Rattle.dc_spec.specs.Outside.{WireState, Rose, IsEmptyIfKnown}
use Rattle.dc_spec.specs.Frames.{Frame as frame, hello, send, all}
use Rattle.dc_frame.specs.Reading.{reading, capped}
use Rattle.dc_frame.specs.Reader.{ReaderState}
use Rattle.dc_live.specs.Hearing.{frame_fault}
use Rattle.dc_live.specs.Receiving.{HasRead}
use Rattle.dc_live.specs.Seats.{SeatsState, with_peer, AreNew, GaveHellos}
use Rattle.dc_live.specs.Talking.{Talks}
use Rattle.dc_live.specs.declared.fault.LiveFault.{LiveFault}
use Rattle.dc_live.specs.declared.fault.LiveFault.TheVariants.{Wire, Peer}
use Rattle.dc_live.specs.declared.fault.PeerFault.{PeerFault}
use Rattle.dc_live.specs.declared.fault.PeerFault.TheVariants as faults

-- a hello fits where it has the hub's numbers and a station that exists and that no earlier peer announced
abbrev pub fits : SeatsState → ℕ → ℕ → ℕ → Bool
fits s i n words = (n == s.stations) && (words == s.words) && nat_lt i s.stations && not (is_among s.told i)

-- the station of a peer by its first frame, or the fault that the frame shows
abbrev pub greeting_in : SeatsState → frame → Result ℕ PeerFault
greeting_in s (hello i n words) = if fits s i n words then Ok i else Err (faults.Hello i n words)
greeting_in s (send _ _) = Err (faults.Unexpected 2)
greeting_in s (all _ _) = Err (faults.Unexpected 3)

-- the fault of the first frame; where there is none, that of the bytes
abbrev pub first_fault : SeatsState → List frame → Option PeerFault → Option PeerFault
first_fault s [] fault = fault
first_fault s (f ∷ frames) fault = result_err (greeting_in s f)

-- the fault that bytes show where a hello is due
abbrev pub greeting_fault : SeatsState → List ℕ → Option PeerFault
greeting_fault s bytes = first_fault s (reading bytes).frames (frame_fault bytes)

-- the peer greeted as a station: its bytes are one fitting hello and no byte more, and it has a seat
pub record Greeted (s new : SeatsState) (bytes : List ℕ) : Type 0 where
  pub station : ℕ
  pub fits : IsTrue (fits s station s.stations s.words)
  pub reader : ReaderState
  pub seat : new ≡ with_peer s station reader
  pub read : HasRead reader bytes (hello station s.stations s.words ∷ [])
  pub begins : reader.part ≡ []
  pub seats : AreNew new
  pub hellos : (gave : ℕ → List ℕ) → GaveHellos s gave → GaveHellos new (λ p. if p == length s.told then bytes else gave p)

-- when each answer of a greeting comes; at a fault the seats stay
abbrev pub GreetAnswer : ℕ → SeatsState → SeatsState → List ℕ → WireState → WireState → Result Unit LiveFault → Type 0
GreetAnswer peer s new bytes before after (Ok _) = Greeted s new bytes
GreetAnswer peer s new bytes before after (Err Wire) =
    (new ≡ s) × (greeting_fault s bytes ≡ None) × ((reading bytes).frames ≡ []) × Rose before.faults after.faults
GreetAnswer peer s new bytes before after (Err (Peer who (faults.Ended at))) =
    (new ≡ s) × (who ≡ peer) × (at ≡ capped (length bytes)) × ((reading bytes).frames ≡ []) × (greeting_fault s bytes ≡ None) × IsEmptyIfKnown (after.left peer)
GreetAnswer peer s new bytes before after (Err (Peer who fault)) = (new ≡ s) × (who ≡ peer) × (greeting_fault s bytes ≡ Some fault)

-- a peer was greeted by the bytes that it gave
pub record Greets (peer : ℕ) (s new : SeatsState) (before after : WireState) (result : Result Unit LiveFault) : Type 0 where
  pub taken : List ℕ
  pub talks : Talks peer taken [] before after
  pub answer : GreetAnswer peer s new taken before after result
