-- The text of what is wrong with the bytes of a peer.
use Rattle.std.specs.Prelude.{ℕ, List, ◌++◌, codes}
use Rattle.dc_frame.specs.declared.fault.FrameFault.{FrameFault}
use Rattle.dc_frame.specs.declared.fault.FrameKind.{FrameKind}
use Rattle.dc_frame.specs.declared.fault.FrameKind.TheVariants.{Tag, Length, Symbol}
use Rattle.dc_live.specs.declared.fault.PeerFault.{PeerFault}
use Rattle.dc_live.specs.declared.fault.PeerFault.TheVariants.{Frame, Unexpected, Hello, Round, Ended}
use Rattle.dc_cli.specs.Pieces.{numbered}

-- what is wrong in a frame
abbrev pub frame_kind_text : FrameKind → List ℕ
frame_kind_text (Tag seen) = numbered (codes " tag seen=") seen
frame_kind_text (Length seen) = numbered (codes " length seen=") seen
frame_kind_text (Symbol seen) = numbered (codes " symbol seen=") seen

-- bytes that are no frame: where, then what is wrong
abbrev pub frame_fault_text : FrameFault → List ℕ
frame_fault_text fault = numbered (codes "frame at=") fault.at ++ frame_kind_text fault.kind

-- the numbers of a hello that does not fit
abbrev pub hello_text : ℕ → ℕ → ℕ → List ℕ
hello_text station stations words = numbered (codes "hello station=") station ++ numbered (codes " stations=") stations ++ numbered (codes " words=") words

-- what is wrong with the bytes of a peer: its name, then its fields
abbrev pub peer_fault_text : PeerFault → List ℕ
peer_fault_text (Frame fault) = frame_fault_text fault
peer_fault_text (Unexpected tag) = numbered (codes "unexpected tag=") tag
peer_fault_text (Hello station stations words) = hello_text station stations words
peer_fault_text (Round told now) = numbered (codes "round told=") told ++ numbered (codes " now=") now
peer_fault_text (Ended at) = numbered (codes "ended at=") at

-- the number of the peer, then what is wrong with its bytes
abbrev pub peer_text : ℕ → PeerFault → List ℕ
peer_text peer fault = numbered (codes "peer ") peer ++ (codes ": " ++ peer_fault_text fault)
