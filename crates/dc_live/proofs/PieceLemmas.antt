-- Receiving a piece, by the answer of the wire and of the reader.
use Rattle.std.proofs.Common.{◌≡◌, ℕ, ◌+◌, ◌≤◌, List, [], ◌++◌, length, take, Option, Some, None, Ok, Err, refl, ap, subst, ◌∙◌, arith, length-take-le}
use Rattle.dc_spec.specs.Outside.{WireState, IsEmptyIfKnown, preceded}
use Rattle.dc_edge.specs.Wire.{Receives}
use Rattle.dc_edge.specs.declared.fault.Failed.{Failed}
use Rattle.dc_frame.specs.declared.fault.FrameFault.{FrameFault}
use Rattle.dc_frame.specs.Reading.{missing, capped, fault_in}
use Rattle.dc_frame.specs.Reader.{ReaderState, StandsFor}
use Rattle.dc_live.specs.Receiving.{ReceivesPiece}
use Rattle.dc_live.specs.Talking.{Talks}
use Rattle.dc_live.specs.declared.fault.LiveFault.{LiveFault}
use Rattle.dc_live.specs.declared.fault.LiveFault.TheVariants.{Wire, Peer}
use Rattle.dc_live.specs.declared.fault.PeerFault.TheVariants as faults
use Rattle.dc_live.proofs.TalkLemmas.{Talks-received, Talks-not_received}

-- the wire failed
pub piece_failed : (peer : ℕ) (r : ReaderState) (buffer : List ℕ) (before after : WireState) (f : Failed) → Receives peer buffer before after (Err f) → ReceivesPiece peer r r before after (Err Wire)
piece_failed peer r buffer before after f e = record { piece = []; talks = Talks-not_received peer buffer before after f e; answer = (refl, refl, e.answer.1) }

none_left : (known : Option (List ℕ)) → IsEmptyIfKnown (preceded [] known) → IsEmptyIfKnown known
none_left None e = tt
none_left (Some xs) e = e

-- the peer has no more bytes
pub piece_ended : (peer count : ℕ) (r : ReaderState) (buffer : List ℕ) (before after : WireState) (fault : LiveFault) → Receives peer buffer before after (Ok count) → count ≡ 0
    → fault ≡ Peer peer (faults.Ended (capped (r.start + length r.part))) → ReceivesPiece peer r r before after (Err fault)
piece_ended peer count r buffer before after fault e none is =
    let nothing : take count buffer ≡ [] = ap (λ (n : ℕ). take n buffer) none in
    let left : before.left peer ≡ preceded [] (after.left peer) = e.answer.1 ∙ ap (λ (p : List ℕ). preceded p (after.left peer)) nothing in
    let talks = subst (λ (p : List ℕ). Talks peer p [] before after) nothing (Talks-received peer count buffer before after e) in
    rw is (record { piece = []; talks = talks; answer = (refl, refl, refl, refl, none_left (after.left peer) (subst IsEmptyIfKnown left (e.answer.2 none))) })

-- the reader took the piece
pub piece_taken : (peer count : ℕ) (r new : ReaderState) (buffer : List ℕ) (before after : WireState) (u : Unit) → Receives peer buffer before after (Ok count) → 1 ≤ count → length buffer ≤ missing r.part
    → new ≡ record r { part = r.part ++ take count buffer } → ReceivesPiece peer r new before after (Ok u)
piece_taken peer count r new buffer before after u e some fits is =
    let low = e.answer.0 in
    let long = length-take-le count buffer low in
    record { piece = take count buffer; talks = Talks-received peer count buffer before after e; answer = (omega arith, omega arith, is) }

-- the reader refused it
pub piece_refused : (peer count : ℕ) (r new : ReaderState) (buffer : List ℕ) (before after : WireState) (fault : FrameFault) → Receives peer buffer before after (Ok count) → 1 ≤ count → length buffer ≤ missing r.part
    → ((bytes : List ℕ) (taken : ℕ) → StandsFor r bytes taken → Some fault ≡ fault_in (bytes ++ take count buffer)) → ReceivesPiece peer r new before after (Err (Peer peer (faults.Frame fault)))
piece_refused peer count r new buffer before after fault e some fits is =
    let low = e.answer.0 in
    let long = length-take-le count buffer low in
    record { piece = take count buffer; talks = Talks-received peer count buffer before after e; answer = (refl, omega arith, omega arith, is) }
