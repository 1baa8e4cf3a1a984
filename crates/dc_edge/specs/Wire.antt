-- What a call of a wire does to its state, by its answer.
use Rattle.std.specs.Prelude.{ℕ, ◌+◌, ◌≤◌, ◌<◌, ◌≡◌, ◌≢◌, List, [], ◌∷◌, length, take, Option, Result, Ok, Err, IsOk}
use Rattle.dc_spec.specs.Outside.{WireState, Rose, IsFront, IsEmptyIfKnown, grown, preceded}
use Rattle.dc_edge.specs.declared.fault.Failed.{Failed}
use Rattle.dc_edge.specs.declared.fault.LinkFault.{LinkFault}
use Rattle.dc_edge.specs.declared.fault.LinkFault.TheVariants as links

-- the address is put at the end of the addresses asked for, unless memory ran out
abbrev pub asked_after : {A : Type 0} → Result A LinkFault → List ℕ → Option (List (List ℕ)) → Option (List (List ℕ))
asked_after (Ok _) address known = grown known (address ∷ [])
asked_after (Err links.Failed) address known = grown known (address ∷ [])
asked_after (Err links.NoMemory) address known = known

-- when each answer of a call that brings a peer comes: the peer gets the next number and was sent nothing so far, or the count rose, or nothing changed
abbrev pub PeerAnswer : WireState → WireState → Result ℕ LinkFault → Type 0
PeerAnswer before after (Ok peer) = (peer ≡ before.peers) × (after.peers ≡ before.peers + 1) × IsEmptyIfKnown (before.sent before.peers)
PeerAnswer before after (Err links.Failed) = (after.peers ≡ before.peers) × Rose before.faults after.faults
PeerAnswer before after (Err links.NoMemory) = after ≡ before

-- a call that brings a peer: what all peers give and were sent stays, the address was asked for, the count never falls
pub record Dials (address : List ℕ) (before after : WireState) (result : Result ℕ LinkFault) : Type 0 where
  pub left : after.left ≡ before.left
  pub sent : after.sent ≡ before.sent
  pub asked : after.asked ≡ asked_after result address before.asked
  pub counted : before.faults ≤ after.faults
  pub answer : PeerAnswer before after result

-- to accept a peer asks for the empty text
abbrev pub Accepts : WireState → WireState → Result ℕ LinkFault → Type 0
Accepts before after result = Dials [] before after result

-- when each answer of a listen comes
abbrev pub ListenAnswer : WireState → WireState → Result Unit LinkFault → Type 0
ListenAnswer before after (Ok _) = Unit {0}
ListenAnswer before after (Err links.Failed) = Rose before.faults after.faults
ListenAnswer before after (Err links.NoMemory) = after ≡ before

-- to listen at an address: the peers stay, and what they give and were sent; the address was asked for, the count never falls
pub record Listens (address : List ℕ) (before after : WireState) (result : Result Unit LinkFault) : Type 0 where
  pub peers : after.peers ≡ before.peers
  pub left : after.left ≡ before.left
  pub sent : after.sent ≡ before.sent
  pub asked : after.asked ≡ asked_after result address before.asked
  pub counted : before.faults ≤ after.faults
  pub answer : ListenAnswer before after result

-- the choice of the next peer: any peer, and nothing changes
pub record Readies (before after : WireState) (peer : ℕ) : Type 0 where
  pub choice : peer < before.peers
  pub kept : after ≡ before

-- what each other peer gives, or was sent, stays as it was
abbrev pub OthersStay : ℕ → (ℕ → Option (List ℕ)) → (ℕ → Option (List ℕ)) → Type 0
OthersStay peer before after = (other : ℕ) → other ≢ peer → after other ≡ before other

-- when each answer of a receive comes: the first bytes of the buffer are the peer's next ones, none only where it has none left; or the count rose and nothing was taken
abbrev pub ReceiveAnswer : ℕ → List ℕ → WireState → WireState → Result ℕ Failed → Type 0
ReceiveAnswer peer buffer before after (Ok count) =
    (count ≤ length buffer) × (before.left peer ≡ preceded (take count buffer) (after.left peer)) × (count ≡ 0 → IsEmptyIfKnown (before.left peer))
ReceiveAnswer peer buffer before after (Err _) = (after.left ≡ before.left) × Rose before.faults after.faults

-- a receive from a peer into a buffer, which holds these bytes afterwards: all else stays, the count never falls
pub record Receives (peer : ℕ) (buffer : List ℕ) (before after : WireState) (result : Result ℕ Failed) : Type 0 where
  pub peers : after.peers ≡ before.peers
  pub others : OthersStay peer before.left after.left
  pub sent : after.sent ≡ before.sent
  pub asked : after.asked ≡ before.asked
  pub counted : before.faults ≤ after.faults
  pub answer : ReceiveAnswer peer buffer before after result

-- this and no more was sent to the peer
abbrev pub SentTo : ℕ → List ℕ → WireState → WireState → Type 0
SentTo peer bytes before after = after.sent peer ≡ grown (before.sent peer) bytes

-- all was sent, or a front and the count rose
abbrev pub SendAnswer : ℕ → List ℕ → WireState → WireState → Result Unit Failed → Type 0
SendAnswer peer bytes before after (Ok _) = SentTo peer bytes before after
SendAnswer peer bytes before after (Err _) = ((front : List ℕ) × IsFront front bytes × SentTo peer front before after) × Rose before.faults after.faults

-- a send of a piece to a peer: all else stays, the count never falls, and an empty piece is taken and changes nothing
pub record Sends (peer : ℕ) (bytes : List ℕ) (before after : WireState) (result : Result Unit Failed) : Type 0 where
  pub peers : after.peers ≡ before.peers
  pub left : after.left ≡ before.left
  pub others : OthersStay peer before.sent after.sent
  pub asked : after.asked ≡ before.asked
  pub counted : before.faults ≤ after.faults
  pub answer : SendAnswer peer bytes before after result
  pub empty : bytes ≡ [] → IsOk result × (after ≡ before)
