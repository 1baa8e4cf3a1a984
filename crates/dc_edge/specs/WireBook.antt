-- What a wire in memory keeps, and what each call does to it.
use Rattle.std.specs.Prelude.{ℕ, ◌+◌, ◌-◌, ◌≤◌, ◌<◌, ◌^◌, ◌≡◌, ◌||◌, min, not, Bool, true, false, if◌then◌else◌, nat_lt, nat_le}
use Rattle.std.specs.Prelude.{List, [], ◌∷◌, ◌++◌, length, take, drop, slice_index_or, slice_set, Option, Some, None, Result, Ok, Err}
use Rattle.dc_spec.specs.Outside.{WireState}
use Rattle.dc_edge.specs.CallBook.{CallBook, is_failing, more_faults, more_calls}
use Rattle.dc_edge.specs.declared.fault.LinkFault.{LinkFault}
use Rattle.dc_edge.specs.declared.fault.LinkFault.TheVariants as links

-- a peer: the bytes that it still gives, those that it was sent, and the room for all that it is sent
pub record PeerBook : Type 0 where
  pub left : List ℕ
  pub sent : List ℕ
  pub room : ℕ

-- the peer that a number has where no peer was fed
abbrev pub no_peer : PeerBook
no_peer = record { left = []; sent = []; room = 0 }

-- the peers that were fed, how many of them were handed out, the addresses asked for, how many bytes one receive gives at most,
-- the room of a peer that is fed, the choices of ready that were not used up, the calls
pub record WireBook : Type 0 where
  pub fed : List PeerBook
  pub peers : ℕ
  pub asked : List (List ℕ)
  pub step : ℕ
  pub room : ℕ
  pub order : List ℕ
  pub calls : CallBook

-- the fed peer of a number
abbrev pub peer_at : WireBook → ℕ → PeerBook
peer_at book n = slice_index_or book.fed n no_peer

-- all of a wire in memory is known
abbrev pub wire_state : WireBook → WireState
wire_state book = record {
  peers = book.peers;
  left = λ n. Some (peer_at book n).left;
  sent = λ n. Some (peer_at book n).sent;
  asked = Some book.asked;
  faults = book.calls.faults;
}

-- no more peers were handed out than fed, and nothing was sent to one that was not handed out
pub record IsWire (fed : List PeerBook) (peers step : ℕ) : Type 0 where
  pub handed : peers ≤ length fed
  pub numbered : length fed < 2 ^ 32
  pub unsent : (n : ℕ) → peers ≤ n → (slice_index_or fed n no_peer).sent ≡ []
  pub steps : 1 ≤ step

-- no peer was fed, and there was no call
abbrev pub new_book : ℕ → ℕ → List ℕ → List ℕ → WireBook
new_book room step order fails = record {
  fed = [];
  peers = 0;
  asked = [];
  step = step;
  room = room;
  order = order;
  calls = record { fails = fails; calls = 0; faults = 0 };
}

-- one more peer is fed with these bytes
abbrev pub book_feeding : WireBook → List ℕ → WireBook
book_feeding book bytes = record book { fed = book.fed ++ (record { left = bytes; sent = []; room = book.room }) ∷ [] }

-- an address was asked for
abbrev pub book_asked : WireBook → List ℕ → WireBook
book_asked book address = record book { asked = book.asked ++ address ∷ [] }

-- a numbered call
abbrev pub book_called : WireBook → WireBook
book_called book = record book { calls = more_calls book.calls }

-- a numbered call that failed
abbrev pub book_failed : WireBook → WireBook
book_failed book = record book { calls = more_faults (more_calls book.calls) }

-- the next fed peer is handed out by a call that is not to fail, where one is left
abbrev pub meet_of : WireBook → WireBook × Result ℕ LinkFault
meet_of book =
    if is_failing book.calls || not (nat_lt book.peers (length book.fed)) then (book_failed book, Err links.Failed)
    else (record (book_called book) { peers = book.peers + 1 }, Ok book.peers)

-- the book after a dial, or an accept with the empty text, and the answer
abbrev pub dial_of : WireBook → List ℕ → WireBook × Result ℕ LinkFault
dial_of book address = meet_of (book_asked book address)

-- a dial does what dial_of says, or nothing where memory ran out
abbrev pub DialsBook : List ℕ → WireBook → WireBook → Result ℕ LinkFault → Type 0
DialsBook address book now (Err links.NoMemory) = now ≡ book
DialsBook address book now result = (now, result) ≡ dial_of book address

-- the book after a listen, and the answer
abbrev pub listen_of : WireBook → List ℕ → WireBook × Result Unit LinkFault
listen_of book address =
    if is_failing book.calls then (book_failed (book_asked book address), Err links.Failed)
    else (book_called (book_asked book address), Ok tt)

-- a listen does what listen_of says, or nothing where memory ran out
abbrev pub ListensBook : List ℕ → WireBook → WireBook → Result Unit LinkFault → Type 0
ListensBook address book now (Err links.NoMemory) = now ≡ book
ListensBook address book now result = (now, result) ≡ listen_of book address

-- a choice is taken where it is the number of a peer, else the hint
abbrev pub chosen : ℕ → ℕ → ℕ → ℕ
chosen choice peers hint = if nat_lt choice peers then choice else hint

-- the book after ready, and its answer
abbrev pub ready_of : WireBook → ℕ → WireBook × ℕ
ready_of book hint = (record book { order = drop 1 book.order }, chosen (slice_index_or book.order 0 hint) book.peers hint)

-- a fed peer in place of another
abbrev pub book_with : WireBook → ℕ → PeerBook → WireBook
book_with book n peer = record book { fed = slice_set book.fed n peer }

-- a peer whose next bytes were taken
abbrev pub taken_from : PeerBook → ℕ → PeerBook
taken_from peer count = record { left = drop count peer.left; sent = peer.sent; room = peer.room }

-- how many bytes a receive gives: at most those of one step, those that the buffer holds and those that are left
abbrev pub given_by : PeerBook → ℕ → List ℕ → ℕ
given_by peer step buffer = min (min (length peer.left) (length buffer)) step

-- the buffer after a peer's next bytes were put at its front
abbrev pub filled : PeerBook → ℕ → List ℕ → List ℕ
filled peer count buffer = take count peer.left ++ drop count buffer

-- the book after a receive into a buffer, the buffer, and how many bytes were given where it did not fail
abbrev pub recv_of : WireBook → ℕ → List ℕ → WireBook × List ℕ × Option ℕ
recv_of book n buffer =
    if is_failing book.calls then (book_failed book, buffer, None)
    else (let count = given_by (peer_at book n) book.step buffer in
    (book_with (book_called book) n (taken_from (peer_at book n) count), filled (peer_at book n) count buffer, Some count))

-- a peer that was sent as much of the bytes as fits
abbrev pub with_sent : PeerBook → List ℕ → PeerBook
with_sent peer bytes = record { left = peer.left; sent = peer.sent ++ take (peer.room - length peer.sent) bytes; room = peer.room }

-- the book after a send of a piece that is not empty, and whether it succeeded: past the room what fits is sent
abbrev pub send_piece : WireBook → ℕ → List ℕ → WireBook × Bool
send_piece book n bytes =
    if is_failing book.calls then (book_failed book, false)
    else (if nat_le (length (peer_at book n).sent + length bytes) (peer_at book n).room then (book_with (book_called book) n (with_sent (peer_at book n) bytes), true)
    else (book_with (book_failed book) n (with_sent (peer_at book n) bytes), false))

-- the book after a send, and whether it succeeded: an empty piece is no call
abbrev pub send_of : WireBook → ℕ → List ℕ → WireBook × Bool
send_of book n [] = (book, true)
send_of book n (b ∷ bytes) = send_piece book n (b ∷ bytes)
