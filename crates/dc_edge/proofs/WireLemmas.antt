-- What a call does to the book of a wire in memory is what the trait's relations say.
use Rattle.std.proofs.Common.{◌≡◌, ◌≢◌, ◌≤◌, ◌<◌, ◌+◌, ◌-◌, min, ℕ, zero, suc, Bool, ◌||◌, not, nat_lt, true, false, if◌then◌else◌}
use Rattle.std.proofs.Common.{List, [], ◌∷◌, ◌++◌, length, take, drop, get_or, set, Some, Result, Ok, Err, refl, sym, ap, subst, ◌∙◌, arith}
use Rattle.std.proofs.lemmas.List.{get_or-set_other, get_or-set_same}
use Rattle.std.proofs.lemmas.Grind.{common_steps}
use Rattle.dc_edge.specs.declared.fault.Failed.{Failed}
use Rattle.dc_edge.specs.declared.fault.LinkFault.{LinkFault}
use Rattle.dc_edge.specs.declared.fault.LinkFault.TheVariants as links
use Rattle.dc_edge.specs.Wire.{Dials, Listens, Receives, Sends}
use Rattle.dc_edge.specs.CallBook.{is_failing}
use Rattle.dc_edge.proofs.PutLemmas.{grown-nothing}
use Rattle.dc_edge.specs.WireBook.{WireBook, PeerBook, no_peer, peer_at, wire_state, book_asked, book_called, book_failed, book_with, taken_from, with_sent, given_by, filled, meet_of}

-- the book and the answer of a call that hands out a peer or fails
abbrev met : Bool → WireBook → List ℕ → WireBook × Result ℕ LinkFault
met true book address = (book_failed (book_asked book address), Err links.Failed)
met false book address = (record (book_called (book_asked book address)) { peers = book.peers + 1 }, Ok book.peers)

met-dials : (b : Bool) (address : List ℕ) (book : WireBook) → book.calls.faults ≤ (met b book address).0.calls.faults → (peer_at book book.peers).sent ≡ []
    → Dials address (wire_state book) (wire_state (met b book address).0) (met b book address).1
met-dials true address book counted unsent = record { left = refl; sent = refl; asked = refl; counted = counted; answer = (refl, omega arith) }
met-dials false address book counted unsent = record { left = refl; sent = refl; asked = refl; counted = counted; answer = (refl, refl, unsent) }

meet_of-met : (b : Bool) (book : WireBook) (address : List ℕ)
    → ◌≡◌ {A = WireBook × Result ℕ LinkFault}
    (if b then (book_failed (book_asked book address), Err links.Failed) else (record (book_called (book_asked book address)) { peers = book.peers + 1 }, Ok book.peers))
    (met b book address)
meet_of-met true book address = refl
meet_of-met false book address = refl

pub Dials-met : (address : List ℕ) (book now : WireBook) (result : Result ℕ LinkFault) → book.calls.faults ≤ now.calls.faults → (peer_at book book.peers).sent ≡ []
    → (now, result) ≡ meet_of (book_asked book address) → Dials address (wire_state book) (wire_state now) result
Dials-met address book now result counted unsent e =
    let b : Bool = is_failing book.calls || not (nat_lt book.peers (length book.fed)) in
    let is : (now, result) ≡ met b book address = e ∙ meet_of-met b book address in
    let counted' : book.calls.faults ≤ (met b book address).0.calls.faults = subst (λ (p : WireBook × Result ℕ LinkFault). book.calls.faults ≤ p.0.calls.faults) is counted in
    subst (λ (p : WireBook × Result ℕ LinkFault). Dials address (wire_state book) (wire_state p.0) p.1) (sym is) (met-dials b address book counted' unsent)

-- a listen that fails
pub Listens-failed : (address : List ℕ) (book now : WireBook) → book.calls.faults ≤ now.calls.faults → now ≡ book_failed (book_asked book address)
    → Listens address (wire_state book) (wire_state now) (Err links.Failed)
Listens-failed address book now counted e =
    let counted' : book.calls.faults ≤ (book_failed (book_asked book address)).calls.faults = subst (λ (n : WireBook). book.calls.faults ≤ n.calls.faults) e counted in
    subst (λ (n : WireBook). Listens address (wire_state book) (wire_state n) (Err links.Failed)) (sym e)
    (record { peers = refl; left = refl; sent = refl; asked = refl; counted = counted'; answer = omega arith })

-- a receive that fails
pub Receives-failed : (n : ℕ) (buffer : List ℕ) (book now : WireBook) (f : Failed) → book.calls.faults ≤ now.calls.faults → now ≡ book_failed book
    → Receives n buffer (wire_state book) (wire_state now) (Err f)
Receives-failed n buffer book now f counted e =
    let counted' : book.calls.faults ≤ (book_failed book).calls.faults = subst (λ (n' : WireBook). book.calls.faults ≤ n'.calls.faults) e counted in
    subst (λ (n' : WireBook). Receives n buffer (wire_state book) (wire_state n') (Err f)) (sym e)
    (record { peers = refl; others = λ other ne. refl; sent = refl; asked = refl; counted = counted'; answer = (refl, omega arith) })

-- a fact of the peers that a change of one of them keeps
stays : (f : PeerBook → List ℕ) (changed : PeerBook → PeerBook) → ((p : PeerBook) → f (changed p) ≡ f p) → (fed : List PeerBook) (n k : ℕ)
    → f (get_or (set fed n (changed (get_or fed n no_peer))) k no_peer) ≡ f (get_or fed k no_peer)
stays f changed kept [] n k = refl
stays f changed kept (p ∷ fed) zero zero = kept p
stays f changed kept (p ∷ fed) zero (suc k) = refl
stays f changed kept (p ∷ fed) (suc n) zero = refl
stays f changed kept (p ∷ fed) (suc n) (suc k) = stays f changed kept fed n k

-- the bytes that were given, and then those that are left
given-front : (left buffer : List ℕ) (count : ℕ) → count ≤ length left → take count (take count left ++ drop count buffer) ++ drop count left ≡ left
given-front left buffer count le = grind (arith, common_steps)

given-fits : (left buffer : List ℕ) (count : ℕ) → count ≤ length left → count ≤ length (take count left ++ drop count buffer)
given-fits left buffer count le = grind (arith, common_steps)

given-none : (left buffer : List ℕ) (step count : ℕ) → 1 ≤ step → 0 < length buffer → count ≡ min (min (length left) (length buffer)) step → count ≡ 0 → left ≡ []
given-none [] buffer step count steps room is none = refl
given-none (x ∷ left) buffer step count steps room is none = absurd (omega arith)

-- a receive that gives bytes
pub Receives-given : (n count : ℕ) (buffer given : List ℕ) (book now : WireBook) → n < length book.fed → 1 ≤ book.step → 0 < length buffer → count ≡ given_by (peer_at book n) book.step buffer
    → given ≡ filled (peer_at book n) count buffer → now ≡ book_with (book_called book) n (taken_from (peer_at book n) count) → Receives n given (wire_state book) (wire_state now) (Ok count)
Receives-given n count buffer given book now within steps room is fills e =
    let peer : PeerBook = peer_at book n in
    let after : WireBook = book_with (book_called book) n (taken_from peer count) in
    let same : peer_at after n ≡ taken_from peer count = get_or-set_same book.fed n (taken_from peer count) no_peer within in
    let le : count ≤ length peer.left = omega arith in
    rw (e, fills)
    (record {
      peers = refl;
      others = λ other ne. ap (λ (p : PeerBook). Some p.left) (get_or-set_other book.fed n other (taken_from peer count) no_peer ne);
      sent = λ i k. Some (stays (λ p. p.sent) (λ p. taken_from p count) (λ p. refl) book.fed n k i);
      asked = refl;
      counted = omega arith;
      answer = (given-fits peer.left buffer count le, rw same (ap Some (sym (given-front peer.left buffer count le))), given-none peer.left buffer book.step count steps room is);
    })

-- a send that fails at its number
pub Sends-failed : (n : ℕ) (bytes : List ℕ) (book now : WireBook) (f : Failed) → bytes ≢ [] → book.calls.faults ≤ now.calls.faults → now ≡ book_failed book
    → Sends n bytes (wire_state book) (wire_state now) (Err f)
Sends-failed n bytes book now f more counted e =
    let counted' : book.calls.faults ≤ (book_failed book).calls.faults = subst (λ (n' : WireBook). book.calls.faults ≤ n'.calls.faults) e counted in
    subst (λ (n' : WireBook). Sends n bytes (wire_state book) (wire_state n') (Err f)) (sym e)
    (record {
      peers = refl;
      left = refl;
      others = λ other ne. refl;
      asked = refl;
      counted = counted';
      answer = (([], (bytes, refl), grown-nothing (Some (peer_at book n).sent)), omega arith);
      empty = λ none. absurd (more none);
    })

-- a send of what fits
pub Sends-part : (n : ℕ) (bytes : List ℕ) (book now : WireBook) (f : Failed) → bytes ≢ [] → n < length book.fed → book.calls.faults ≤ now.calls.faults
    → now ≡ book_with (book_failed book) n (with_sent (peer_at book n) bytes) → Sends n bytes (wire_state book) (wire_state now) (Err f)
Sends-part n bytes book now f more within counted e =
    let peer : PeerBook = peer_at book n in
    let after : WireBook = book_with (book_failed book) n (with_sent peer bytes) in
    let same : peer_at after n ≡ with_sent peer bytes = get_or-set_same book.fed n (with_sent peer bytes) no_peer within in
    let fitting : ℕ = peer.room - length peer.sent in
    let counted' : book.calls.faults ≤ after.calls.faults = subst (λ (n' : WireBook). book.calls.faults ≤ n'.calls.faults) e counted in
    subst (λ (n' : WireBook). Sends n bytes (wire_state book) (wire_state n') (Err f)) (sym e)
    (record {
      peers = refl;
      left = λ i k. Some (stays (λ p. p.left) (λ p. with_sent p bytes) (λ p. refl) book.fed n k i);
      others = λ other ne. ap (λ (p : PeerBook). Some p.sent) (get_or-set_other book.fed n other (with_sent peer bytes) no_peer ne);
      asked = refl;
      counted = counted';
      answer = ((take fitting bytes, (drop fitting bytes, grind (arith, common_steps)), ap (λ (p : PeerBook). Some p.sent) same), omega arith);
      empty = λ none. absurd (more none);
    })
