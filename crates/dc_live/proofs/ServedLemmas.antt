-- A session that was served: its end, and peers that give all that is asked of them.
use Rattle.std.proofs.Common.{◌≡◌, ℕ, ◌+◌, ◌-◌, ◌<◌, ◌≤◌, true, false, inl, inr, List, [], ◌∷◌, ◌++◌, length, replicate, Option, Some, None, Result, Ok, Err, refl, sym, ap, subst, ◌∙◌, arith, append-nil, eq-eqb}
use Rattle.std.proofs.lemmas.Bool.{cases_Bool, lt-ltb}
use Rattle.dc_spec.specs.Lists.{is_among}
use Rattle.dc_spec.specs.Outside.{WireState, IsEmptyIfKnown, IsFront, grown}
use Rattle.dc_spec.specs.Frames.{Frame as frame, hello}
use Rattle.dc_field.specs.declared.refusal.Refusal.{Refusal}
use Rattle.dc_field.specs.declared.refusal.Refusal.TheVariants as refusals
use Rattle.dc_frame.specs.Reading.{Reading, reading}
use Rattle.dc_frame.proofs.Growing.{reading_grows}
use Rattle.dc_superpose.specs.HubCore.{HubState}
use Rattle.dc_live.specs.Hearing.{frame_fault}
use Rattle.dc_live.specs.Seats.{SeatsState, told_by}
use Rattle.dc_live.specs.Greeting.{fits, first_fault, greeting_fault}
use Rattle.dc_live.specs.HubSession.{words_heard, HearsWords}
use Rattle.dc_live.specs.Serving.{asked_for, HasGreeted, GreetedAll, Served, Ungreeted, Fails, RunsOut, Serves, AsksInTurn, GiveAll, EndsWell}
use Rattle.dc_live.specs.ServingSteps.{GathersAll, RunsCore}
use Rattle.std.specs.Prelude.{IfOk}
use Rattle.dc_live.specs.Serving.RunsOut.{at_once, later}
use Rattle.dc_live.specs.Serving.Fails.{unheard, alone, ungreeted, ended}
use Rattle.dc_live.specs.declared.fault.LiveFault.{LiveFault}
use Rattle.dc_live.specs.declared.fault.LiveFault.TheVariants.{Wire, Peer}
use Rattle.dc_live.specs.declared.fault.PeerFault.{PeerFault}
use Rattle.dc_live.specs.declared.fault.PeerFault.TheVariants as faults
use Rattle.dc_live.proofs.ReadLemmas.{HasRead-reading}
use Rattle.dc_live.proofs.StayLemmas.{same_end}
use Rattle.dc_live.proofs.SeatLemmas.{place_in}
use Rattle.dc_live.proofs.StationLemmas.{given_front}
use Rattle.std.proofs.lemmas.List.{replicate-append-replicate}
use Rattle.dc_live.proofs.ServeLemmas.{grown_again, asked_more}
use Rattle.dc_live.proofs.CompleteLemmas.{RunsHub-complete}

-- the core is over where the session ended
Served-over : {addr : List ℕ} {n t : ℕ} {core : HubState} {w0 w1 : WireState} {u : Unit} → Served addr n t core w0 w1 (Ok u) → core.rounds ≤ core.round
Served-over {core = core} v =
    let all = (v.runs.heard v.gathered.gave v.gathered.greeted.hellos).ends.0 in
    let round = v.runs.core.round_is in
    let rounds = v.runs.core.rounds_are in
    let stations = v.runs.core.stations_are in
    let same = rw (stations, rounds) at round in
    omega arith

-- ---- peers that give all

-- what is known to be left, and else nothing
abbrev known_part : Option (List ℕ) → List ℕ
known_part None = []
known_part (Some bytes) = bytes

-- what a greeted peer gives is what it gave and what is left
front_of : {addr : List ℕ} {n t : ℕ} {s : SeatsState} {gave : ℕ → List ℕ} {w0 w : WireState} {w1 : WireState} → HasGreeted addr n t s gave w0 w → (gives : GiveAll n t w0 w1) → (p : ℕ) → p < length s.told
    → (gives.bytes p ≡ gave p ++ known_part (w.left p)) × (w.left p ≡ Some (known_part (w.left p)))
front_of {s = s} {gave = gave} {w0 = w0} {w = w} h gives p low =
    let within = h.new.are.within in
    let stations = h.stations_are in
    let front = given_front (w0.left p) (w.left p) (gave p) (gives.bytes p) (h.left p low) (gives.known p (omega arith)) in
    let rest : known_part (w.left p) ≡ front.0 = ap known_part front.2 in
    (front.1 ∙ ap (λ (x : List ℕ). gave p ++ x) (sym rest), front.2 ∙ ap Some (sym rest))

-- the first frames of the same bytes
same_first : (frames more fs : List frame) (i j n t n' t' : ℕ) → frames ≡ hello i n t ∷ more → frames ≡ hello j n' t' ∷ fs → i ≡ j
same_first frames more fs i j n t n' t' a b = let same : hello i n t ∷ more ≡ hello j n' t' ∷ fs = sym a ∙ b in cc

-- each greeted peer announced the station of its hello
told_is : {addr : List ℕ} {n t : ℕ} {s : SeatsState} {gave : ℕ → List ℕ} {w0 w : WireState} {w1 : WireState} → HasGreeted addr n t s gave w0 w → (gives : GiveAll n t w0 w1) → (p : ℕ) → p < length s.told
    → told_by s p ≡ gives.station p
told_is {n = n} {t = t} {s = s} {gave = gave} {w = w} h gives p low =
    let within = h.new.are.within in
    let stations = h.stations_are in
    let front = front_of h gives p low in
    let grown = reading_grows (gave p) (known_part (w.left p)) in
    let hellos = gives.hellos p (omega arith) in
    same_first (reading (gives.bytes p)).frames grown.rest hellos.0 (told_by s p) (gives.station p) s.stations s.words n t
    (ap (λ (b : List ℕ). (reading b).frames) front.0 ∙ grown.frames ∙ ap (λ (x : Reading). x.frames ++ grown.rest) (HasRead-reading (h.hellos p low))) hellos.1

-- the hello of the next peer fits
next_fits : {addr : List ℕ} {n t : ℕ} {s : SeatsState} {gave : ℕ → List ℕ} {w0 w : WireState} {w1 : WireState} → HasGreeted addr n t s gave w0 w → (gives : GiveAll n t w0 w1) → length s.told < n
    → fits s (gives.station (length s.told)) s.stations s.words ≡ true
next_fits {s = s} h gives low =
    let stations = h.stations_are in
    let below = gives.below (length s.told) low in
    rw (eq-eqb s.stations s.stations refl, eq-eqb s.words s.words refl, lt-ltb (gives.station (length s.told)) s.stations (omega arith), free) refl
  where
    free : is_among s.told (gives.station (length s.told)) ≡ false
    free = elim (cases_Bool (is_among s.told (gives.station (length s.told)))) [
      | inl there ↦ (let at = place_in s.told (gives.station (length s.told)) there in
          absurd (gives.distinct at.0 (length s.told) at.1 low (sym (told_is h gives at.0 at.1) ∙ at.2)))
      | inr gone ↦ gone
    ]

-- what begins with a hello that fits shows a fault only before its first frame
no_frame : (s : SeatsState) (i : ℕ) (frames more rest : List frame) (fault : Option PeerFault) (f : PeerFault) → fits s i s.stations s.words ≡ true → first_fault s frames fault ≡ Some f
    → frames ++ more ≡ hello i s.stations s.words ∷ rest → frames ≡ []
no_frame s i [] more rest fault f fit shown begins = refl
no_frame s i (x ∷ frames) more rest fault f fit shown begins =
    let first : x ≡ hello i s.stations s.words = cc in
    let none : first_fault s (x ∷ frames) fault ≡ None = rw (first, fit) refl in
    absurd (cc)

nothing_shown : (bytes more : List ℕ) (f : PeerFault) (x : frame) (rest : List frame) → (reading bytes).frames ≡ [] → frame_fault bytes ≡ Some f → (reading (bytes ++ more)).frames ≡ x ∷ rest → ⊥
nothing_shown bytes more f x rest none shown begins =
    let grown = reading_grows bytes more in
    elim (same_end bytes more) [
      | inl quiet ↦ (let e = sym quiet ∙ shown in cc)
      | inr same ↦ (
          let all : (reading (bytes ++ more)).frames ≡ [] = grown.frames ∙ ap (λ (fs : List frame). fs ++ grown.rest) none ∙ same.0 in
          let e = sym all ∙ begins in
          cc)
    ]

-- bytes that show a fault where a hello is due do not begin with one that fits
fit_shows_none : (s : SeatsState) (i : ℕ) (bytes more : List ℕ) (rest : List frame) (f : PeerFault) → fits s i s.stations s.words ≡ true → greeting_fault s bytes ≡ Some f
    → (reading (bytes ++ more)).frames ≡ hello i s.stations s.words ∷ rest → ⊥
fit_shows_none s i bytes more rest f fit shown begins =
    let grown = reading_grows bytes more in
    let none = no_frame s i (reading bytes).frames grown.rest rest (frame_fault bytes) f fit shown (sym grown.frames ∙ begins) in
    nothing_shown bytes more f (hello i s.stations s.words) rest none (sym (ap (λ (fs : List frame). first_fault s fs (frame_fault bytes)) none) ∙ shown) begins

-- what the next peer gives begins with what was taken of it
next_front : {addr : List ℕ} {n t : ℕ} {w0 w1 : WireState} {fault : LiveFault} (u : Ungreeted addr n t w0 w1 fault) (gives : GiveAll n t w0 w1)
    → (rest : List ℕ) × (gives.bytes (length u.gathered.seats.told) ≡ u.greets.taken ++ rest) × (w1.left (length u.gathered.seats.told) ≡ Some rest)
next_front {w0 = w0} {w1 = w1} u gives =
    let k = length u.gathered.seats.told in
    given_front (w0.left k) (w1.left k) u.greets.taken (gives.bytes k)
    (sym (u.gathered.greeted.others k (omega arith)) ∙ sym (ap (λ (f : ℕ → Option (List ℕ)). f k) u.accepts.left) ∙ u.greets.talks.left) (gives.known k u.gathered.some)

next_hello : {addr : List ℕ} {n t : ℕ} {w0 w1 : WireState} {fault : LiveFault} (u : Ungreeted addr n t w0 w1 fault) (gives : GiveAll n t w0 w1)
    → (frames : List frame) × ((reading (gives.bytes (length u.gathered.seats.told))).frames ≡ hello (gives.station (length u.gathered.seats.told)) u.gathered.seats.stations u.gathered.seats.words ∷ frames)
next_hello u gives =
    let hellos = gives.hellos (length u.gathered.seats.told) u.gathered.some in
    (hellos.0, rw (u.gathered.greeted.stations_are, u.gathered.greeted.words_are) hellos.1)

-- so the next peer shows no fault
next_shows_none : {addr : List ℕ} {n t : ℕ} {w0 w1 : WireState} {fault : LiveFault} (f : PeerFault) (u : Ungreeted addr n t w0 w1 fault) (gives : GiveAll n t w0 w1)
    → greeting_fault u.gathered.seats u.greets.taken ≡ Some f → ⊥
next_shows_none f u gives shown =
    let k = length u.gathered.seats.told in
    let front = next_front u gives in
    let hellos = next_hello u gives in
    fit_shows_none u.gathered.seats (gives.station k) u.greets.taken front.0 hellos.0 f (next_fits u.gathered.greeted gives u.gathered.some) shown
    (ap (λ (b : List ℕ). (reading b).frames) (sym front.1) ∙ hellos.1)

-- the next peer is greeted
Ungreeted-never : {addr : List ℕ} {n t : ℕ} {w0 w1 : WireState} (fault : LiveFault) → Ungreeted addr n t w0 w1 fault → GiveAll n t w0 w1 → ⊥
Ungreeted-never Wire u gives =
    let earlier = u.gathered.greeted.counted in
    let came = u.accepts.counted in
    let rose = u.greets.answer.3 in
    gives.counted (omega arith)
Ungreeted-never (Peer who (faults.Ended at)) u gives =
    let front = next_front u gives in
    let hellos = next_hello u gives in
    let none : front.0 ≡ [] = subst IsEmptyIfKnown front.2 u.greets.answer.5 in
    let same : gives.bytes (length u.gathered.seats.told) ≡ u.greets.taken = front.1 ∙ ap (λ (x : List ℕ). u.greets.taken ++ x) none ∙ append-nil u.greets.taken in
    let all = sym (ap (λ (b : List ℕ). (reading b).frames) same ∙ u.greets.answer.3) ∙ hellos.1 in
    cc
Ungreeted-never (Peer who (faults.Frame f)) u gives = next_shows_none (faults.Frame f) u gives u.greets.answer.2
Ungreeted-never (Peer who (faults.Unexpected tag)) u gives = next_shows_none (faults.Unexpected tag) u gives u.greets.answer.2
Ungreeted-never (Peer who (faults.Hello i n w)) u gives = next_shows_none (faults.Hello i n w) u gives u.greets.answer.2
Ungreeted-never (Peer who (faults.Round told now)) u gives = next_shows_none (faults.Round told now) u gives u.greets.answer.2

-- the session ends well
GiveAll-hears : {addr : List ℕ} {n t : ℕ} {w0 w w1 : WireState} (g : GreetedAll addr n t w0 w) → GiveAll n t w0 w1 → HearsWords g.seats w w1
GiveAll-hears {addr} {n} {t} {w0} {w} {w1} g gives =
    let h = g.greeted in
    let all = g.all in
    let stations = h.stations_are in
    record {
      greeted = g.gave;
      hellos = h.hellos;
      rest = λ p. known_part (w.left p);
      known = λ p low. (front_of h gives p (omega arith)).1;
      words = λ p low. rw h.words_are (ap (λ (b : List ℕ). length (words_heard t b).words) (sym (front_of h gives p (omega arith)).0) ∙ gives.heard p (omega arith));
      counted = λ rose. let earlier = h.counted in gives.counted (omega arith);
    }

-- where all peers give all that is asked of them, nothing fails
Fails-never : {addr : List ℕ} {n t : ℕ} {w0 w1 : WireState} (fault : LiveFault) → Fails addr n t w0 w1 fault → GiveAll n t w0 w1 → ⊥
Fails-never fault (unheard l is) gives = gives.counted l.answer
Fails-never fault (alone a) gives =
    let earlier = a.gathered.greeted.counted in
    let rose = a.accepts.answer.1 in
    gives.counted (omega arith)
Fails-never fault (ungreeted u) gives = Ungreeted-never fault u gives
Fails-never fault (ended core v) gives =
    let ok = RunsHub-complete (Err fault) (v.gathered.all ∙ sym v.gathered.greeted.stations_are) v.runs (GiveAll-hears v.gathered gives) in
    cc

pub Serves-complete : (addr : List ℕ) (n t : ℕ) (w0 w1 : WireState) (result : Result HubState (Refusal LiveFault)) → Serves addr n t w0 w1 result → GiveAll n t w0 w1 → EndsWell result
Serves-complete addr n t w0 w1 (Ok core) serves gives = tt
Serves-complete addr n t w0 w1 (Err refusals.NoMemory) serves gives = tt
Serves-complete addr n t w0 w1 (Err (refusals.Bad fault)) serves gives = Fails-never fault serves gives

-- ---- the steps of a whole session

-- all peers were greeted, and then the session ran
pub served_by : {addr : List ℕ} {s new : SeatsState} {w0 w : WireState} (w1 : WireState) (result : Result HubState (Refusal LiveFault)) → GathersAll addr s new w0 w → RunsCore new w w1 result
    → Serves addr s.stations s.words w0 w1 result
served_by {new = new} {w = w} w1 (Ok core) g runs = record { middle = w; gathered = record { seats = new; gave = g.gave; greeted = g.greeted; all = g.all }; runs = runs }
served_by {new = new} {w = w} w1 (Err (refusals.Bad fault)) g runs =
    ended runs.0 (record { middle = w; gathered = record { seats = new; gave = g.gave; greeted = g.greeted; all = g.all }; runs = runs.1 })
served_by w1 (Err refusals.NoMemory) g runs = absurd runs

-- the same by other names of the numbers
pub serves_as : {n t : ℕ} {s : SeatsState} (addr : List ℕ) (w0 w1 : WireState) (result : Result HubState (Refusal LiveFault)) → s ≡ record { stations = n; words = t; told = []; seats = [] }
    → Serves addr s.stations s.words w0 w1 result → Serves addr n t w0 w1 result
serves_as addr w0 w1 result start serves = subst (λ (x : SeatsState). Serves addr x.stations x.words w0 w1 result) start serves

-- the core is over
pub Serves-over : (addr : List ℕ) (n t : ℕ) (w0 w1 : WireState) (result : Result HubState (Refusal LiveFault)) → Serves addr n t w0 w1 result → IfOk result (λ core. core.rounds ≤ core.round)
Serves-over addr n t w0 w1 (Ok core) v = Served-over v
Serves-over addr n t w0 w1 (Err f) v = tt

-- ---- what was asked

none_asked : (addr : List ℕ) (n : ℕ) → IsFront [] (asked_for addr n)
none_asked addr n = (asked_for addr n, refl)

some_asked : (addr : List ℕ) (k n : ℕ) → k ≤ n → IsFront (asked_for addr k) (asked_for addr n)
some_asked addr k n within =
    let count : n ≡ k + (n - k) = omega arith in
    (replicate (n - k) [], ap (asked_for addr) count ∙ ap (λ (xs : List (List ℕ)). addr ∷ xs) (sym (replicate-append-replicate k (n - k) [])))

-- the address, and so many peers
asked_some : {w0 w1 : WireState} {n : ℕ} (addr : List ℕ) (k : ℕ) (f : Refusal LiveFault) → k ≤ n → w1.asked ≡ grown w0.asked (asked_for addr k) → AsksInTurn addr n w0 w1 (Err f)
asked_some {n = n} addr k f within asked = record { front = asked_for addr k; asked = asked; within = some_asked addr k n within; whole = λ ok. absurd (cc) }

-- the address, so many peers, and one more
asked_next : (known now next : Option (List (List ℕ))) (addr : List ℕ) (k : ℕ) → now ≡ grown known (asked_for addr k) → next ≡ grown now ([] ∷ []) → next ≡ grown known (asked_for addr (k + 1))
asked_next known now next addr k before more =
    more ∙ ap (λ (x : Option (List (List ℕ))). grown x ([] ∷ [])) before ∙ grown_again known (asked_for addr k) ([] ∷ []) ∙ ap (grown known) (asked_more addr k)

-- all
asked_all : {addr : List ℕ} {n t : ℕ} {s : SeatsState} {gave : ℕ → List ℕ} {w0 w : WireState} {later : Option (List (List ℕ))} → HasGreeted addr n t s gave w0 w → length s.told ≡ n → later ≡ w.asked
    → later ≡ grown w0.asked (asked_for addr n)
asked_all {addr} {w0 = w0} h all kept = kept ∙ h.asked ∙ ap (λ (k : ℕ). grown w0.asked (asked_for addr k)) all

grown_none : {A : Type 0} (known : Option (List A)) → known ≡ grown known []
grown_none None = refl
grown_none (Some xs) = ap Some (sym (append-nil xs))

-- nothing, and so nothing changed
pub asks_nothing : (addr : List ℕ) (n : ℕ) (w : WireState) (f : Refusal LiveFault) → AsksInTurn addr n w w (Err f)
asks_nothing addr n w f = record { front = []; asked = grown_none w.asked; within = none_asked addr n; whole = λ ok. absurd (cc) }

asks_at_fault : {addr : List ℕ} {n t : ℕ} {w0 w1 : WireState} (fault : LiveFault) → Fails addr n t w0 w1 fault → AsksInTurn addr n w0 w1 (Err (refusals.Bad fault))
asks_at_fault {addr} fault (unheard l is) = asked_some addr 0 (refusals.Bad fault) (omega arith) l.asked
asks_at_fault {addr} {w0 = w0} {w1 = w1} fault (alone a) =
    let some = a.gathered.some in
    asked_some addr (length a.gathered.seats.told + 1) (refusals.Bad fault) (omega arith) (asked_next w0.asked a.middle.asked w1.asked addr (length a.gathered.seats.told) a.gathered.greeted.asked a.accepts.asked)
asks_at_fault {addr} {w0 = w0} fault (ungreeted u) =
    let some = u.gathered.some in
    asked_some addr (length u.gathered.seats.told + 1) (refusals.Bad fault) (omega arith)
    (u.greets.talks.asked ∙ asked_next w0.asked u.middle.asked u.there.asked addr (length u.gathered.seats.told) u.gathered.greeted.asked u.accepts.asked)
asks_at_fault {addr} {n} fault (ended core v) = asked_some addr n (refusals.Bad fault) (omega arith) (asked_all v.gathered.greeted v.gathered.all v.runs.talks.asked)

asks_out_of_memory : {addr : List ℕ} {n t : ℕ} {w0 w1 : WireState} → RunsOut addr n t w0 w1 → AsksInTurn addr n w0 w1 (Err refusals.NoMemory)
asks_out_of_memory {addr} {n} {t} {w0} (at_once same) = subst (λ (x : WireState). AsksInTurn addr n w0 x (Err refusals.NoMemory)) (sym same) (asks_nothing addr n w0 refusals.NoMemory)
asks_out_of_memory {addr} (later some) = let low = some.some in asked_some addr (length some.seats.told) refusals.NoMemory (omega arith) some.greeted.asked

pub Serves-asked : (addr : List ℕ) (n t : ℕ) (w0 w1 : WireState) (result : Result HubState (Refusal LiveFault)) → Serves addr n t w0 w1 result → AsksInTurn addr n w0 w1 result
Serves-asked addr n t w0 w1 (Ok core) v =
    record { front = asked_for addr n; asked = asked_all v.gathered.greeted v.gathered.all v.runs.talks.asked; within = some_asked addr n n (omega arith); whole = λ ok. refl }
Serves-asked addr n t w0 w1 (Err (refusals.Bad fault)) fails = asks_at_fault fault fails
Serves-asked addr n t w0 w1 (Err refusals.NoMemory) out = asks_out_of_memory out
