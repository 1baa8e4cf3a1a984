-- What follows from what `hub` did.
use Rattle.std.proofs.Common.{◌≡◌, ◌≤◌, ◌+◌, ◌-◌, ◌⊎◌, ℕ, zero, suc, Bool, true, false, List, [], ◌∷◌, ◌++◌, length, replicate, Option, Result, Ok, Err, inl, inr, refl, sym, ap, ◌∙◌, subst, arith}
use Rattle.dc_spec.specs.Outside.{ShelfState, SinkState, WireState, Rose, IsFront, grown}
use Rattle.dc_spec.specs.Net.{Net}
use Rattle.dc_spec.specs.Recorded.{Recorded, IsRecorded, transcript_bytes, superposed}
use Rattle.dc_spec.specs.Text.{words_text}
use Rattle.dc_edge.proofs.PutLemmas.{grown-grown, Rose-earlier}
use Rattle.dc_field.specs.declared.refusal.Refusal.{Refusal}
use Rattle.dc_field.specs.declared.refusal.Refusal.TheVariants as refusals
use Rattle.dc_hub_rules.specs.Hubs.{Arrival}
use Rattle.dc_net_rules.specs.Runs.{run_of}
use Rattle.dc_live_rules.specs.LiveRuns.{IsLiveRun}
use Rattle.dc_live_rules.specs.Laws.{RecordedLive}
use Rattle.dc_superpose.specs.HubCore.{HubState, StandsFor, IsRecordOf}
use Rattle.dc_live.specs.Seats.{SeatsState}
use Rattle.dc_live.specs.Greeting.{Greets}
use Rattle.dc_live.specs.Serving.{asked_for, GreetedSome, Served, Fails, unheard, alone, ungreeted, ended, at_once, later, Serves, GiveAll, EndsWell}
use Rattle.dc_live.specs.declared.fault.LiveFault.{LiveFault}
use Rattle.dc_live.specs.declared.fault.LiveFault.TheVariants as lives
use Rattle.dc_cli.specs.Altering.{WritesThenPuts}
use Rattle.dc_cli.specs.Hosting.{outcome_of_refusal, AfterTheEnd, HubRan}
use Rattle.dc_cli.specs.Promises.{Call, TellsName, LeavesAltered}
use Rattle.dc_cli.specs.LivePromises.{SessionHeld, HoldsTranscript, HubAnswer, session_of, RunsAsNets}
use Rattle.dc_cli.specs.declared.outcome.Outcome.{Outcome}
use Rattle.dc_cli.specs.declared.outcome.Outcome.TheVariants.{Done, Usage, Missing, TooLong, Malformed, ShelfFault, SinkFault, WireFault, Peer, NoMemory}
use Rattle.dc_cli.proofs.ShelfLemmas.{AskedUpTo, asked_none, asked_whole}
use Rattle.dc_cli.proofs.AlteringLemmas.{LeavesAltered-all}
use Rattle.dc_cli.proofs.PlayingLemmas.{AskedWire, unasked_wire, asked_wire}

-- whether an outcome may be that of a session that did not end
ends_session : Outcome → Bool
ends_session WireFault = true
ends_session (Peer who fault) = true
ends_session NoMemory = true
ends_session _ = false

ends_by : (refusal : Refusal LiveFault) → ends_session (outcome_of_refusal refusal) ≡ true
unfolding ends_session
ends_by refusals.NoMemory = refl
ends_by (refusals.Bad lives.Wire) = refl
ends_by (refusals.Bad (lives.Peer who fault)) = refl

-- the session ended
after_end : (addr : List ℕ) (n t : ℕ) (target : List ℕ) (s s' : ShelfState) (o o' : SinkState) (w w' : WireState) (outcome : Outcome) → ends_session outcome ≡ false
    → HubRan addr n t target s s' o o' w w' outcome → AfterTheEnd addr n t target s s' o o' w w' outcome
after_end addr n t target s s' o o' w w' outcome late p = elim p [
  | inl b ↦ absurd (let e : ends_session outcome ≡ true = ap ends_session b.outcome_is ∙ ends_by b.refusal in cc)
  | inr a ↦ a
]

pub HubRan-usage : (addr : List ℕ) (n t : ℕ) (target : List ℕ) (s s' : ShelfState) (o o' : SinkState) (w w' : WireState) (place : ℕ) → HubRan addr n t target s s' o o' w w' (Usage place) → ⊥
unfolding ends_session
HubRan-usage addr n t target s s' o o' w w' place p = (after_end addr n t target s s' o o' w w' (Usage place) refl p).keeps.writes

-- no other name than the transcript's changes
writes_leave : (target bytes text : List ℕ) (s s' : ShelfState) (o o' : SinkState) (outcome : Outcome) → WritesThenPuts target bytes text s s' o o' outcome → LeavesAltered target outcome s s'
writes_leave target bytes text s s' o o' Done p = p.0.others
writes_leave target bytes text s s' o o' SinkFault p = p.0.others
writes_leave target bytes text s s' o o' ShelfFault p = p.1.others
writes_leave target bytes text s s' o o' NoMemory p = ap (λ (x : ShelfState). x.holds) p.1
writes_leave target bytes text s s' o o' _ p = absurd p

pub HubRan-leaves : (addr : List ℕ) (n t : ℕ) (target : List ℕ) (s s' : ShelfState) (o o' : SinkState) (w w' : WireState) (outcome : Outcome)
    → HubRan addr n t target s s' o o' w w' outcome → LeavesAltered target outcome s s'
HubRan-leaves addr n t target s s' o o' w w' outcome p = elim p [
  | inl b ↦ LeavesAltered-all target outcome s s' (ap (λ (x : ShelfState). x.holds) b.kept)
  | inr a ↦ writes_leave target (transcript_bytes a.keeps.session) (words_text (superposed a.keeps.session)) s s' o o' outcome a.keeps.writes
]

-- the shelf was asked for the transcript alone
writes_ask : (target bytes text : List ℕ) (s s' : ShelfState) (o o' : SinkState) (outcome : Outcome) → WritesThenPuts target bytes text s s' o o' outcome → AskedUpTo (target ∷ []) s s'
writes_ask target bytes text s s' o o' Done p = asked_whole (target ∷ []) s s' p.0.asked
writes_ask target bytes text s s' o o' SinkFault p = asked_whole (target ∷ []) s s' p.0.asked
writes_ask target bytes text s s' o o' ShelfFault p = asked_whole (target ∷ []) s s' p.1.asked
writes_ask target bytes text s s' o o' NoMemory p = asked_none (target ∷ []) s s' (ap (λ (x : ShelfState). x.asked) p.1)
writes_ask target bytes text s s' o o' _ p = absurd p

pub HubRan-asked : (addr : List ℕ) (n t : ℕ) (target : List ℕ) (s s' : ShelfState) (o o' : SinkState) (w w' : WireState) (outcome : Outcome)
    → HubRan addr n t target s s' o o' w w' outcome → AskedUpTo (target ∷ []) s s'
HubRan-asked addr n t target s s' o o' w w' outcome p = elim p [
  | inl b ↦ asked_none (target ∷ []) s s' (ap (λ (x : ShelfState). x.asked) b.kept)
  | inr a ↦ writes_ask target (transcript_bytes a.keeps.session) (words_text (superposed a.keeps.session)) s s' o o' outcome a.keeps.writes
]

pub HubRan-asked_all : (addr : List ℕ) (n t : ℕ) (target : List ℕ) (s s' : ShelfState) (o o' : SinkState) (w w' : WireState)
    → HubRan addr n t target s s' o o' w w' Done → s'.asked ≡ grown s.asked (target ∷ [])
unfolding ends_session
HubRan-asked_all addr n t target s s' o o' w w' p = (after_end addr n t target s s' o o' w w' Done refl p).keeps.writes.0.asked

-- where neither all was done nor the output failed, nothing was printed
writes_silently : (target bytes text : List ℕ) (s s' : ShelfState) (o o' : SinkState) (outcome : Outcome) → (outcome ≡ Done → ⊥) → (outcome ≡ SinkFault → ⊥)
    → WritesThenPuts target bytes text s s' o o' outcome → o' ≡ o
writes_silently target bytes text s s' o o' Done not_done not_sink p = absurd (not_done refl)
writes_silently target bytes text s s' o o' SinkFault not_done not_sink p = absurd (not_sink refl)
writes_silently target bytes text s s' o o' ShelfFault not_done not_sink p = p.0
writes_silently target bytes text s s' o o' NoMemory not_done not_sink p = p.0
writes_silently target bytes text s s' o o' _ not_done not_sink p = absurd p

pub HubRan-silent : (addr : List ℕ) (n t : ℕ) (target : List ℕ) (s s' : ShelfState) (o o' : SinkState) (w w' : WireState) (outcome : Outcome) → (outcome ≡ Done → ⊥) → (outcome ≡ SinkFault → ⊥)
    → HubRan addr n t target s s' o o' w w' outcome → o' ≡ o
HubRan-silent addr n t target s s' o o' w w' outcome not_done not_sink p = elim p [
  | inl b ↦ b.silent
  | inr a ↦ writes_silently target (transcript_bytes a.keeps.session) (words_text (superposed a.keeps.session)) s s' o o' outcome not_done not_sink a.keeps.writes
]

-- `hub` reads no file, and reports none
pub HubRan-untold : (addr : List ℕ) (n t : ℕ) (target : List ℕ) (s s' : ShelfState) (o o' : SinkState) (w w' : WireState) (outcome : Outcome) (name : List ℕ) → TellsName outcome name
    → HubRan addr n t target s s' o o' w w' outcome → ⊥
unfolding ends_session
HubRan-untold addr n t target s s' o o' w w' outcome name tells p =
    let P : Outcome → Type 0 = λ x. HubRan addr n t target s s' o o' w w' x in
    elim tells [
      | inl e ↦ (after_end addr n t target s s' o o' w w' (Missing name) refl (subst P e p)).keeps.writes
      | inr other ↦ elim other [
        | inl e ↦ (after_end addr n t target s s' o o' w w' (TooLong name) refl (subst P e p)).keeps.writes
        | inr f ↦ (after_end addr n t target s s' o o' w w' (Malformed name f.0) refl (subst P f.1 p)).keeps.writes
      ]
    ]

-- faults of the outside have their causes
pub HubRan-shelf_rose : (addr : List ℕ) (n t : ℕ) (target : List ℕ) (s s' : ShelfState) (o o' : SinkState) (w w' : WireState)
    → HubRan addr n t target s s' o o' w w' ShelfFault → Rose s.faults s'.faults
unfolding ends_session
HubRan-shelf_rose addr n t target s s' o o' w w' p = (after_end addr n t target s s' o o' w w' ShelfFault refl p).keeps.writes.1.answer

pub HubRan-sink_rose : (addr : List ℕ) (n t : ℕ) (target : List ℕ) (s s' : ShelfState) (o o' : SinkState) (w w' : WireState)
    → HubRan addr n t target s s' o o' w w' SinkFault → Rose o.faults o'.faults
unfolding ends_session
HubRan-sink_rose addr n t target s s' o o' w w' p = (after_end addr n t target s s' o o' w w' SinkFault refl p).keeps.writes.1.1.answer.1

served_rose : (addr : List ℕ) (n t : ℕ) (core : HubState) (w w' : WireState) → Served addr n t core w w' (Err lives.Wire) → Rose w.faults w'.faults
served_rose addr n t core w w' p =
    let g = p.gathered in
    Rose-earlier w.faults p.middle.faults w'.faults g.greeted.counted (p.runs.heard g.gave g.greeted.hellos).ends.1

-- a fault of the wire before all peers were greeted
fails_rose : (addr : List ℕ) (n t : ℕ) (w w' : WireState) (fault : LiveFault) → fault ≡ lives.Wire → Fails addr n t w w' fault → Rose w.faults w'.faults
fails_rose addr n t w w' fault e (unheard listens is) = listens.answer
fails_rose addr n t w w' fault e (alone p) = Rose-earlier w.faults p.middle.faults w'.faults p.gathered.greeted.counted p.accepts.answer.1
fails_rose addr n t w w' fault e (ungreeted p) =
    let k = length p.gathered.seats.told in
    let G : LiveFault → Type 0 = λ x. Greets k p.gathered.seats p.new p.there w' (Err x) in
    let greets : G lives.Wire = subst G e p.greets in
    Rose-earlier w.faults p.middle.faults w'.faults p.gathered.greeted.counted
    (Rose-earlier p.middle.faults p.there.faults w'.faults p.accepts.counted greets.answer.3)
fails_rose addr n t w w' fault e (ended core p) =
    let S : LiveFault → Type 0 = λ x. Served addr n t core w w' (Err x) in served_rose addr n t core w w' (subst S e p)

Serves-rose : (addr : List ℕ) (n t : ℕ) (w w' : WireState) → Serves addr n t w w' (Err (refusals.Bad lives.Wire)) → Rose w.faults w'.faults
Serves-rose addr n t w w' p = fails_rose addr n t w w' lives.Wire refl p

-- the refusal of an outcome
wire_refusal : (refusal : Refusal LiveFault) → WireFault ≡ outcome_of_refusal refusal → refusal ≡ refusals.Bad lives.Wire
wire_refusal refusals.NoMemory e = absurd cc
wire_refusal (refusals.Bad lives.Wire) e = refl
wire_refusal (refusals.Bad (lives.Peer who fault)) e = absurd cc

pub HubRan-wire_rose : (addr : List ℕ) (n t : ℕ) (target : List ℕ) (s s' : ShelfState) (o o' : SinkState) (w w' : WireState)
    → HubRan addr n t target s s' o o' w w' WireFault → Rose w.faults w'.faults
HubRan-wire_rose addr n t target s s' o o' w w' p = elim p [
  | inl b ↦ let P : Refusal LiveFault → Type 0 = λ x. Serves addr n t w w' (Err x) in Serves-rose addr n t w w' (subst P (wire_refusal b.refusal b.outcome_is) b.serves)
  | inr a ↦ absurd a.keeps.writes
]

-- one more text of a list of equal ones
replicate-more : (k m : ℕ) (x : List ℕ) → replicate (k + m) x ≡ replicate k x ++ replicate m x
replicate-more zero m x = let e : zero + m ≡ m = omega arith in ap (λ (j : ℕ). replicate j x) e
replicate-more (suc k) m x =
    let e : suc k + m ≡ suc (k + m) = omega arith in
    ap (λ (j : ℕ). replicate j x) e ∙ ap (λ (xs : List (List ℕ)). x ∷ xs) (replicate-more k m x)

asked_front : (addr : List ℕ) (k n : ℕ) → k ≤ n → IsFront (asked_for addr k) (asked_for addr n)
asked_front addr k n le =
    let m = n - k in
    let sum : n ≡ k + m = omega (arith, le) in
    (replicate m [], ap (λ (x : ℕ). asked_for addr x) sum ∙ ap (λ (xs : List (List ℕ)). addr ∷ xs) (replicate-more k m []))

asked_next : (addr : List ℕ) (k : ℕ) → asked_for addr k ++ [] ∷ [] ≡ asked_for addr (suc k)
asked_next addr k =
    let one : suc k ≡ k + 1 = omega arith in
    ap (λ (xs : List (List ℕ)). addr ∷ xs) (sym (replicate-more k 1 [])) ∙ ap (λ (x : ℕ). asked_for addr x) (sym one)

-- what was asked for of the wire
served_asked : (addr : List ℕ) (n t : ℕ) (core : HubState) (w w' : WireState) (r : Result Unit LiveFault) → Served addr n t core w w' r → w'.asked ≡ grown w.asked (asked_for addr n)
served_asked addr n t core w w' r p =
    p.runs.talks.asked ∙ p.gathered.greeted.asked ∙ ap (λ (k : ℕ). grown w.asked (asked_for addr k)) p.gathered.all

front_asked : (addr : List ℕ) (k n : ℕ) (w w' : WireState) → k ≤ n → w'.asked ≡ grown w.asked (asked_for addr k) → AskedWire (asked_for addr n) w w'
front_asked addr k n w w' le e = (asked_for addr k, asked_front addr k n le, e)

next_asked : (addr : List ℕ) (k : ℕ) (known first last : Option (List (List ℕ))) → first ≡ grown known (asked_for addr k) → last ≡ grown first ([] ∷ []) → last ≡ grown known (asked_for addr (suc k))
next_asked addr k known first last a b =
    b ∙ ap (λ (x : Option (List (List ℕ))). grown x ([] ∷ [])) a ∙ grown-grown known (asked_for addr k) ([] ∷ []) ∙ ap (λ (xs : List (List ℕ)). grown known xs) (asked_next addr k)

-- some peers were greeted, and then one more was asked for
one_more_asked : (addr : List ℕ) (n t : ℕ) (w middle w' : WireState) → GreetedSome addr n t w middle → w'.asked ≡ grown middle.asked ([] ∷ []) → AskedWire (asked_for addr n) w w'
one_more_asked addr n t w middle w' p last =
    let k = length p.seats.told in
    let few : suc k ≤ n = omega (arith, p.some) in
    front_asked addr (suc k) n w w' few (next_asked addr k w.asked middle.asked w'.asked p.greeted.asked last)

Fails-asked : (addr : List ℕ) (n t : ℕ) (w w' : WireState) (fault : LiveFault) → Fails addr n t w w' fault → AskedWire (asked_for addr n) w w'
Fails-asked addr n t w w' fault (unheard listens is) = front_asked addr 0 n w w' (omega arith) listens.asked
Fails-asked addr n t w w' fault (alone p) = one_more_asked addr n t w p.middle w' p.gathered p.accepts.asked
Fails-asked addr n t w w' fault (ungreeted p) = one_more_asked addr n t w p.middle w' p.gathered (p.greets.talks.asked ∙ p.accepts.asked)
Fails-asked addr n t w w' fault (ended core p) = asked_wire (asked_for addr n) w w' (served_asked addr n t core w w' (Err fault) p)

Serves-asked : (addr : List ℕ) (n t : ℕ) (w w' : WireState) (refusal : Refusal LiveFault) → Serves addr n t w w' (Err refusal) → AskedWire (asked_for addr n) w w'
Serves-asked addr n t w w' (refusals.Bad fault) p = Fails-asked addr n t w w' fault p
Serves-asked addr n t w w' refusals.NoMemory (at_once same) = unasked_wire (asked_for addr n) w w' same
Serves-asked addr n t w w' refusals.NoMemory (later p) = let lt = p.some in front_asked addr (length p.seats.told) n w w' (omega (arith, lt)) p.greeted.asked

pub HubRan-wire : (addr : List ℕ) (n t : ℕ) (target : List ℕ) (s s' : ShelfState) (o o' : SinkState) (w w' : WireState) (outcome : Outcome)
    → HubRan addr n t target s s' o o' w w' outcome → AskedWire (asked_for addr n) w w'
HubRan-wire addr n t target s s' o o' w w' outcome p = elim p [
  | inl b ↦ Serves-asked addr n t w w' b.refusal b.serves
  | inr a ↦ asked_wire (asked_for addr n) w w' (served_asked addr n t a.core w w' (Ok tt) a.serves)
]

pub HubRan-wire_all : (addr : List ℕ) (n t : ℕ) (target : List ℕ) (s s' : ShelfState) (o o' : SinkState) (w w' : WireState)
    → HubRan addr n t target s s' o o' w w' Done → w'.asked ≡ grown w.asked (asked_for addr n)
unfolding ends_session
HubRan-wire_all addr n t target s s' o o' w w' p =
    let a = after_end addr n t target s s' o o' w w' Done refl p in served_asked addr n t a.core w w' (Ok tt) a.serves

-- the hub took the words of its arrivals
stands_for : (core : HubState) (n t : ℕ) (seats : SeatsState) (arrivals : List Arrival) → seats.stations ≡ n → seats.words ≡ t → StandsFor core seats.stations seats.words arrivals → StandsFor core n t arrivals
stands_for core n t seats arrivals a b p = rw (← a, ← b) p

session_held : (c : Call) (addr : List ℕ) (n t : ℕ) (target : List ℕ) (outcome : Outcome) → AfterTheEnd addr n t target c.shelf c.shelf' c.out c.out' c.wire c.wire' outcome → SessionHeld c addr n t
session_held c addr n t target outcome a =
    let served = a.serves in record {
      core = a.core;
      served = served;
      session = a.keeps.session;
      recorded = a.keeps.recorded;
      accepted = a.keeps.accepted n t served.runs.arrivals (stands_for a.core n t served.gathered.seats served.runs.arrivals served.gathered.greeted.stations_are served.gathered.greeted.words_are served.runs.core);
    }

-- what `hub` did, by the outcome
HubAnswer-after : (c : Call) (addr : List ℕ) (n t : ℕ) (target : List ℕ) (outcome : Outcome) → AfterTheEnd addr n t target c.shelf c.shelf' c.out c.out' c.wire c.wire' outcome → HubAnswer c addr n t target outcome
unfolding session_held
HubAnswer-after c addr n t target Done a = (session_held c addr n t target Done a, a.keeps.writes.0.answer, a.keeps.writes.1.answer)
HubAnswer-after c addr n t target SinkFault a = (session_held c addr n t target SinkFault a, a.keeps.writes.0.answer)
HubAnswer-after c addr n t target ShelfFault a = session_held c addr n t target ShelfFault a
HubAnswer-after c addr n t target NoMemory a = inr (session_held c addr n t target NoMemory a)
HubAnswer-after c addr n t target _ a = absurd a.keeps.writes

HubAnswer-before : (c : Call) (addr : List ℕ) (n t : ℕ) (target : List ℕ) (refusal : Refusal LiveFault) → Serves addr n t c.wire c.wire' (Err refusal) → HubAnswer c addr n t target (outcome_of_refusal refusal)
HubAnswer-before c addr n t target refusals.NoMemory (at_once same) = inl (λ p. ap (λ (x : WireState). x.sent p) same)
HubAnswer-before c addr n t target refusals.NoMemory (later p) = inl p.greeted.sent
HubAnswer-before c addr n t target (refusals.Bad lives.Wire) p = p
HubAnswer-before c addr n t target (refusals.Bad (lives.Peer who fault)) p = p

pub HubAnswer-ran : (c : Call) (addr : List ℕ) (n t : ℕ) (target : List ℕ) → HubRan addr n t target c.shelf c.shelf' c.out c.out' c.wire c.wire' c.outcome → HubAnswer c addr n t target c.outcome
HubAnswer-ran c addr n t target p = elim p [
  | inl b ↦ let P : Outcome → Type 0 = λ x. HubAnswer c addr n t target x in subst P (sym b.outcome_is) (HubAnswer-before c addr n t target b.refusal b.serves)
  | inr a ↦ HubAnswer-after c addr n t target c.outcome a
]

-- where all peers give what they should, all is done, or memory ran out
ends_well : (refusal : Refusal LiveFault) → EndsWell (Err refusal) → outcome_of_refusal refusal ≡ NoMemory
ends_well refusals.NoMemory p = refl
ends_well (refusals.Bad fault) p = absurd p

writes_well : (target bytes text : List ℕ) (s s' : ShelfState) (o o' : SinkState) (outcome : Outcome) → (Rose s.faults s'.faults → ⊥) → (Rose o.faults o'.faults → ⊥)
    → WritesThenPuts target bytes text s s' o o' outcome → (outcome ≡ Done) ⊎ (outcome ≡ NoMemory)
writes_well target bytes text s s' o o' Done calm_shelf calm_sink p = inl refl
writes_well target bytes text s s' o o' SinkFault calm_shelf calm_sink p = absurd (calm_sink p.1.1.answer.1)
writes_well target bytes text s s' o o' ShelfFault calm_shelf calm_sink p = absurd (calm_shelf p.1.answer)
writes_well target bytes text s s' o o' NoMemory calm_shelf calm_sink p = inr refl
writes_well target bytes text s s' o o' _ calm_shelf calm_sink p = absurd p

pub HubRan-completes : (addr : List ℕ) (n t : ℕ) (target : List ℕ) (s s' : ShelfState) (o o' : SinkState) (w w' : WireState) (outcome : Outcome) → GiveAll n t w w'
    → (Rose s.faults s'.faults → ⊥) → (Rose o.faults o'.faults → ⊥) → HubRan addr n t target s s' o o' w w' outcome → (outcome ≡ Done) ⊎ (outcome ≡ NoMemory)
HubRan-completes addr n t target s s' o o' w w' outcome gives calm_shelf calm_sink p = elim p [
  | inl b ↦ inr (b.outcome_is ∙ ends_well b.refusal (b.complete gives))
  | inr a ↦ writes_well target (transcript_bytes a.keeps.session) (words_text (superposed a.keeps.session)) s s' o o' outcome calm_shelf calm_sink a.keeps.writes
]

-- a session that was held is a run of the net whose stations gave their words
session_is : (n t : ℕ) (net : Net) (arrivals : List Arrival) (session : Recorded) → RecordedLive → net.stations ≡ n → net.words ≡ t → IsRecorded session → IsRecordOf n t arrivals session
    → IsLiveRun net arrivals → (session ≡ session_of net) × (superposed session ≡ (run_of net).sums)
session_is n t net arrivals session law a b recorded accepted live =
    let Of : ℕ → ℕ → Type 0 = λ x y. IsRecordOf x y arrivals session in
    let mine : Of net.stations net.words = rw (a, b) accepted in
    let same = law net arrivals live session recorded mine.stations_are mine.rounds_are mine.words_are in
    (λ i. record { stations = mine.stations_are i; rounds = mine.rounds_are i; words = same.0 i }, same.1)

pub RunsAsNets-ran : (c : Call) (addr : List ℕ) (n t : ℕ) (target : List ℕ) → RecordedLive → HubAnswer c addr n t target Done → RunsAsNets c addr n t target
RunsAsNets-ran c addr n t target law p =
    let h = p.0 in
    let is : (net : Net) → net.stations ≡ n → net.words ≡ t → IsLiveRun net h.served.runs.arrivals → (h.session ≡ session_of net) × (superposed h.session ≡ (run_of net).sums) =
    λ net a b live. session_is n t net h.served.runs.arrivals h.session law a b h.recorded h.accepted live in record {
      held = h;
      transcript = λ net a b live. let S : Recorded → Type 0 = λ x. HoldsTranscript c target x in subst S ((is net a b live).0) p.1;
      printed = λ net a b live. p.2 ∙ ap (λ (ws : List (List ℕ)). grown c.out.written (words_text ws)) ((is net a b live).1);
    }
