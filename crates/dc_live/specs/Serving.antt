-- Serving a session: the hub listens at an address, greets all peers, and runs its session.
use Rattle.std.specs.Prelude.{ℕ, ◌<◌, ◌≤◌, ◌≡◌, ◌≢◌, List, [], ◌∷◌, length, replicate, Some, Result, Ok, Err, IsOk}
use Rattle.dc_spec.specs.Outside.{WireState, Rose, IsEmptyIfKnown, IsFront, grown, preceded}
use Rattle.dc_spec.specs.Frames.{Frame as frame, hello}
use Rattle.dc_edge.specs.Wire.{Accepts, Listens}
use Rattle.dc_edge.specs.declared.fault.LinkFault.TheVariants as links
use Rattle.dc_field.specs.declared.refusal.Refusal.{Refusal}
use Rattle.dc_field.specs.declared.refusal.Refusal.TheVariants as refusals
use Rattle.dc_frame.specs.Reading.{reading}
use Rattle.dc_superpose.specs.HubCore.{HubState}
use Rattle.dc_live.specs.Seats.{SeatsState, AreNew, GaveHellos}
use Rattle.dc_live.specs.Greeting.{Greets}
use Rattle.dc_live.specs.HubSession.{words_heard, RunsHub}
use Rattle.dc_live.specs.declared.fault.LiveFault.{LiveFault}
use Rattle.dc_live.specs.declared.fault.LiveFault.TheVariants.{Wire}

-- what a hub asks the wire for that accepts so many peers at an address: the address, then each peer by the empty text
abbrev pub asked_for : List ℕ → ℕ → List (List ℕ)
asked_for addr peers = addr ∷ replicate peers []

-- peers were greeted at an address, the next numbers from 0 on: each gave these bytes, its hello and no byte more; nothing was sent to
-- anyone, and to the new peers nothing before
pub record HasGreeted (addr : List ℕ) (stations words : ℕ) (s : SeatsState) (gave : ℕ → List ℕ) (before after : WireState) : Type 0 where
  pub stations_are : s.stations ≡ stations
  pub words_are : s.words ≡ words
  pub new : AreNew s
  pub hellos : GaveHellos s gave
  pub peers : after.peers ≡ length s.told
  pub left : (p : ℕ) → p < length s.told → before.left p ≡ preceded (gave p) (after.left p)
  pub others : (p : ℕ) → length s.told ≤ p → after.left p ≡ before.left p
  pub sent : (p : ℕ) → after.sent p ≡ before.sent p
  pub unsent : (p : ℕ) → p < length s.told → IsEmptyIfKnown (before.sent p)
  pub asked : after.asked ≡ grown before.asked (asked_for addr (length s.told))
  pub counted : before.faults ≤ after.faults

-- some peers were greeted, and not all
pub record GreetedSome (addr : List ℕ) (stations words : ℕ) (before after : WireState) : Type 0 where
  pub seats : SeatsState
  pub gave : ℕ → List ℕ
  pub greeted : HasGreeted addr stations words seats gave before after
  pub some : length seats.told < stations

-- all peers were greeted
pub record GreetedAll (addr : List ℕ) (stations words : ℕ) (before after : WireState) : Type 0 where
  pub seats : SeatsState
  pub gave : ℕ → List ℕ
  pub greeted : HasGreeted addr stations words seats gave before after
  pub all : length seats.told ≡ stations

-- the hub listened, greeted all peers, and ran its session
pub record Served (addr : List ℕ) (stations words : ℕ) (core : HubState) (before after : WireState) (result : Result Unit LiveFault) : Type 0 where
  pub middle : WireState
  pub gathered : GreetedAll addr stations words before middle
  pub runs : RunsHub gathered.seats core middle after result

-- the wire failed where the next peer was to come
pub record NoPeer (addr : List ℕ) (stations words : ℕ) (before after : WireState) (fault : LiveFault) : Type 0 where
  pub middle : WireState
  pub gathered : GreetedSome addr stations words before middle
  pub accepts : Accepts middle after (Err links.Failed)
  pub fault_is : fault ≡ Wire

-- the next peer came and was not greeted
pub record Ungreeted (addr : List ℕ) (stations words : ℕ) (before after : WireState) (fault : LiveFault) : Type 0 where
  pub middle : WireState
  pub gathered : GreetedSome addr stations words before middle
  pub there : WireState
  pub accepts : Accepts middle there (Ok (length gathered.seats.told))
  pub new : SeatsState
  pub greets : Greets (length gathered.seats.told) gathered.seats new there after (Err fault)

-- where a fault came up: in listening, where a peer was to come, at its hello, or in the session
pub data Fails (addr : List ℕ) (stations words : ℕ) (before after : WireState) (fault : LiveFault) : Type 0 where
  unheard : Listens addr before after (Err links.Failed) → fault ≡ Wire → Fails addr stations words before after fault
  alone : NoPeer addr stations words before after fault → Fails addr stations words before after fault
  ungreeted : Ungreeted addr stations words before after fault → Fails addr stations words before after fault
  ended : (core : HubState) → Served addr stations words core before after (Err fault) → Fails addr stations words before after fault

-- where memory ran out: before anything was asked for, or where the next peer was to come
pub data RunsOut (addr : List ℕ) (stations words : ℕ) (before after : WireState) : Type 0 where
  at_once : after ≡ before → RunsOut addr stations words before after
  later : GreetedSome addr stations words before after → RunsOut addr stations words before after

-- when each answer comes
abbrev pub Serves : List ℕ → ℕ → ℕ → WireState → WireState → Result HubState (Refusal LiveFault) → Type 0
Serves addr stations words before after (Ok core) = Served addr stations words core before after (Ok tt)
Serves addr stations words before after (Err (refusals.Bad fault)) = Fails addr stations words before after fault
Serves addr stations words before after (Err refusals.NoMemory) = RunsOut addr stations words before after

-- what was asked of the wire is a front of this: the address, then each peer; all of it where the session ended
pub record AsksInTurn (addr : List ℕ) (stations : ℕ) (before after : WireState) (result : Result HubState (Refusal LiveFault)) : Type 0 where
  pub front : List (List ℕ)
  pub asked : after.asked ≡ grown before.asked front
  pub within : IsFront front (asked_for addr stations)
  pub whole : IsOk result → front ≡ asked_for addr stations

-- the count never falls, and the wire is at fault only where it rose
pub record HasCause (before after : WireState) (result : Result HubState (Refusal LiveFault)) : Type 0 where
  pub counted : before.faults ≤ after.faults
  pub rose : result ≡ Err (refusals.Bad Wire) → Rose before.faults after.faults

-- where memory ran out, nothing was sent to anyone
abbrev pub IsSilent : WireState → WireState → Result HubState (Refusal LiveFault) → Type 0
IsSilent before after result = result ≡ Err refusals.NoMemory → (p : ℕ) → after.sent p ≡ before.sent p

-- it is known what all peers give, each a hello that fits, as another station than the peers before it, and behind it a word for each
-- round in order; and no fault was counted
pub record GiveAll (stations words : ℕ) (before after : WireState) : Type 0 where
  pub bytes : ℕ → List ℕ
  pub known : (p : ℕ) → p < stations → before.left p ≡ Some (bytes p)
  pub station : ℕ → ℕ
  pub below : (p : ℕ) → p < stations → station p < stations
  pub distinct : (p q : ℕ) → p < q → q < stations → station p ≢ station q
  pub hellos : (p : ℕ) → p < stations → (frames : List frame) × ((reading (bytes p)).frames ≡ hello (station p) stations words ∷ frames)
  pub heard : (p : ℕ) → p < stations → length (words_heard words (bytes p)).words ≡ words
  pub counted : Rose before.faults after.faults → ⊥

-- the session ended, or memory ran out
abbrev pub EndsWell : Result HubState (Refusal LiveFault) → Type 0
EndsWell (Ok core) = Unit {0}
EndsWell (Err refusals.NoMemory) = Unit {0}
EndsWell (Err (refusals.Bad fault)) = ⊥
