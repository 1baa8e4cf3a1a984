-- The steps of serving: listening, the next peer, all peers, the session.
use Rattle.std.specs.Prelude.{ℕ, ◌≡◌, List, length, Result, Ok, Err}
use Rattle.dc_spec.specs.Outside.{WireState}
use Rattle.dc_edge.specs.Wire.{Accepts, Listens}
use Rattle.dc_edge.specs.declared.fault.LinkFault.{LinkFault}
use Rattle.dc_edge.specs.declared.fault.LinkFault.TheVariants as links
use Rattle.dc_field.specs.declared.refusal.Refusal.{Refusal}
use Rattle.dc_field.specs.declared.refusal.Refusal.TheVariants as refusals
use Rattle.dc_superpose.specs.HubCore.{HubState}
use Rattle.dc_live.specs.Seats.{SeatsState}
use Rattle.dc_live.specs.Greeting.{Greets}
use Rattle.dc_live.specs.HubSession.{RunsHub}
use Rattle.dc_live.specs.Serving.{HasGreeted, Fails, RunsOut}
use Rattle.dc_live.specs.declared.fault.LiveFault.{LiveFault}
use Rattle.dc_live.specs.declared.fault.LiveFault.TheVariants.{Wire}

-- what a fault of a call that brings peers is to the hub
abbrev pub refusal_of : LinkFault → Refusal LiveFault
refusal_of links.Failed = refusals.Bad Wire
refusal_of links.NoMemory = refusals.NoMemory

-- when each answer of listening comes
abbrev pub ListensAt : List ℕ → WireState → WireState → Result Unit (Refusal LiveFault) → Type 0
ListensAt addr before after (Ok _) = Listens addr before after (Ok tt)
ListensAt addr before after (Err (refusals.Bad fault)) = Listens addr before after (Err links.Failed) × (fault ≡ Wire)
ListensAt addr before after (Err refusals.NoMemory) = after ≡ before

-- the next peer came, and this is how its greeting ended
pub record GreetsPeer (s new : SeatsState) (before after : WireState) (result : Result Unit LiveFault) : Type 0 where
  pub there : WireState
  pub accepts : Accepts before there (Ok (length s.told))
  pub greets : Greets (length s.told) s new there after result

-- at a fault, the wire failed, or the next peer came and was not greeted
pub data NotNext (s : SeatsState) (before after : WireState) (fault : LiveFault) : Type 0 where
  absent : Accepts before after (Err links.Failed) → fault ≡ Wire → NotNext s before after fault
  unfit : (new : SeatsState) → GreetsPeer s new before after (Err fault) → NotNext s before after fault

-- when each answer for the next peer comes
abbrev pub GreetsNext : SeatsState → SeatsState → WireState → WireState → Result Unit (Refusal LiveFault) → Type 0
GreetsNext s new before after (Ok _) = GreetsPeer s new before after (Ok tt)
GreetsNext s new before after (Err (refusals.Bad fault)) = NotNext s before after fault
GreetsNext s new before after (Err refusals.NoMemory) = after ≡ before

-- all peers were greeted
pub record GathersAll (addr : List ℕ) (s new : SeatsState) (before after : WireState) : Type 0 where
  pub gave : ℕ → List ℕ
  pub greeted : HasGreeted addr s.stations s.words new gave before after
  pub all : length new.told ≡ s.stations

-- when each answer for all peers comes
abbrev pub Gathers : List ℕ → SeatsState → SeatsState → WireState → WireState → Result Unit (Refusal LiveFault) → Type 0
Gathers addr s new before after (Ok _) = GathersAll addr s new before after
Gathers addr s new before after (Err (refusals.Bad fault)) = Fails addr s.stations s.words before after fault
Gathers addr s new before after (Err refusals.NoMemory) = RunsOut addr s.stations s.words before after

-- when each answer of the session comes
abbrev pub RunsCore : SeatsState → WireState → WireState → Result HubState (Refusal LiveFault) → Type 0
RunsCore s before after (Ok core) = RunsHub s core before after (Ok tt)
RunsCore s before after (Err (refusals.Bad fault)) = (core : HubState) × RunsHub s core before after (Err fault)
RunsCore s before after (Err refusals.NoMemory) = ⊥
