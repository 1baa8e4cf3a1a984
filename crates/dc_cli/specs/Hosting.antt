-- The command `hub`: a session is served, its transcript is written, and the text of its superposed words is put.
use Rattle.std.specs.Prelude.{ℕ, ◌≤◌, ◌≡◌, ◌⊎◌, List, Ok, Err}
use Rattle.dc_spec.specs.Outside.{ShelfState, SinkState, WireState}
use Rattle.dc_spec.specs.Recorded.{Recorded, IsRecorded, transcript_bytes, superposed}
use Rattle.dc_spec.specs.Text.{words_text}
use Rattle.dc_field.specs.declared.refusal.Refusal.{Refusal}
use Rattle.dc_field.specs.declared.refusal.Refusal.TheVariants as refusals
use Rattle.dc_hub_rules.specs.Hubs.{Arrival}
use Rattle.dc_superpose.specs.HubCore.{HubState, StandsFor, IsRecordOf}
use Rattle.dc_live.specs.Serving.{Serves, GiveAll, EndsWell}
use Rattle.dc_live.specs.declared.fault.LiveFault.{LiveFault}
use Rattle.dc_cli.specs.Sessions.{outcome_of_session}
use Rattle.dc_cli.specs.Altering.{WritesThenPuts}
use Rattle.dc_cli.specs.declared.hosting.Session.{Session}
use Rattle.dc_cli.specs.declared.outcome.Outcome.{Outcome}
use Rattle.dc_cli.specs.declared.outcome.Outcome.TheVariants.{NoMemory}

-- the outcome of a hub that did not end its session
abbrev pub outcome_of_refusal : Refusal LiveFault → Outcome
outcome_of_refusal refusals.NoMemory = NoMemory
outcome_of_refusal (refusals.Bad fault) = outcome_of_session fault

-- all rounds of a hub are complete
abbrev pub IsOver : HubState → Type 0
IsOver core = core.rounds ≤ core.round

-- the bytes of a transcript, and its superposed words
pub record Holds (t : Recorded) (s : Session) : Type 0 where
  pub bytes_are : s.bytes ≡ transcript_bytes t
  pub sums_are : s.sums ≡ superposed t

-- The transcript of a hub was written, and then its superposed words were put. It has the accepted words of all arrivals that the hub
-- has taken.
pub record Keeps (core : HubState) (target : List ℕ) (shelf shelf' : ShelfState) (out out' : SinkState) (outcome : Outcome) : Type 0 where
  pub session : Recorded
  pub recorded : IsRecorded session
  pub accepted : (stations rounds : ℕ) (arrivals : List Arrival) → StandsFor core stations rounds arrivals → IsRecordOf stations rounds arrivals session
  pub writes : WritesThenPuts target (transcript_bytes session) (words_text (superposed session)) shelf shelf' out out' outcome

-- the session did not end, and nothing was written or put
pub record BeforeTheEnd (addr : List ℕ) (stations words : ℕ) (shelf shelf' : ShelfState) (out out' : SinkState) (before after : WireState) (outcome : Outcome) : Type 0 where
  pub kept : shelf' ≡ shelf
  pub silent : out' ≡ out
  pub refusal : Refusal LiveFault
  pub serves : Serves addr stations words before after (Err refusal)
  pub complete : GiveAll stations words before after → EndsWell (Err refusal)
  pub outcome_is : outcome ≡ outcome_of_refusal refusal

-- the session ended, and was kept
pub record AfterTheEnd (addr : List ℕ) (stations words : ℕ) (target : List ℕ) (shelf shelf' : ShelfState) (out out' : SinkState) (before after : WireState) (outcome : Outcome) : Type 0 where
  pub core : HubState
  pub serves : Serves addr stations words before after (Ok core)
  pub keeps : Keeps core target shelf shelf' out out' outcome

-- what `hub` did
abbrev pub HubRan : List ℕ → ℕ → ℕ → List ℕ → ShelfState → ShelfState → SinkState → SinkState → WireState → WireState → Outcome → Type 0
HubRan addr stations words target shelf shelf' out out' before after outcome =
    BeforeTheEnd addr stations words shelf shelf' out out' before after outcome ⊎ AfterTheEnd addr stations words target shelf shelf' out out' before after outcome
