-- What a call did, by its outcome: the words are not a form and nothing changed, or they spell a command and it ran.
use Rattle.std.specs.Prelude.{ℕ, ◌≡◌, List, false, Result}
use Rattle.dc_spec.specs.Outside.{ShelfState, SinkState, WireState}
use Rattle.dc_edge.specs.Sink.{Puts}
use Rattle.dc_edge.specs.declared.fault.Failed.{Failed}
use Rattle.dc_cli.specs.Lines.{fault_line}
use Rattle.dc_cli.specs.Forms.{is_form, longest_begun}
use Rattle.dc_cli.specs.Commands.{Task, sum, keygen, keygen_seeds, migrate, replay, logs, twin, steer, station, hub, trial, Spells}
use Rattle.dc_cli.specs.Summing.{SumRan}
use Rattle.dc_cli.specs.Making.{MakesOf}
use Rattle.dc_cli.specs.Keygen.{keygen_making}
use Rattle.dc_cli.specs.declared.keygen.KeyMaterial.TheVariants.{Pads, Seeds}
use Rattle.dc_cli.specs.Migrating.{migrate_making}
use Rattle.dc_run_texts.specs.View.{view_text}
use Rattle.dc_run_texts.specs.Logs.{logs_text}
use Rattle.dc_cli.specs.Replaying.{NetRan}
use Rattle.dc_cli.specs.Altering.{AltersOf}
use Rattle.dc_cli.specs.Twinning.{twinning}
use Rattle.dc_cli.specs.Steering.{steering}
use Rattle.dc_cli.specs.Playing.{StationRan}
use Rattle.dc_cli.specs.Hosting.{HubRan}
use Rattle.dc_cli.specs.Trials.{TrialRan}
use Rattle.dc_cli.specs.declared.outcome.Outcome.{Outcome}
use Rattle.dc_cli.specs.declared.outcome.Outcome.TheVariants.{Usage}

-- the words are not a form, and nothing changed
pub record RefusedWords (words : List (List ℕ)) (place : ℕ) (shelf shelf' : ShelfState) (out out' : SinkState) (wire wire' : WireState) : Type 0 where
  pub no_form : is_form words ≡ false
  pub place_is : place ≡ longest_begun words
  pub shelf_stays : shelf' ≡ shelf
  pub out_stays : out' ≡ out
  pub wire_stays : wire' ≡ wire

-- what a command did, by its outcome
abbrev pub CommandRan : Task → ShelfState → ShelfState → SinkState → SinkState → WireState → WireState → Outcome → Type 0
CommandRan (sum file) shelf shelf' out out' wire wire' outcome = SumRan file shelf shelf' out out' outcome
CommandRan (keygen seed net target) shelf shelf' out out' wire wire' outcome = (out' ≡ out) × MakesOf (keygen_making Pads seed net target) shelf shelf' outcome
CommandRan (keygen_seeds seed net target) shelf shelf' out out' wire wire' outcome = (out' ≡ out) × MakesOf (keygen_making Seeds seed net target) shelf shelf' outcome
CommandRan (migrate keys target) shelf shelf' out out' wire wire' outcome = (out' ≡ out) × MakesOf (migrate_making keys target) shelf shelf' outcome
CommandRan (replay net workers) shelf shelf' out out' wire wire' outcome = NetRan view_text net shelf shelf' out out' outcome
CommandRan (logs net) shelf shelf' out out' wire wire' outcome = NetRan logs_text net shelf shelf' out out' outcome
CommandRan (twin net perm target) shelf shelf' out out' wire wire' outcome = AltersOf net (twinning perm target) shelf shelf' out out' outcome
CommandRan (steer net u v wanted target) shelf shelf' out out' wire wire' outcome = AltersOf net (steering u v wanted target) shelf shelf' out out' outcome
CommandRan (station addr id keys stream) shelf shelf' out out' wire wire' outcome = StationRan addr id keys stream shelf shelf' out out' wire wire' outcome
CommandRan (hub addr stations count target) shelf shelf' out out' wire wire' outcome = HubRan addr stations count target shelf shelf' out out' wire wire' outcome
CommandRan (trial seed stations count workers) shelf shelf' out out' wire wire' outcome = (shelf' ≡ shelf) × TrialRan seed stations count out out' outcome

-- a command without a session leaves the wire as it was
abbrev pub LeavesWire : Task → WireState → WireState → Type 0
LeavesWire (station addr id keys stream) wire wire' = Unit {0}
LeavesWire (hub addr stations count target) wire wire' = Unit {0}
LeavesWire other wire wire' = wire' ≡ wire

-- the command that the words spell, and what it did
pub record RanCommand (words : List (List ℕ)) (shelf shelf' : ShelfState) (out out' : SinkState) (wire wire' : WireState) (outcome : Outcome) : Type 0 where
  pub command : Task
  pub spelled : Spells words command
  pub leaves : LeavesWire command wire wire'
  pub ran : CommandRan command shelf shelf' out out' wire wire' outcome

-- what a call did, by its outcome
abbrev pub Ran : List (List ℕ) → ShelfState → ShelfState → SinkState → SinkState → WireState → WireState → Outcome → Type 0
Ran words shelf shelf' out out' wire wire' (Usage place) = RefusedWords words place shelf shelf' out out' wire wire'
Ran words shelf shelf' out out' wire wire' other = RanCommand words shelf shelf' out out' wire wire' other

-- the line of an outcome was put, or a front of it and the count of faults rose; where all was done, nothing was
pub record PutsLine (outcome : Outcome) (before after : SinkState) : Type 0 where
  pub answer : Result Unit Failed
  pub put : Puts (fault_line outcome) before after answer
