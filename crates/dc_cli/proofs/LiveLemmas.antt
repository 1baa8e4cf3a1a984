-- The promises of the commands that hold a session follow from what the call did.
use Rattle.std.proofs.Common.{◌≡◌, ℕ, false, List, [], ap, ◌∙◌, subst}
use Rattle.dc_spec.specs.Outside.{ShelfState, SinkState, WireState, grown}
use Rattle.dc_edge.proofs.PutLemmas.{grown-nothing}
use Rattle.dc_live_rules.specs.Laws.{RecordedLive}
use Rattle.dc_cli.specs.Forms.{is_form}
use Rattle.dc_cli.specs.Commands.{Task, sum, keygen, keygen_seeds, migrate, replay, logs, twin, steer, station, hub, trial, Spells}
use Rattle.dc_cli.specs.Ran.{Ran, CommandRan, LeavesWire}
use Rattle.dc_cli.specs.Promises.{Call}
use Rattle.dc_cli.specs.LivePromises.{wire_asks, AsksWire, HubAnswer, PlaysStations, CompletesStations, HostsSessions, CompletesHubs, SessionsAreRuns}
use Rattle.dc_cli.specs.declared.outcome.Outcome.{Outcome}
use Rattle.dc_cli.specs.declared.outcome.Outcome.TheVariants.{Done, Usage}
use Rattle.dc_cli.proofs.SpelledLemmas.{not_both, same_command}
use Rattle.dc_cli.proofs.PlayingLemmas.{AskedWire, unasked_wire, StationRan-wire, StationRan-wire_all, StationAnswer-ran, CompletesStation-ran}
use Rattle.dc_cli.proofs.HostingLemmas.{HubRan-wire, HubRan-wire_all, HubAnswer-ran, HubRan-completes, RunsAsNets-ran}
use Rattle.dc_cli.proofs.PromiseLemmas.{HasRun, HasRun-as}

-- a command without a session leaves the wire
leaves_of : (words : List (List ℕ)) (command : Task) (s s' : ShelfState) (o o' : SinkState) (w w' : WireState) (outcome : Outcome) → Spells words command → Ran words s s' o o' w w' outcome
    → LeavesWire command w w'
leaves_of words command s s' o o' w w' (Usage place) p ran = absurd (not_both words command p ran.no_form)
leaves_of words command s s' o o' w w' other p ran =
    let P : Task → Type 0 = λ c. LeavesWire c w w' in
    subst P (same_command words ran.command command ran.spelled p) ran.leaves

CommandRan-wire : (command : Task) (s s' : ShelfState) (o o' : SinkState) (w w' : WireState) (outcome : Outcome) → LeavesWire command w w' → CommandRan command s s' o o' w w' outcome
    → AskedWire (wire_asks command) w w'
CommandRan-wire (station addr id keys stream) s s' o o' w w' outcome leaves ran = StationRan-wire addr id keys stream s s' o o' w w' outcome ran
CommandRan-wire (hub addr stations count target) s s' o o' w w' outcome leaves ran = HubRan-wire addr stations count target s s' o o' w w' outcome ran
CommandRan-wire (sum file) s s' o o' w w' outcome leaves ran = unasked_wire [] w w' leaves
CommandRan-wire (keygen seed net target) s s' o o' w w' outcome leaves ran = unasked_wire [] w w' leaves
CommandRan-wire (keygen_seeds seed net target) s s' o o' w w' outcome leaves ran = unasked_wire [] w w' leaves
CommandRan-wire (migrate keys target) s s' o o' w w' outcome leaves ran = unasked_wire [] w w' leaves
CommandRan-wire (replay net workers) s s' o o' w w' outcome leaves ran = unasked_wire [] w w' leaves
CommandRan-wire (logs net) s s' o o' w w' outcome leaves ran = unasked_wire [] w w' leaves
CommandRan-wire (twin net perm target) s s' o o' w w' outcome leaves ran = unasked_wire [] w w' leaves
CommandRan-wire (steer net u v wanted target) s s' o o' w w' outcome leaves ran = unasked_wire [] w w' leaves
CommandRan-wire (trial seed stations count workers) s s' o o' w w' outcome leaves ran = unasked_wire [] w w' leaves

asks_nothing : (w w' : WireState) → w' ≡ w → w'.asked ≡ grown w.asked []
asks_nothing w w' e = ap (λ (x : WireState). x.asked) e ∙ grown-nothing w.asked

CommandRan-wire_all : (command : Task) (s s' : ShelfState) (o o' : SinkState) (w w' : WireState) → LeavesWire command w w' → CommandRan command s s' o o' w w' Done
    → w'.asked ≡ grown w.asked (wire_asks command)
CommandRan-wire_all (station addr id keys stream) s s' o o' w w' leaves ran = StationRan-wire_all addr id keys stream s s' o o' w w' ran
CommandRan-wire_all (hub addr stations count target) s s' o o' w w' leaves ran = HubRan-wire_all addr stations count target s s' o o' w w' ran
CommandRan-wire_all (sum file) s s' o o' w w' leaves ran = asks_nothing w w' leaves
CommandRan-wire_all (keygen seed net target) s s' o o' w w' leaves ran = asks_nothing w w' leaves
CommandRan-wire_all (keygen_seeds seed net target) s s' o o' w w' leaves ran = asks_nothing w w' leaves
CommandRan-wire_all (migrate keys target) s s' o o' w w' leaves ran = asks_nothing w w' leaves
CommandRan-wire_all (replay net workers) s s' o o' w w' leaves ran = asks_nothing w w' leaves
CommandRan-wire_all (logs net) s s' o o' w w' leaves ran = asks_nothing w w' leaves
CommandRan-wire_all (twin net perm target) s s' o o' w w' leaves ran = asks_nothing w w' leaves
CommandRan-wire_all (steer net u v wanted target) s s' o o' w w' leaves ran = asks_nothing w w' leaves
CommandRan-wire_all (trial seed stations count workers) s s' o o' w w' leaves ran = asks_nothing w w' leaves

still_wire : (command : Task) (w w' : WireState) → wire_asks command ≡ [] → LeavesWire command w w' → w' ≡ w
still_wire (station addr id keys stream) w w' e leaves = absurd cc
still_wire (hub addr stations count target) w w' e leaves = absurd cc
still_wire (sum file) w w' e leaves = leaves
still_wire (keygen seed net target) w w' e leaves = leaves
still_wire (keygen_seeds seed net target) w w' e leaves = leaves
still_wire (migrate keys target) w w' e leaves = leaves
still_wire (replay net workers) w w' e leaves = leaves
still_wire (logs net) w w' e leaves = leaves
still_wire (twin net perm target) w w' e leaves = leaves
still_wire (steer net u v wanted target) w w' e leaves = leaves
still_wire (trial seed stations count workers) w w' e leaves = leaves

untouched_wire : (words : List (List ℕ)) (s s' : ShelfState) (o o' : SinkState) (w w' : WireState) (outcome : Outcome) → is_form words ≡ false → Ran words s s' o o' w w' outcome → w' ≡ w
untouched_wire words s s' o o' w w' (Usage place) refused ran = ran.wire_stays
untouched_wire words s s' o o' w w' _ refused ran = absurd (not_both words ran.command ran.spelled refused)

leaves_run : (c : Call) (command : Task) → Spells c.words command → HasRun c → LeavesWire command c.wire c.wire'
leaves_run c command p ran = leaves_of c.words command c.shelf c.shelf' c.out c.out' c.wire c.wire' c.outcome p ran

wire_all : (c : Call) (command : Task) → c.outcome ≡ Done → LeavesWire command c.wire c.wire' → CommandRan command c.shelf c.shelf' c.out c.out' c.wire c.wire' c.outcome
    → c.wire'.asked ≡ grown c.wire.asked (wire_asks command)
wire_all c command e leaves ran =
    let P : Outcome → Type 0 = λ x. CommandRan command c.shelf c.shelf' c.out c.out' c.wire c.wire' x in
    CommandRan-wire_all command c.shelf c.shelf' c.out c.out' c.wire c.wire' leaves (subst P e ran)

pub AsksWire-run : (c : Call) → HasRun c → AsksWire c
AsksWire-run c ran = record {
  front = λ command p. CommandRan-wire command c.shelf c.shelf' c.out c.out' c.wire c.wire' c.outcome (leaves_run c command p ran) (HasRun-as c command p ran);
  whole = λ command p e. wire_all c command e (leaves_run c command p ran) (HasRun-as c command p ran);
  still = λ command p e. still_wire command c.wire c.wire' e (leaves_run c command p ran);
  none = λ refused. untouched_wire c.words c.shelf c.shelf' c.out c.out' c.wire c.wire' c.outcome refused ran;
}

pub PlaysStations-run : (c : Call) → HasRun c → PlaysStations c
PlaysStations-run c ran = λ addr id keys stream p. StationAnswer-ran c addr id keys stream (HasRun-as c (station addr id keys stream) p ran)

pub CompletesStations-run : (c : Call) → HasRun c → CompletesStations c
CompletesStations-run c ran = λ addr id keys stream p. CompletesStation-ran c addr id keys stream (HasRun-as c (station addr id keys stream) p ran)

pub HostsSessions-run : (c : Call) → HasRun c → HostsSessions c
HostsSessions-run c ran = λ addr stations words target p. HubAnswer-ran c addr stations words target (HasRun-as c (hub addr stations words target) p ran)

pub CompletesHubs-run : (c : Call) → HasRun c → CompletesHubs c
CompletesHubs-run c ran = λ addr stations words target p gives calm_shelf calm_sink.
    HubRan-completes addr stations words target c.shelf c.shelf' c.out c.out' c.wire c.wire' c.outcome gives calm_shelf calm_sink (HasRun-as c (hub addr stations words target) p ran)

pub SessionsAreRuns-run : (c : Call) → RecordedLive → HasRun c → SessionsAreRuns c
SessionsAreRuns-run c law ran = λ e addr stations words target p.
    let P : Outcome → Type 0 = λ x. HubAnswer c addr stations words target x in
    RunsAsNets-ran c addr stations words target law (subst P e (HostsSessions-run c ran addr stations words target p))
