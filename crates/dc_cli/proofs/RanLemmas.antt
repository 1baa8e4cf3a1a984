-- What a command did is what the call did.
use Rattle.std.proofs.Common.{◌≡◌, ◌≤◌, ◌*◌, ◌/◌, ℕ, List, Option, None, Some, arith}
use Rattle.std.proofs.Math.Nat.{mul-div-le, min-le_left, min-le_right, mul-le-mul_left, le_trans}
use Rattle.std.proofs.lemmas.Grind.{common_steps}
use Rattle.dc_spec.specs.Outside.{ShelfState, SinkState, WireState}
use Rattle.dc_field.specs.NumberInText.{number_in}
use Rattle.dc_spec.specs.Limits.{most_stations, most_words}
use Rattle.dc_cli.specs.Forms.{where_between, most_words_of}
use Rattle.dc_cli.specs.Commands.{Task, sum, keygen, keygen_seeds, migrate, replay, logs, twin, steer, station, hub, trial, SpellsWorkers, unsaid, said, Spells, IsRunnable}
use Rattle.dc_cli.specs.Ran.{Ran, CommandRan, LeavesWire}
use Rattle.dc_run_texts.specs.View.{view_text}
use Rattle.dc_run_texts.specs.Logs.{logs_text}
use Rattle.dc_cli.specs.Twinning.{twinning}
use Rattle.dc_cli.specs.Steering.{steering}
use Rattle.dc_cli.proofs.AlteringLemmas.{AltersOf-usage}
use Rattle.dc_cli.proofs.ReplayLemmas.{NetRan-usage}
use Rattle.dc_cli.proofs.PlayingLemmas.{StationRan-usage}
use Rattle.dc_cli.proofs.HostingLemmas.{HubRan-usage}
use Rattle.dc_cli.proofs.TrialLemmas.{TrialRan-usage}
use Rattle.dc_cli.specs.declared.outcome.Outcome.{Outcome}
use Rattle.dc_cli.specs.declared.outcome.Outcome.TheVariants.{Usage}

-- no command ends as words that are not a form do
CommandRan-usage : (command : Task) (s s' : ShelfState) (o o' : SinkState) (w w' : WireState) (place : ℕ) → CommandRan command s s' o o' w w' (Usage place) → ⊥
CommandRan-usage (sum file) s s' o o' w w' place ran = ran.1
CommandRan-usage (keygen seed net target) s s' o o' w w' place ran = ran.1
CommandRan-usage (keygen_seeds seed net target) s s' o o' w w' place ran = ran.1
CommandRan-usage (migrate keys target) s s' o o' w w' place ran = ran.1
CommandRan-usage (replay net workers) s s' o o' w w' place ran = NetRan-usage view_text net s s' o o' place ran
CommandRan-usage (logs net) s s' o o' w w' place ran = NetRan-usage logs_text net s s' o o' place ran
CommandRan-usage (twin net perm target) s s' o o' w w' place ran = AltersOf-usage net (twinning perm target) s s' o o' place ran
CommandRan-usage (steer net u v wanted target) s s' o o' w w' place ran = AltersOf-usage net (steering u v wanted target) s s' o o' place ran
CommandRan-usage (station addr id keys stream) s s' o o' w w' place ran = StationRan-usage addr id keys stream s s' o o' w w' place ran
CommandRan-usage (hub addr stations count target) s s' o o' w w' place ran = HubRan-usage addr stations count target s s' o o' w w' place ran
CommandRan-usage (trial seed stations count workers) s s' o o' w w' place ran = TrialRan-usage seed stations count place o o' ran.1

pub Ran-command : (words : List (List ℕ)) (command : Task) (s s' : ShelfState) (o o' : SinkState) (w w' : WireState) (outcome : Outcome) → Spells words command → LeavesWire command w w' → CommandRan command s s' o o' w w' outcome
    → Ran words s s' o o' w w' outcome
Ran-command words command s s' o o' w w' (Usage place) spelled leaves ran = absurd (CommandRan-usage command s s' o o' w w' place ran)
Ran-command words command s s' o o' w w' other spelled leaves ran = record { command = command; spelled = spelled; leaves = leaves; ran = ran }

-- a number within its limits
pub between_limits : (low high : ℕ) (o : Option ℕ) (n : ℕ) → where_between low high o ≡ Some n → (low ≤ n) × (n ≤ high)
between_limits low high None n e = absurd cc
between_limits low high (Some m) n e = grind (arith, common_steps)

workers_limits : (words : List (List ℕ)) (workers : ℕ) → SpellsWorkers words workers → (1 ≤ workers) × (workers ≤ 64)
workers_limits words workers (unsaid none one) = (omega (arith, one), omega (arith, one))
workers_limits words workers (said digits are number) = between_limits 1 64 (number_in digits) workers number

pub Spells-runnable : (words : List (List ℕ)) (command : Task) → Spells words command → IsRunnable command
Spells-runnable words (sum file) p = tt
Spells-runnable words (keygen seed net target) p = tt
Spells-runnable words (keygen_seeds seed net target) p = tt
Spells-runnable words (migrate keys target) p = tt
Spells-runnable words (replay net workers) p = workers_limits p.2.rest workers p.2.workers_are
Spells-runnable words (logs net) p = tt
Spells-runnable words (twin net perm target) p = tt
Spells-runnable words (steer net u v wanted target) p = tt
Spells-runnable words (station addr id keys stream) p = tt
Spells-runnable words (hub addr stations count target) p =
    let hosted = p.2.hosted in
    let some = between_limits 1 most_stations (number_in hosted.digits) stations hosted.stations_are in
    let few = between_limits 1 most_words (number_in hosted.length.digits) count hosted.length.count_is in
    (some.0, some.1, few.0, few.1)
Spells-runnable words (trial seed stations count workers) p =
    let q = p.2 in
    let some = between_limits 1 most_stations (number_in q.of_stations) stations q.stations_are in
    let few = between_limits 1 (most_words_of stations) (number_in q.of_count) count q.count_is in
    let most : count ≤ most_words = le_trans few.1 (min-le_left most_words (524288 / stations)) in
    let share : count ≤ 524288 / stations = le_trans few.1 (min-le_right most_words (524288 / stations)) in
    let size : stations * count ≤ 524288 = le_trans (mul-le-mul_left stations share) (mul-div-le 524288 stations) in
    let limits = workers_limits q.rest workers q.workers_are in
    (some.0, some.1, few.0, most, size, limits.0, limits.1)
