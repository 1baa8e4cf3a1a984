-- The promises of a call follow from what it did by its outcome.
use Rattle.std.proofs.Common.{◌≡◌, ◌≤◌, ◌⊎◌, ℕ, false, List, [], ◌∷◌, length, Some, Result, Ok, Err, inl, inr, refl, sym, ap, ◌∙◌, subst, arith}
use Rattle.dc_spec.specs.Outside.{ShelfState, SinkState, WireState, absent, held, Rose, grown}
use Rattle.dc_spec.specs.Limits.{transcript_limit, manifest_limit, key_file_limit}
use Rattle.dc_spec.specs.Pads.{Keys as PadKeys}
use Rattle.dc_spec.specs.Recorded.{Recorded, IsRecorded, transcript_bytes, superposed}
use Rattle.dc_spec.specs.Text.{words_text}
use Rattle.dc_formats.specs.KeyFile.{keys_bytes}
use Rattle.dc_formats.proofs.Sizes.{transcript_size}
use Rattle.dc_edge.specs.Shelf.{IsHeldAbove, FailsUntold, rewritten}
use Rattle.dc_edge.proofs.PutLemmas.{grown-nothing}
use Rattle.dc_keyfile.specs.Reading.{keys_from_bytes}
use Rattle.dc_keyfile.specs.declared.fault.KeyFault.{KeyFault}
use Rattle.dc_manifest.specs.Content.{Content}
use Rattle.dc_manifest.specs.Reading.{manifest_of}
use Rattle.dc_manifest.specs.declared.fault.ManifestFault.{ManifestFault}
use Rattle.dc_run_texts.specs.View.{view_text}
use Rattle.dc_run_texts.specs.Logs.{logs_text}
use Rattle.dc_superpose.specs.Reading.{transcript_of}
use Rattle.dc_superpose.specs.declared.fault.TranscriptFault.{TranscriptFault}
use Rattle.dc_cli.specs.Forms.{is_form, longest_begun}
use Rattle.dc_cli.specs.Commands.{Task, sum, keygen, keygen_seeds, migrate, replay, logs, twin, steer, station, hub, trial, Spells}
use Rattle.dc_cli.specs.Summing.{SummedFile, SumRan, Refused}
use Rattle.dc_cli.specs.Making.{Making, MakesOf}
use Rattle.dc_cli.specs.Keygen.{key_file_for, keys_for, keygen_making}
use Rattle.dc_cli.specs.declared.keygen.KeyMaterial.{KeyMaterial}
use Rattle.dc_cli.specs.declared.keygen.KeyMaterial.TheVariants.{Pads, Seeds}
use Rattle.dc_cli.specs.Migrating.{pads_for, migrate_making}
use Rattle.dc_cli.specs.Twinning.{twinning}
use Rattle.dc_cli.specs.Steering.{steering}
use Rattle.dc_cli.specs.Altering.{Alteration}
use Rattle.dc_cli.specs.Alterations.{AltersPads, alteration_of, AltersNets}
use Rattle.dc_cli.specs.Ran.{Ran, CommandRan}
use Rattle.dc_cli.specs.Promises.{Call, AsksFor, RefusesOtherWords, Leaves, KeepsFiles, AsksInOrder, PrintsOnlyWhenDone, PrintsSums, HasLimit, TellsName, TellsTheLast, MissesTheAbsent, RefusesTheLong, TellsTheFault, RefusesTheMalformed, HasCauses, Completes, MakesFile, making_of, MakesFiles, WritesKeys, WritesSeeds, WritesPads, PrintsView, PrintsLogs, RunsNets, RunsLogs, PrintsSummary, RunsTrials}
use Rattle.dc_cli.specs.declared.outcome.FileFault.{FileFault}
use Rattle.dc_cli.specs.declared.outcome.FileFault.TheVariants.{Transcript, Keys, Manifest, Stream, Script, List as Listed}
use Rattle.dc_cli.specs.declared.outcome.Outcome.{Outcome}
use Rattle.dc_cli.specs.declared.outcome.Outcome.TheVariants.{Done, Usage, Missing, TooLong, Malformed, Disagree, Refused as Refusing, ShelfFault, SinkFault, WireFault, Peer, NoMemory}
use Rattle.dc_cli.proofs.ShelfLemmas.{told_bytes, held_is_there, held_within, AskedUpTo, asked_none, asked_first, LastAsked, last_is}
use Rattle.dc_cli.proofs.ReplayLemmas.{NetRan-kept, NetRan-asked, NetRan-asked_all, NetRan-silent, NetRan-missing, NetRan-long, NetRan-transcript, NetRan-last, NetRan-shelf_rose, NetRan-sink_rose, NetRan-no_wire, NetRan-prints, NetRan-completes}
use Rattle.dc_cli.proofs.SpelledLemmas.{not_both, same_command}
use Rattle.dc_cli.proofs.TrialLemmas.{TrialRan-silent, TrialRan-prints, TrialRan-sink_rose, TrialRan-completes, TrialRan-untold, counts_all}
use Rattle.dc_cli.proofs.PlayingLemmas.{StationRan-kept, StationRan-asked, StationRan-asked_all, StationRan-silent, StationRan-missing, StationRan-long, StationRan-transcript, StationRan-last, StationRan-shelf_rose, StationRan-sink_rose, StationRan-wire_rose}
use Rattle.dc_cli.proofs.HostingLemmas.{HubRan-leaves, HubRan-asked, HubRan-asked_all, HubRan-silent, HubRan-untold, HubRan-shelf_rose, HubRan-sink_rose, HubRan-wire_rose}
use Rattle.dc_cli.proofs.RanLemmas.{Spells-runnable}
use Rattle.dc_cli.proofs.AlteringLemmas.{AltersOf-leaves, AltersOf-asked, AltersOf-asked_all, AltersOf-silent, AltersOf-missing, AltersOf-long, AltersOf-transcript, AltersOf-last, AltersOf-shelf_rose, AltersOf-sink_rose, AltersOf-no_wire, AltersPads-ran}
use Rattle.dc_cli.proofs.MakingLemmas.{MakesOf-leaves, MakesOf-asked, MakesOf-asked_all, MakesOf-last, MakesOf-rose, MakesOf-missing, MakesOf-long, MakesOf-written, MakesOf-fault, MakesOf-completes, MakesOf-refuses}

refused_words : (words : List (List ℕ)) (s s' : ShelfState) (o o' : SinkState) (w w' : WireState) (outcome : Outcome) → Ran words s s' o o' w w' outcome → is_form words ≡ false → outcome ≡ Usage (longest_begun words)
refused_words words s s' o o' w w' (Usage place) ran refused = ap Usage ran.place_is
refused_words words s s' o o' w w' _ ran refused = absurd (not_both words ran.command ran.spelled refused)

usage_words : (words : List (List ℕ)) (s s' : ShelfState) (o o' : SinkState) (w w' : WireState) (outcome : Outcome) (place : ℕ) → Ran words s s' o o' w w' outcome → outcome ≡ Usage place → is_form words ≡ false
usage_words words s s' o o' w w' (Usage seen) place ran e = ran.no_form
usage_words words s s' o o' w w' _ place ran e = absurd cc

SummedFile-kept : (file : List ℕ) (s s' : ShelfState) (r : Result (List (List ℕ)) Outcome) → SummedFile file s s' r → s'.holds ≡ s.holds
SummedFile-kept file s s' (Ok words) p = p.read.kept
SummedFile-kept file s s' (Err (Missing name)) p = p.1.kept
SummedFile-kept file s s' (Err (TooLong name)) p = p.1.kept
SummedFile-kept file s s' (Err (Malformed name (Transcript fault))) p = p.1.read.kept
SummedFile-kept file s s' (Err (Malformed name (Keys fault))) p = absurd p
SummedFile-kept file s s' (Err (Malformed name (Manifest fault))) p = absurd p
SummedFile-kept file s s' (Err (Malformed name (Stream fault))) p = absurd p
SummedFile-kept file s s' (Err (Malformed name (Script fault))) p = absurd p
SummedFile-kept file s s' (Err (Malformed name (Listed fault))) p = absurd p
SummedFile-kept file s s' (Err ShelfFault) p = p.kept
SummedFile-kept file s s' (Err NoMemory) p = elim p [ inl u ↦ u.0 | inr g ↦ g.read.kept ]
SummedFile-kept file s s' (Err Done) p = absurd p
SummedFile-kept file s s' (Err (Usage place)) p = absurd p
SummedFile-kept file s s' (Err (Disagree fault)) p = absurd p
SummedFile-kept file s s' (Err (Refusing fault)) p = absurd p
SummedFile-kept file s s' (Err SinkFault) p = absurd p
SummedFile-kept file s s' (Err WireFault) p = absurd p
SummedFile-kept file s s' (Err (Peer who fault)) p = absurd p

SumRan-kept : (file : List ℕ) (s s' : ShelfState) (o o' : SinkState) (outcome : Outcome) → SumRan file s s' o o' outcome → s'.holds ≡ s.holds
SumRan-kept file s s' o o' Done p = p.summed.read.kept
SumRan-kept file s s' o o' SinkFault p = p.1.summed.read.kept
SumRan-kept file s s' o o' other p = SummedFile-kept file s s' (Err other) p.1

SummedFile-asked : (file : List ℕ) (s s' : ShelfState) (r : Result (List (List ℕ)) Outcome) → SummedFile file s s' r → AskedUpTo (file ∷ []) s s'
SummedFile-asked file s s' (Ok words) p = asked_first file [] s s' p.read.asked
SummedFile-asked file s s' (Err (Missing name)) p = asked_first file [] s s' p.1.asked
SummedFile-asked file s s' (Err (TooLong name)) p = asked_first file [] s s' p.1.asked
SummedFile-asked file s s' (Err (Malformed name (Transcript fault))) p = asked_first file [] s s' p.1.read.asked
SummedFile-asked file s s' (Err (Malformed name (Keys fault))) p = absurd p
SummedFile-asked file s s' (Err (Malformed name (Manifest fault))) p = absurd p
SummedFile-asked file s s' (Err (Malformed name (Stream fault))) p = absurd p
SummedFile-asked file s s' (Err (Malformed name (Script fault))) p = absurd p
SummedFile-asked file s s' (Err (Malformed name (Listed fault))) p = absurd p
SummedFile-asked file s s' (Err ShelfFault) p = asked_first file [] s s' p.asked
SummedFile-asked file s s' (Err NoMemory) p = elim p [ inl u ↦ asked_none (file ∷ []) s s' u.1 | inr g ↦ asked_first file [] s s' g.read.asked ]
SummedFile-asked file s s' (Err Done) p = absurd p
SummedFile-asked file s s' (Err (Usage place)) p = absurd p
SummedFile-asked file s s' (Err (Disagree fault)) p = absurd p
SummedFile-asked file s s' (Err (Refusing fault)) p = absurd p
SummedFile-asked file s s' (Err SinkFault) p = absurd p
SummedFile-asked file s s' (Err WireFault) p = absurd p
SummedFile-asked file s s' (Err (Peer who fault)) p = absurd p

SumRan-asked : (file : List ℕ) (s s' : ShelfState) (o o' : SinkState) (outcome : Outcome) → SumRan file s s' o o' outcome → AskedUpTo (file ∷ []) s s'
SumRan-asked file s s' o o' Done p = asked_first file [] s s' p.summed.read.asked
SumRan-asked file s s' o o' SinkFault p = asked_first file [] s s' p.1.summed.read.asked
SumRan-asked file s s' o o' other p = SummedFile-asked file s s' (Err other) p.1

-- what the command of the words did
ran_of : (words : List (List ℕ)) (command : Task) (s s' : ShelfState) (o o' : SinkState) (w w' : WireState) (outcome : Outcome) → Spells words command → Ran words s s' o o' w w' outcome
    → CommandRan command s s' o o' w w' outcome
ran_of words command s s' o o' w w' (Usage place) p ran = absurd (not_both words command p ran.no_form)
ran_of words command s s' o o' w w' other p ran =
    let P : Task → Type 0 = λ c. CommandRan c s s' o o' w w' other in
    subst P (same_command words ran.command command ran.spelled p) ran.ran

CommandRan-leaves : (command : Task) (s s' : ShelfState) (o o' : SinkState) (w w' : WireState) (outcome : Outcome) → CommandRan command s s' o o' w w' outcome → Leaves command outcome s s'
CommandRan-leaves (sum file) s s' o o' w w' outcome ran = SumRan-kept file s s' o o' outcome ran
CommandRan-leaves (keygen seed net target) s s' o o' w w' outcome ran = MakesOf-leaves (keygen_making Pads seed net target) s s' outcome ran.1
CommandRan-leaves (keygen_seeds seed net target) s s' o o' w w' outcome ran = MakesOf-leaves (keygen_making Seeds seed net target) s s' outcome ran.1
CommandRan-leaves (migrate keys target) s s' o o' w w' outcome ran = MakesOf-leaves (migrate_making keys target) s s' outcome ran.1
CommandRan-leaves (replay net workers) s s' o o' w w' outcome ran = NetRan-kept view_text net s s' o o' outcome ran
CommandRan-leaves (logs net) s s' o o' w w' outcome ran = NetRan-kept logs_text net s s' o o' outcome ran
CommandRan-leaves (twin net perm target) s s' o o' w w' outcome ran = AltersOf-leaves net (twinning perm target) s s' o o' outcome ran
CommandRan-leaves (steer net u v wanted target) s s' o o' w w' outcome ran = AltersOf-leaves net (steering u v wanted target) s s' o o' outcome ran
CommandRan-leaves (station addr id keys stream) s s' o o' w w' outcome ran = StationRan-kept addr id keys stream s s' o o' w w' outcome ran
CommandRan-leaves (hub addr stations count target) s s' o o' w w' outcome ran = HubRan-leaves addr stations count target s s' o o' w w' outcome ran
CommandRan-leaves (trial seed stations count workers) s s' o o' w w' outcome ran = ap (λ (x : ShelfState). x.holds) ran.0

kept_unread : (words : List (List ℕ)) (s s' : ShelfState) (o o' : SinkState) (w w' : WireState) (outcome : Outcome) → is_form words ≡ false → Ran words s s' o o' w w' outcome → s'.holds ≡ s.holds
kept_unread words s s' o o' w w' (Usage place) refused ran = ap (λ (x : ShelfState). x.holds) ran.shelf_stays
kept_unread words s s' o o' w w' _ refused ran = absurd (not_both words ran.command ran.spelled refused)

CommandRan-asked : (command : Task) (s s' : ShelfState) (o o' : SinkState) (w w' : WireState) (outcome : Outcome) → CommandRan command s s' o o' w w' outcome
    → (files : List (List ℕ)) × AsksFor s command files × AskedUpTo files s s'
CommandRan-asked (sum file) s s' o o' w w' outcome ran = (file ∷ [], refl, SumRan-asked file s s' o o' outcome ran)
CommandRan-asked (keygen seed net target) s s' o o' w w' outcome ran = (net ∷ target ∷ [], refl, MakesOf-asked (keygen_making Pads seed net target) s s' outcome ran.1)
CommandRan-asked (keygen_seeds seed net target) s s' o o' w w' outcome ran = (net ∷ target ∷ [], refl, MakesOf-asked (keygen_making Seeds seed net target) s s' outcome ran.1)
CommandRan-asked (migrate keys target) s s' o o' w w' outcome ran = (keys ∷ target ∷ [], refl, MakesOf-asked (migrate_making keys target) s s' outcome ran.1)
CommandRan-asked (replay net workers) s s' o o' w w' outcome ran = NetRan-asked view_text net s s' o o' outcome ran
CommandRan-asked (logs net) s s' o o' w w' outcome ran = NetRan-asked logs_text net s s' o o' outcome ran
CommandRan-asked (twin net perm target) s s' o o' w w' outcome ran = AltersOf-asked net (twinning perm target) s s' o o' outcome ran
CommandRan-asked (steer net u v wanted target) s s' o o' w w' outcome ran = AltersOf-asked net (steering u v wanted target) s s' o o' outcome ran
CommandRan-asked (station addr id keys stream) s s' o o' w w' outcome ran = StationRan-asked addr id keys stream s s' o o' w w' outcome ran
CommandRan-asked (hub addr stations count target) s s' o o' w w' outcome ran = (target ∷ [], refl, HubRan-asked addr stations count target s s' o o' w w' outcome ran)
CommandRan-asked (trial seed stations count workers) s s' o o' w w' outcome ran = ([], refl, asked_none [] s s' (ap (λ (x : ShelfState). x.asked) ran.0))

CommandRan-asked_all : (command : Task) (s s' : ShelfState) (o o' : SinkState) (w w' : WireState) → CommandRan command s s' o o' w w' Done
    → (files : List (List ℕ)) × AsksFor s command files × (s'.asked ≡ grown s.asked files)
CommandRan-asked_all (sum file) s s' o o' w w' ran = (file ∷ [], refl, ran.summed.read.asked)
CommandRan-asked_all (keygen seed net target) s s' o o' w w' ran = (net ∷ target ∷ [], refl, MakesOf-asked_all (keygen_making Pads seed net target) s s' ran.1)
CommandRan-asked_all (keygen_seeds seed net target) s s' o o' w w' ran = (net ∷ target ∷ [], refl, MakesOf-asked_all (keygen_making Seeds seed net target) s s' ran.1)
CommandRan-asked_all (migrate keys target) s s' o o' w w' ran = (keys ∷ target ∷ [], refl, MakesOf-asked_all (migrate_making keys target) s s' ran.1)
CommandRan-asked_all (replay net workers) s s' o o' w w' ran = NetRan-asked_all view_text net s s' o o' ran
CommandRan-asked_all (logs net) s s' o o' w w' ran = NetRan-asked_all logs_text net s s' o o' ran
CommandRan-asked_all (twin net perm target) s s' o o' w w' ran = AltersOf-asked_all net (twinning perm target) s s' o o' ran
CommandRan-asked_all (steer net u v wanted target) s s' o o' w w' ran = AltersOf-asked_all net (steering u v wanted target) s s' o o' ran
CommandRan-asked_all (station addr id keys stream) s s' o o' w w' ran = StationRan-asked_all addr id keys stream s s' o o' w w' ran
CommandRan-asked_all (hub addr stations count target) s s' o o' w w' ran = (target ∷ [], refl, HubRan-asked_all addr stations count target s s' o o' w w' ran)
CommandRan-asked_all (trial seed stations count workers) s s' o o' w w' ran = ([], refl, ap (λ (x : ShelfState). x.asked) ran.0 ∙ grown-nothing s.asked)

asked_all : (command : Task) (s s' : ShelfState) (o o' : SinkState) (w w' : WireState) (outcome : Outcome) → outcome ≡ Done → CommandRan command s s' o o' w w' outcome
    → (files : List (List ℕ)) × AsksFor s command files × (s'.asked ≡ grown s.asked files)
asked_all command s s' o o' w w' outcome e ran = let P : Outcome → Type 0 = λ x. CommandRan command s s' o o' w w' x in CommandRan-asked_all command s s' o o' w w' (subst P e ran)

asked_nothing : (words : List (List ℕ)) (s s' : ShelfState) (o o' : SinkState) (w w' : WireState) (outcome : Outcome) → is_form words ≡ false → Ran words s s' o o' w w' outcome → s'.asked ≡ s.asked
asked_nothing words s s' o o' w w' (Usage place) refused ran = ap (λ (x : ShelfState). x.asked) ran.shelf_stays
asked_nothing words s s' o o' w w' _ refused ran = absurd (not_both words ran.command ran.spelled refused)

-- where neither all was done nor the output failed
SumRan-silent : (file : List ℕ) (s s' : ShelfState) (o o' : SinkState) (outcome : Outcome) → (outcome ≡ Done → ⊥) → (outcome ≡ SinkFault → ⊥) → SumRan file s s' o o' outcome → o' ≡ o
SumRan-silent file s s' o o' Done not_done not_sink p = absurd (not_done refl)
SumRan-silent file s s' o o' SinkFault not_done not_sink p = absurd (not_sink refl)
SumRan-silent file s s' o o' other not_done not_sink p = p.0

CommandRan-silent : (command : Task) (s s' : ShelfState) (o o' : SinkState) (w w' : WireState) (outcome : Outcome) → (outcome ≡ Done → ⊥) → (outcome ≡ SinkFault → ⊥) → CommandRan command s s' o o' w w' outcome → o' ≡ o
CommandRan-silent (sum file) s s' o o' w w' outcome not_done not_sink p = SumRan-silent file s s' o o' outcome not_done not_sink p
CommandRan-silent (keygen seed net target) s s' o o' w w' outcome not_done not_sink p = p.0
CommandRan-silent (keygen_seeds seed net target) s s' o o' w w' outcome not_done not_sink p = p.0
CommandRan-silent (migrate keys target) s s' o o' w w' outcome not_done not_sink p = p.0
CommandRan-silent (replay net workers) s s' o o' w w' outcome not_done not_sink p = NetRan-silent view_text net s s' o o' outcome not_done not_sink p
CommandRan-silent (logs net) s s' o o' w w' outcome not_done not_sink p = NetRan-silent logs_text net s s' o o' outcome not_done not_sink p
CommandRan-silent (twin net perm target) s s' o o' w w' outcome not_done not_sink p = AltersOf-silent net (twinning perm target) s s' o o' outcome not_done not_sink p
CommandRan-silent (steer net u v wanted target) s s' o o' w w' outcome not_done not_sink p = AltersOf-silent net (steering u v wanted target) s s' o o' outcome not_done not_sink p
CommandRan-silent (station addr id keys stream) s s' o o' w w' outcome not_done not_sink p = StationRan-silent addr id keys stream s s' o o' w w' outcome not_done not_sink p
CommandRan-silent (hub addr stations count target) s s' o o' w w' outcome not_done not_sink p = HubRan-silent addr stations count target s s' o o' w w' outcome not_done not_sink p
CommandRan-silent (trial seed stations count workers) s s' o o' w w' outcome not_done not_sink p = TrialRan-silent seed stations count o o' outcome not_done not_sink p.1

silent : (words : List (List ℕ)) (s s' : ShelfState) (o o' : SinkState) (w w' : WireState) (outcome : Outcome) → (outcome ≡ Done → ⊥) → (outcome ≡ SinkFault → ⊥) → Ran words s s' o o' w w' outcome → o' ≡ o
silent words s s' o o' w w' (Usage place) not_done not_sink ran = ran.out_stays
silent words s s' o o' w w' other not_done not_sink ran = CommandRan-silent ran.command s s' o o' w w' other not_done not_sink ran.ran

-- what `sum` printed where all was done
done_prints : (file bytes : List ℕ) (s s' : ShelfState) (o o' : SinkState) → s.holds file ≡ held bytes → SumRan file s s' o o' Done
    → (session : Recorded) × IsRecorded session × (bytes ≡ transcript_bytes session) × (o'.written ≡ grown o.written (words_text (superposed session)))
done_prints file bytes s s' o o' told p =
    let summed = p.summed.holds in
    let same : p.summed.bytes ≡ bytes = told_bytes (s.holds file) bytes p.summed.bytes told p.summed.read.answer.1 in
    (summed.session, summed.recorded, sym same ∙ summed.spelled, p.put.answer ∙ ap (λ (ws : List (List ℕ)). grown o.written (words_text ws)) summed.sums)

done_as : (file : List ℕ) (s s' : ShelfState) (o o' : SinkState) (outcome : Outcome) → outcome ≡ Done → SumRan file s s' o o' outcome → SumRan file s s' o o' Done
done_as file s s' o o' outcome e p = let P : Outcome → Type 0 = λ x. SumRan file s s' o o' x in subst P e p

missing_cause : (command : Task) (s s' : ShelfState) (o o' : SinkState) (w w' : WireState) (name : List ℕ) → CommandRan command s s' o o' w w' (Missing name)
    → (s.holds name ≡ absent) ⊎ FailsUntold (s.holds name) s.faults s'.faults
missing_cause (sum file) s s' o o' w w' name ran = rw ran.1.0 ran.1.1.answer
missing_cause (keygen seed net target) s s' o o' w w' name ran = MakesOf-missing (keygen_making Pads seed net target) s s' name ran.1
missing_cause (keygen_seeds seed net target) s s' o o' w w' name ran = MakesOf-missing (keygen_making Seeds seed net target) s s' name ran.1
missing_cause (migrate keys target) s s' o o' w w' name ran = MakesOf-missing (migrate_making keys target) s s' name ran.1
missing_cause (replay net workers) s s' o o' w w' name ran = NetRan-missing view_text net name s s' o o' ran
missing_cause (logs net) s s' o o' w w' name ran = NetRan-missing logs_text net name s s' o o' ran
missing_cause (twin net perm target) s s' o o' w w' name ran = AltersOf-missing net (twinning perm target) name s s' o o' ran
missing_cause (steer net u v wanted target) s s' o o' w w' name ran = AltersOf-missing net (steering u v wanted target) name s s' o o' ran
missing_cause (station addr id keys stream) s s' o o' w w' name ran = StationRan-missing addr id keys stream name s s' o o' w w' ran
missing_cause (hub addr stations count target) s s' o o' w w' name ran = absurd (HubRan-untold addr stations count target s s' o o' w w' (Missing name) name (inl refl) ran)
missing_cause (trial seed stations count workers) s s' o o' w w' name ran = absurd ran.1

missing : (words : List (List ℕ)) (s s' : ShelfState) (o o' : SinkState) (w w' : WireState) (outcome : Outcome) (name : List ℕ) → outcome ≡ Missing name → Ran words s s' o o' w w' outcome
    → (s.holds name ≡ absent) ⊎ FailsUntold (s.holds name) s.faults s'.faults
missing words s s' o o' w w' outcome name e ran =
    let P : Outcome → Type 0 = λ x. Ran words s s' o o' w w' x in
    let r : Ran words s s' o o' w w' (Missing name) = subst P e ran in
    missing_cause r.command s s' o o' w w' name r.ran

long_cause : (command : Task) (s s' : ShelfState) (o o' : SinkState) (w w' : WireState) (name : List ℕ) → CommandRan command s s' o o' w w' (TooLong name)
    → (limit : ℕ) × HasLimit s command name limit × (IsHeldAbove (s.holds name) limit ⊎ FailsUntold (s.holds name) s.faults s'.faults)
long_cause (sum file) s s' o o' w w' name ran = (transcript_limit, (ran.1.0, refl), rw ran.1.0 ran.1.1.answer)
long_cause (keygen seed net target) s s' o o' w w' name ran = (manifest_limit, (ran.1.0, refl), MakesOf-long (keygen_making Pads seed net target) s s' name ran.1)
long_cause (keygen_seeds seed net target) s s' o o' w w' name ran = (manifest_limit, (ran.1.0, refl), MakesOf-long (keygen_making Seeds seed net target) s s' name ran.1)
long_cause (migrate keys target) s s' o o' w w' name ran = (key_file_limit, (ran.1.0, refl), MakesOf-long (migrate_making keys target) s s' name ran.1)
long_cause (replay net workers) s s' o o' w w' name ran = NetRan-long view_text net name s s' o o' ran
long_cause (logs net) s s' o o' w w' name ran = NetRan-long logs_text net name s s' o o' ran
long_cause (twin net perm target) s s' o o' w w' name ran = AltersOf-long net (twinning perm target) name s s' o o' ran
long_cause (steer net u v wanted target) s s' o o' w w' name ran = AltersOf-long net (steering u v wanted target) name s s' o o' ran
long_cause (station addr id keys stream) s s' o o' w w' name ran = StationRan-long addr id keys stream name s s' o o' w w' ran
long_cause (hub addr stations count target) s s' o o' w w' name ran = absurd (HubRan-untold addr stations count target s s' o o' w w' (TooLong name) name (inr (inl refl)) ran)
long_cause (trial seed stations count workers) s s' o o' w w' name ran = absurd ran.1

too_long : (command : Task) (s s' : ShelfState) (o o' : SinkState) (w w' : WireState) (outcome : Outcome) (name : List ℕ) → outcome ≡ TooLong name → CommandRan command s s' o o' w w' outcome
    → (limit : ℕ) × HasLimit s command name limit × (IsHeldAbove (s.holds name) limit ⊎ FailsUntold (s.holds name) s.faults s'.faults)
too_long command s s' o o' w w' outcome name e ran = let P : Outcome → Type 0 = λ x. CommandRan command s s' o o' w w' x in long_cause command s s' o o' w w' name (subst P e ran)

-- no fault of a transcript is that of a manifest or of a key file
no_fault_for_keys : (material : KeyMaterial) (seed : List ℕ) (r : Result Content ManifestFault) (fault : TranscriptFault) → keys_for material seed r ≡ Err (Transcript fault) → ⊥
no_fault_for_keys material seed (Ok content) fault e = cc
no_fault_for_keys material seed (Err seen) fault e = cc

no_fault_for_pads : (r : Result PadKeys KeyFault) (fault : TranscriptFault) → pads_for r ≡ Err (Transcript fault) → ⊥
no_fault_for_pads (Ok content) fault e = cc
no_fault_for_pads (Err seen) fault e = cc

fault_cause : (command : Task) (s s' : ShelfState) (o o' : SinkState) (w w' : WireState) (name bytes : List ℕ) (fault : TranscriptFault) → s.holds name ≡ held bytes
    → CommandRan command s s' o o' w w' (Malformed name (Transcript fault)) → Refused bytes fault
fault_cause (sum file) s s' o o' w w' name bytes fault told ran =
    let told_file : s.holds file ≡ held bytes = ap s.holds (sym ran.1.0) ∙ told in
    let same : ran.1.1.bytes ≡ bytes = told_bytes (s.holds file) bytes ran.1.1.bytes told_file ran.1.1.read.answer.1 in
    let P : List ℕ → Type 0 = λ b. Refused b fault in
    subst P same ran.1.1.holds
fault_cause (keygen seed net target) s s' o o' w w' name bytes fault told ran = absurd (no_fault_for_keys Pads seed (manifest_of ran.1.1.bytes) fault ran.1.1.holds)
fault_cause (keygen_seeds seed net target) s s' o o' w w' name bytes fault told ran = absurd (no_fault_for_keys Seeds seed (manifest_of ran.1.1.bytes) fault ran.1.1.holds)
fault_cause (migrate keys target) s s' o o' w w' name bytes fault told ran = absurd (no_fault_for_pads (keys_from_bytes ran.1.1.bytes) fault ran.1.1.holds)
fault_cause (replay net workers) s s' o o' w w' name bytes fault told ran = absurd (NetRan-transcript view_text net name fault s s' o o' ran)
fault_cause (logs net) s s' o o' w w' name bytes fault told ran = absurd (NetRan-transcript logs_text net name fault s s' o o' ran)
fault_cause (twin net perm target) s s' o o' w w' name bytes fault told ran = absurd (AltersOf-transcript net (twinning perm target) name fault s s' o o' ran)
fault_cause (steer net u v wanted target) s s' o o' w w' name bytes fault told ran = absurd (AltersOf-transcript net (steering u v wanted target) name fault s s' o o' ran)
fault_cause (station addr id keys stream) s s' o o' w w' name bytes fault told ran = absurd (StationRan-transcript addr id keys stream name fault s s' o o' w w' ran)
fault_cause (hub addr stations count target) s s' o o' w w' name bytes fault told ran = absurd (HubRan-untold addr stations count target s s' o o' w w' (Malformed name (Transcript fault)) name (inr (inr (Transcript fault, refl))) ran)
fault_cause (trial seed stations count workers) s s' o o' w w' name bytes fault told ran = absurd ran.1

malformed : (words : List (List ℕ)) (s s' : ShelfState) (o o' : SinkState) (w w' : WireState) (outcome : Outcome) (name bytes : List ℕ) (fault : TranscriptFault)
    → outcome ≡ Malformed name (Transcript fault) → s.holds name ≡ held bytes → Ran words s s' o o' w w' outcome → Refused bytes fault
malformed words s s' o o' w w' outcome name bytes fault e told ran =
    let P : Outcome → Type 0 = λ x. Ran words s s' o o' w w' x in
    let r : Ran words s s' o o' w w' (Malformed name (Transcript fault)) = subst P e ran in
    fault_cause r.command s s' o o' w w' name bytes fault told r.ran

SummedFile-last : (file : List ℕ) (s s' : ShelfState) (name : List ℕ) (fault : FileFault) → SummedFile file s s' (Err (Malformed name fault)) → LastAsked name s s'
SummedFile-last file s s' name (Transcript fault) p = last_is name file s s' p.0 p.1.read.asked
SummedFile-last file s s' name (Keys fault) p = absurd p
SummedFile-last file s s' name (Manifest fault) p = absurd p
SummedFile-last file s s' name (Stream fault) p = absurd p
SummedFile-last file s s' name (Script fault) p = absurd p
SummedFile-last file s s' name (Listed fault) p = absurd p

SumRan-last : (file : List ℕ) (s s' : ShelfState) (o o' : SinkState) (outcome : Outcome) (name : List ℕ) → TellsName outcome name → SumRan file s s' o o' outcome → LastAsked name s s'
SumRan-last file s s' o o' outcome name tells p =
    let P : Outcome → Type 0 = λ x. SumRan file s s' o o' x in
    elim tells [
      | inl e ↦ let q : SumRan file s s' o o' (Missing name) = subst P e p in last_is name file s s' q.1.0 q.1.1.asked
      | inr other ↦ elim other [
        | inl e ↦ let q : SumRan file s s' o o' (TooLong name) = subst P e p in last_is name file s s' q.1.0 q.1.1.asked
        | inr f ↦ let q : SumRan file s s' o o' (Malformed name f.0) = subst P f.1 p in SummedFile-last file s s' name f.0 q.1
      ]
    ]

CommandRan-last : (command : Task) (s s' : ShelfState) (o o' : SinkState) (w w' : WireState) (outcome : Outcome) (name : List ℕ) → TellsName outcome name → CommandRan command s s' o o' w w' outcome → LastAsked name s s'
CommandRan-last (sum file) s s' o o' w w' outcome name tells p = SumRan-last file s s' o o' outcome name tells p
CommandRan-last (keygen seed net target) s s' o o' w w' outcome name tells p = MakesOf-last (keygen_making Pads seed net target) s s' outcome name tells p.1
CommandRan-last (keygen_seeds seed net target) s s' o o' w w' outcome name tells p = MakesOf-last (keygen_making Seeds seed net target) s s' outcome name tells p.1
CommandRan-last (migrate keys target) s s' o o' w w' outcome name tells p = MakesOf-last (migrate_making keys target) s s' outcome name tells p.1
CommandRan-last (replay net workers) s s' o o' w w' outcome name tells p = NetRan-last view_text net s s' o o' outcome name tells p
CommandRan-last (logs net) s s' o o' w w' outcome name tells p = NetRan-last logs_text net s s' o o' outcome name tells p
CommandRan-last (twin net perm target) s s' o o' w w' outcome name tells p = AltersOf-last net (twinning perm target) s s' o o' outcome name tells p
CommandRan-last (steer net u v wanted target) s s' o o' w w' outcome name tells p = AltersOf-last net (steering u v wanted target) s s' o o' outcome name tells p
CommandRan-last (station addr id keys stream) s s' o o' w w' outcome name tells p = StationRan-last addr id keys stream s s' o o' w w' outcome name tells p
CommandRan-last (hub addr stations count target) s s' o o' w w' outcome name tells p = absurd (HubRan-untold addr stations count target s s' o o' w w' outcome name tells p)
CommandRan-last (trial seed stations count workers) s s' o o' w w' outcome name tells p = absurd (TrialRan-untold seed stations count o o' outcome name tells p.1)

last_asked : (words : List (List ℕ)) (s s' : ShelfState) (o o' : SinkState) (w w' : WireState) (outcome : Outcome) (name : List ℕ) → TellsName outcome name → Ran words s s' o o' w w' outcome → LastAsked name s s'
last_asked words s s' o o' w w' (Usage place) name tells ran = elim tells [ inl e ↦ absurd cc | inr other ↦ elim other [ inl e ↦ absurd cc | inr m ↦ let e = m.1 in absurd cc ] ]
last_asked words s s' o o' w w' other name tells ran = CommandRan-last ran.command s s' o o' w w' other name tells ran.ran

shelf_rose : (command : Task) (s s' : ShelfState) (o o' : SinkState) (w w' : WireState) → CommandRan command s s' o o' w w' ShelfFault → Rose s.faults s'.faults
shelf_rose (sum file) s s' o o' w w' ran = ran.1.answer
shelf_rose (keygen seed net target) s s' o o' w w' ran = MakesOf-rose (keygen_making Pads seed net target) s s' ran.1
shelf_rose (keygen_seeds seed net target) s s' o o' w w' ran = MakesOf-rose (keygen_making Seeds seed net target) s s' ran.1
shelf_rose (migrate keys target) s s' o o' w w' ran = MakesOf-rose (migrate_making keys target) s s' ran.1
shelf_rose (replay net workers) s s' o o' w w' ran = NetRan-shelf_rose view_text net s s' o o' ran
shelf_rose (logs net) s s' o o' w w' ran = NetRan-shelf_rose logs_text net s s' o o' ran
shelf_rose (twin net perm target) s s' o o' w w' ran = AltersOf-shelf_rose net (twinning perm target) s s' o o' ran
shelf_rose (steer net u v wanted target) s s' o o' w w' ran = AltersOf-shelf_rose net (steering u v wanted target) s s' o o' ran
shelf_rose (station addr id keys stream) s s' o o' w w' ran = StationRan-shelf_rose addr id keys stream s s' o o' w w' ran
shelf_rose (hub addr stations count target) s s' o o' w w' ran = HubRan-shelf_rose addr stations count target s s' o o' w w' ran
shelf_rose (trial seed stations count workers) s s' o o' w w' ran = absurd ran.1

sink_rose : (command : Task) (s s' : ShelfState) (o o' : SinkState) (w w' : WireState) → CommandRan command s s' o o' w w' SinkFault → Rose o.faults o'.faults
sink_rose (sum file) s s' o o' w w' ran = ran.1.put.answer.1
sink_rose (keygen seed net target) s s' o o' w w' ran = absurd ran.1
sink_rose (keygen_seeds seed net target) s s' o o' w w' ran = absurd ran.1
sink_rose (migrate keys target) s s' o o' w w' ran = absurd ran.1
sink_rose (replay net workers) s s' o o' w w' ran = NetRan-sink_rose view_text net s s' o o' ran
sink_rose (logs net) s s' o o' w w' ran = NetRan-sink_rose logs_text net s s' o o' ran
sink_rose (twin net perm target) s s' o o' w w' ran = AltersOf-sink_rose net (twinning perm target) s s' o o' ran
sink_rose (steer net u v wanted target) s s' o o' w w' ran = AltersOf-sink_rose net (steering u v wanted target) s s' o o' ran
sink_rose (station addr id keys stream) s s' o o' w w' ran = StationRan-sink_rose addr id keys stream s s' o o' w w' ran
sink_rose (hub addr stations count target) s s' o o' w w' ran = HubRan-sink_rose addr stations count target s s' o o' w w' ran
sink_rose (trial seed stations count workers) s s' o o' w w' ran = TrialRan-sink_rose seed stations count o o' ran.1

shelf_cause : (words : List (List ℕ)) (s s' : ShelfState) (o o' : SinkState) (w w' : WireState) (outcome : Outcome) → outcome ≡ ShelfFault → Ran words s s' o o' w w' outcome → Rose s.faults s'.faults
shelf_cause words s s' o o' w w' outcome e ran =
    let P : Outcome → Type 0 = λ x. Ran words s s' o o' w w' x in
    let r : Ran words s s' o o' w w' ShelfFault = subst P e ran in
    shelf_rose r.command s s' o o' w w' r.ran

sink_cause : (words : List (List ℕ)) (s s' : ShelfState) (o o' : SinkState) (w w' : WireState) (outcome : Outcome) → outcome ≡ SinkFault → Ran words s s' o o' w w' outcome → Rose o.faults o'.faults
sink_cause words s s' o o' w w' outcome e ran =
    let P : Outcome → Type 0 = λ x. Ran words s s' o o' w w' x in
    let r : Ran words s s' o o' w w' SinkFault = subst P e ran in
    sink_rose r.command s s' o o' w w' r.ran

-- no other command fails by the wire
SumRan-no_wire : (file : List ℕ) (s s' : ShelfState) (o o' : SinkState) → SumRan file s s' o o' WireFault → ⊥
SumRan-no_wire file s s' o o' p = p.1

wire_rose : (command : Task) (s s' : ShelfState) (o o' : SinkState) (w w' : WireState) → CommandRan command s s' o o' w w' WireFault → Rose w.faults w'.faults
wire_rose (sum file) s s' o o' w w' ran = absurd (SumRan-no_wire file s s' o o' ran)
wire_rose (keygen seed net target) s s' o o' w w' ran = absurd ran.1
wire_rose (keygen_seeds seed net target) s s' o o' w w' ran = absurd ran.1
wire_rose (migrate keys target) s s' o o' w w' ran = absurd ran.1
wire_rose (replay net workers) s s' o o' w w' ran = absurd (NetRan-no_wire view_text net s s' o o' ran)
wire_rose (logs net) s s' o o' w w' ran = absurd (NetRan-no_wire logs_text net s s' o o' ran)
wire_rose (twin net perm target) s s' o o' w w' ran = absurd (AltersOf-no_wire net (twinning perm target) s s' o o' ran)
wire_rose (steer net u v wanted target) s s' o o' w w' ran = absurd (AltersOf-no_wire net (steering u v wanted target) s s' o o' ran)
wire_rose (station addr id keys stream) s s' o o' w w' ran = StationRan-wire_rose addr id keys stream s s' o o' w w' ran
wire_rose (hub addr stations count target) s s' o o' w w' ran = HubRan-wire_rose addr stations count target s s' o o' w w' ran
wire_rose (trial seed stations count workers) s s' o o' w w' ran = absurd ran.1

wire_cause : (words : List (List ℕ)) (s s' : ShelfState) (o o' : SinkState) (w w' : WireState) (outcome : Outcome) → outcome ≡ WireFault → Ran words s s' o o' w w' outcome → Rose w.faults w'.faults
wire_cause words s s' o o' w w' outcome e ran =
    let P : Outcome → Type 0 = λ x. Ran words s s' o o' w w' x in
    let r : Ran words s s' o o' w w' WireFault = subst P e ran in
    wire_rose r.command s s' o o' w w' r.ran

SumRan-completes : (file : List ℕ) (session : Recorded) (s s' : ShelfState) (o o' : SinkState) (outcome : Outcome) → IsRecorded session → s.holds file ≡ held (transcript_bytes session)
    → length (transcript_bytes session) ≤ transcript_limit → (Rose s.faults s'.faults → ⊥) → (Rose o.faults o'.faults → ⊥) → SumRan file s s' o o' outcome
    → (outcome ≡ Done) ⊎ (outcome ≡ NoMemory)
SumRan-completes file session s s' o o' Done is told le calm_shelf calm_sink p = inl refl
SumRan-completes file session s s' o o' NoMemory is told le calm_shelf calm_sink p = inr refl
SumRan-completes file session s s' o o' SinkFault is told le calm_shelf calm_sink p = absurd (calm_sink p.1.put.answer.1)
SumRan-completes file session s s' o o' ShelfFault is told le calm_shelf calm_sink p = absurd (calm_shelf p.1.answer)
SumRan-completes file session s s' o o' (Usage place) is told le calm_shelf calm_sink p = absurd p.1
SumRan-completes file session s s' o o' (Disagree fault) is told le calm_shelf calm_sink p = absurd p.1
SumRan-completes file session s s' o o' (Refusing fault) is told le calm_shelf calm_sink p = absurd p.1
SumRan-completes file session s s' o o' WireFault is told le calm_shelf calm_sink p = absurd p.1
SumRan-completes file session s s' o o' (Peer who seen) is told le calm_shelf calm_sink p = absurd p.1
SumRan-completes file session s s' o o' (Missing name) is told le calm_shelf calm_sink p =
    absurd (elim p.1.1.answer [ inl gone ↦ held_is_there (s.holds file) (transcript_bytes session) told gone | inr rose ↦ calm_shelf rose.1 ])
SumRan-completes file session s s' o o' (TooLong name) is told le calm_shelf calm_sink p =
    absurd (elim p.1.1.answer [ inl above ↦ held_within (s.holds file) (transcript_bytes session) transcript_limit told le above | inr rose ↦ calm_shelf rose.1 ])
SumRan-completes file session s s' o o' (Malformed name (Keys fault)) is told le calm_shelf calm_sink p = absurd p.1
SumRan-completes file session s s' o o' (Malformed name (Manifest fault)) is told le calm_shelf calm_sink p = absurd p.1
SumRan-completes file session s s' o o' (Malformed name (Stream fault)) is told le calm_shelf calm_sink p = absurd p.1
SumRan-completes file session s s' o o' (Malformed name (Script fault)) is told le calm_shelf calm_sink p = absurd p.1
SumRan-completes file session s s' o o' (Malformed name (Listed fault)) is told le calm_shelf calm_sink p = absurd p.1
SumRan-completes file session s s' o o' (Malformed name (Transcript fault)) is told le calm_shelf calm_sink p =
    let same : p.1.1.bytes ≡ transcript_bytes session = told_bytes (s.holds file) (transcript_bytes session) p.1.1.bytes told p.1.1.read.answer.1 in
    absurd (p.1.1.holds.no_transcript session is same)

SumRan-refuses : (file bytes : List ℕ) (fault : TranscriptFault) (s s' : ShelfState) (o o' : SinkState) (outcome : Outcome) → s.holds file ≡ held bytes → length bytes ≤ transcript_limit
    → transcript_of bytes ≡ Err fault → (Rose s.faults s'.faults → ⊥) → SumRan file s s' o o' outcome → (outcome ≡ Malformed file (Transcript fault)) ⊎ (outcome ≡ NoMemory)
SumRan-refuses file bytes fault s s' o o' Done told le bad calm p =
    let same : p.summed.bytes ≡ bytes = told_bytes (s.holds file) bytes p.summed.bytes told p.summed.read.answer.1 in
    let good : transcript_of bytes ≡ Ok p.summed.holds.session = ap transcript_of (sym same) ∙ p.summed.holds.decoded in
    absurd cc
SumRan-refuses file bytes fault s s' o o' NoMemory told le bad calm p = inr refl
SumRan-refuses file bytes fault s s' o o' SinkFault told le bad calm p =
    let same : p.1.summed.bytes ≡ bytes = told_bytes (s.holds file) bytes p.1.summed.bytes told p.1.summed.read.answer.1 in
    let good : transcript_of bytes ≡ Ok p.1.summed.holds.session = ap transcript_of (sym same) ∙ p.1.summed.holds.decoded in
    absurd cc
SumRan-refuses file bytes fault s s' o o' ShelfFault told le bad calm p = absurd (calm p.1.answer)
SumRan-refuses file bytes fault s s' o o' (Usage place) told le bad calm p = absurd p.1
SumRan-refuses file bytes fault s s' o o' (Disagree seen) told le bad calm p = absurd p.1
SumRan-refuses file bytes fault s s' o o' (Refusing seen) told le bad calm p = absurd p.1
SumRan-refuses file bytes fault s s' o o' WireFault told le bad calm p = absurd p.1
SumRan-refuses file bytes fault s s' o o' (Peer who seen) told le bad calm p = absurd p.1
SumRan-refuses file bytes fault s s' o o' (Missing name) told le bad calm p =
    absurd (elim p.1.1.answer [ inl gone ↦ held_is_there (s.holds file) bytes told gone | inr rose ↦ calm rose.1 ])
SumRan-refuses file bytes fault s s' o o' (TooLong name) told le bad calm p =
    absurd (elim p.1.1.answer [ inl above ↦ held_within (s.holds file) bytes transcript_limit told le above | inr rose ↦ calm rose.1 ])
SumRan-refuses file bytes fault s s' o o' (Malformed name (Keys seen)) told le bad calm p = absurd p.1
SumRan-refuses file bytes fault s s' o o' (Malformed name (Manifest seen)) told le bad calm p = absurd p.1
SumRan-refuses file bytes fault s s' o o' (Malformed name (Stream seen)) told le bad calm p = absurd p.1
SumRan-refuses file bytes fault s s' o o' (Malformed name (Script seen)) told le bad calm p = absurd p.1
SumRan-refuses file bytes fault s s' o o' (Malformed name (Listed seen)) told le bad calm p = absurd p.1
SumRan-refuses file bytes fault s s' o o' (Malformed name (Transcript seen)) told le bad calm p =
    let same : p.1.1.bytes ≡ bytes = told_bytes (s.holds file) bytes p.1.1.bytes told p.1.1.read.answer.1 in
    let other : transcript_of bytes ≡ Err seen = ap transcript_of (sym same) ∙ p.1.1.holds.first_fault in
    let one : seen ≡ fault = cc in
    inl (rw (p.1.0, one) refl)

-- a call with what it did
abbrev pub HasRun : Call → Type 0
HasRun c = Ran c.words c.shelf c.shelf' c.out c.out' c.wire c.wire' c.outcome

-- what the command of the words did
pub HasRun-as : (c : Call) (command : Task) → Spells c.words command → HasRun c → CommandRan command c.shelf c.shelf' c.out c.out' c.wire c.wire' c.outcome
HasRun-as c command p ran = ran_of c.words command c.shelf c.shelf' c.out c.out' c.wire c.wire' c.outcome p ran

pub RefusesOtherWords-run : (c : Call) → HasRun c → RefusesOtherWords c
RefusesOtherWords-run c ran = record {
  refused = refused_words c.words c.shelf c.shelf' c.out c.out' c.wire c.wire' c.outcome ran;
  only = λ place e. usage_words c.words c.shelf c.shelf' c.out c.out' c.wire c.wire' c.outcome place ran e;
}

pub KeepsFiles-run : (c : Call) → HasRun c → KeepsFiles c
KeepsFiles-run c ran = record {
  by = λ command p. CommandRan-leaves command c.shelf c.shelf' c.out c.out' c.wire c.wire' c.outcome (HasRun-as c command p ran);
  none = λ refused. kept_unread c.words c.shelf c.shelf' c.out c.out' c.wire c.wire' c.outcome refused ran;
}

pub AsksInOrder-run : (c : Call) → HasRun c → AsksInOrder c
AsksInOrder-run c ran = record {
  front = λ command p. CommandRan-asked command c.shelf c.shelf' c.out c.out' c.wire c.wire' c.outcome (HasRun-as c command p ran);
  whole = λ command p e. asked_all command c.shelf c.shelf' c.out c.out' c.wire c.wire' c.outcome e (HasRun-as c command p ran);
  none = λ refused. asked_nothing c.words c.shelf c.shelf' c.out c.out' c.wire c.wire' c.outcome refused ran;
}

pub PrintsOnlyWhenDone-run : (c : Call) → HasRun c → PrintsOnlyWhenDone c
PrintsOnlyWhenDone-run c ran = λ not_done not_sink. silent c.words c.shelf c.shelf' c.out c.out' c.wire c.wire' c.outcome not_done not_sink ran

pub PrintsSums-run : (c : Call) → HasRun c → PrintsSums c
PrintsSums-run c ran = λ e file bytes p told. done_prints file bytes c.shelf c.shelf' c.out c.out' told
    (done_as file c.shelf c.shelf' c.out c.out' c.outcome e (HasRun-as c (sum file) p ran))

pub MissesTheAbsent-run : (c : Call) → HasRun c → MissesTheAbsent c
MissesTheAbsent-run c ran = λ name e. missing c.words c.shelf c.shelf' c.out c.out' c.wire c.wire' c.outcome name e ran

pub RefusesTheLong-run : (c : Call) → HasRun c → RefusesTheLong c
RefusesTheLong-run c ran = λ command name p e. too_long command c.shelf c.shelf' c.out c.out' c.wire c.wire' c.outcome name e (HasRun-as c command p ran)

pub TellsTheFault-run : (c : Call) → HasRun c → TellsTheFault c
TellsTheFault-run c ran = λ name bytes fault e told. malformed c.words c.shelf c.shelf' c.out c.out' c.wire c.wire' c.outcome name bytes fault e told ran

pub HasCauses-run : (c : Call) → HasRun c → HasCauses c
HasCauses-run c ran = record {
  shelf = λ e. shelf_cause c.words c.shelf c.shelf' c.out c.out' c.wire c.wire' c.outcome e ran;
  wire = λ e. wire_cause c.words c.shelf c.shelf' c.out c.out' c.wire c.wire' c.outcome e ran;
  sink = λ e. sink_cause c.words c.shelf c.shelf' c.out c.out' c.wire c.wire' c.outcome e ran;
}

-- every transcript is within its read limit
short_enough : (session : Recorded) → IsRecorded session → length (transcript_bytes session) ≤ transcript_limit
short_enough session is = omega (arith, transcript_size session is)

pub Completes-run : (c : Call) → HasRun c → Completes c
Completes-run c ran = λ file session p is told calm_shelf calm_sink. SumRan-completes file session c.shelf c.shelf' c.out c.out' c.outcome is told
    (short_enough session is) calm_shelf calm_sink (HasRun-as c (sum file) p ran)

pub RefusesTheMalformed-run : (c : Call) → HasRun c → RefusesTheMalformed c
RefusesTheMalformed-run c ran = λ file bytes fault p told le bad calm. SumRan-refuses file bytes fault c.shelf c.shelf' c.out c.out' c.outcome told le bad calm
    (HasRun-as c (sum file) p ran)

pub TellsTheLast-run : (c : Call) → HasRun c → TellsTheLast c
TellsTheLast-run c ran = λ name tells. last_asked c.words c.shelf c.shelf' c.out c.out' c.wire c.wire' c.outcome name tells ran

-- a command that makes one file of another, and prints nothing
MakesFile-run : (c : Call) (m : Making) → c.out' ≡ c.out → MakesOf m c.shelf c.shelf' c.outcome → MakesFile c m
MakesFile-run c m silent ran =
    let P : Outcome → Type 0 = λ x. MakesOf m c.shelf c.shelf' x in
    record {
      silent = silent;
      written = λ e read told. MakesOf-written m c.shelf c.shelf' read told (subst P e ran);
      complete = λ read bytes told le good calm. MakesOf-completes m c.shelf c.shelf' c.outcome read bytes told le good calm ran;
      malformed = λ read fault told le bad calm. MakesOf-refuses m c.shelf c.shelf' c.outcome read fault told le bad calm ran;
      fault = λ name read fault e told. MakesOf-fault m c.shelf c.shelf' name read fault told (subst P e ran);
    }

-- by the command
MakesFiles-ran : (c : Call) (command : Task) (m : Making) → making_of command ≡ Some m → CommandRan command c.shelf c.shelf' c.out c.out' c.wire c.wire' c.outcome → MakesFile c m
MakesFiles-ran c (sum file) m e ran = absurd cc
MakesFiles-ran c (replay net workers) m e ran = absurd cc
MakesFiles-ran c (logs net) m e ran = absurd cc
MakesFiles-ran c (twin net perm target) m e ran = absurd cc
MakesFiles-ran c (steer net u v wanted target) m e ran = absurd cc
MakesFiles-ran c (station addr id keys stream) m e ran = absurd cc
MakesFiles-ran c (hub addr stations count target) m e ran = absurd cc
MakesFiles-ran c (trial seed stations count workers) m e ran = absurd cc
MakesFiles-ran c (keygen seed net target) m e ran = let same : keygen_making Pads seed net target ≡ m = cc in rw (← same) (MakesFile-run c (keygen_making Pads seed net target) ran.0 ran.1)
MakesFiles-ran c (keygen_seeds seed net target) m e ran = let same : keygen_making Seeds seed net target ≡ m = cc in rw (← same) (MakesFile-run c (keygen_making Seeds seed net target) ran.0 ran.1)
MakesFiles-ran c (migrate keys target) m e ran = let same : migrate_making keys target ≡ m = cc in rw (← same) (MakesFile-run c (migrate_making keys target) ran.0 ran.1)

pub MakesFiles-run : (c : Call) → HasRun c → MakesFiles c
MakesFiles-run c ran = λ command m p e. MakesFiles-ran c command m e (HasRun-as c command p ran)

-- two things that are the same two
same_two : (p q : List ℕ × Alteration) → Some p ≡ Some q → (p.0 ≡ q.0) × (p.1 ≡ q.1)
same_two p q e = let same : p ≡ q = cc in (ap (λ (t : List ℕ × Alteration). t.0) same, ap (λ (t : List ℕ × Alteration). t.1) same)

-- the commands that alter the pads of a net
AltersNets-ran : (c : Call) (command : Task) (source : List ℕ) (m : Alteration) → alteration_of command ≡ Some (source, m)
    → CommandRan command c.shelf c.shelf' c.out c.out' c.wire c.wire' c.outcome → AltersPads c source m
AltersNets-ran c (sum file) source m e ran = absurd cc
AltersNets-ran c (keygen seed net target) source m e ran = absurd cc
AltersNets-ran c (keygen_seeds seed net target) source m e ran = absurd cc
AltersNets-ran c (migrate keys target) source m e ran = absurd cc
AltersNets-ran c (replay net workers) source m e ran = absurd cc
AltersNets-ran c (logs net) source m e ran = absurd cc
AltersNets-ran c (station addr id keys stream) source m e ran = absurd cc
AltersNets-ran c (hub addr stations count target) source m e ran = absurd cc
AltersNets-ran c (trial seed stations count workers) source m e ran = absurd cc
AltersNets-ran c (twin net perm target) source m e ran =
    let same = same_two (net, twinning perm target) (source, m) e in
    rw (← same.0, ← same.1) (AltersPads-ran c net (twinning perm target) ran)
AltersNets-ran c (steer net u v wanted target) source m e ran =
    let same = same_two (net, steering u v wanted target) (source, m) e in
    rw (← same.0, ← same.1) (AltersPads-ran c net (steering u v wanted target) ran)

pub AltersNets-run : (c : Call) → HasRun c → AltersNets c
AltersNets-run c ran = λ command source m p e. AltersNets-ran c command source m e (HasRun-as c command p ran)

same_bytes : (xs ys : List ℕ) (r : Result (List ℕ) FileFault) → r ≡ Ok ys → Ok xs ≡ r → ys ≡ xs
same_bytes xs ys r a b = cc

-- what a manifest or a key file is that makes a file, and what it makes
keys_of : (material : KeyMaterial) (seed : List ℕ) (r : Result Content ManifestFault) (bytes : List ℕ) → keys_for material seed r ≡ Ok bytes
    → (content : Content) × (r ≡ Ok content) × (bytes ≡ key_file_for material seed content)
keys_of material seed (Ok content) bytes e = (content, refl, same_bytes (key_file_for material seed content) bytes (Ok bytes) refl e)
keys_of material seed (Err fault) bytes e = absurd cc

pads_of : (r : Result PadKeys KeyFault) (bytes : List ℕ) → pads_for r ≡ Ok bytes → (keys : PadKeys) × (r ≡ Ok keys) × (bytes ≡ keys_bytes keys)
pads_of (Ok keys) bytes e = (keys, refl, same_bytes (keys_bytes keys) bytes (Ok bytes) refl e)
pads_of (Err fault) bytes e = absurd cc

pub WritesKeys-run : (c : Call) → HasRun c → WritesKeys c
WritesKeys-run c ran = λ e seed net target read p told.
    let w = (MakesFiles-run c ran (keygen seed net target) (keygen_making Pads seed net target) p refl).written e read told in
    let k = keys_of Pads seed (manifest_of read) w.0 w.1 in
    (k.0, k.1, w.2 ∙ ap (λ (bytes : List ℕ). rewritten (c.shelf.holds target) bytes) k.2)

pub WritesSeeds-run : (c : Call) → HasRun c → WritesSeeds c
WritesSeeds-run c ran = λ e seed net target read p told.
    let w = (MakesFiles-run c ran (keygen_seeds seed net target) (keygen_making Seeds seed net target) p refl).written e read told in
    let k = keys_of Seeds seed (manifest_of read) w.0 w.1 in
    (k.0, k.1, w.2 ∙ ap (λ (bytes : List ℕ). rewritten (c.shelf.holds target) bytes) k.2)

pub WritesPads-run : (c : Call) → HasRun c → WritesPads c
WritesPads-run c ran = λ e file target read p told.
    let w = (MakesFiles-run c ran (migrate file target) (migrate_making file target) p refl).written e read told in
    let k = pads_of (keys_from_bytes read) w.0 w.1 in
    (k.0, k.1, w.2 ∙ ap (λ (bytes : List ℕ). rewritten (c.shelf.holds target) bytes) k.2)

pub PrintsView-run : (c : Call) → HasRun c → PrintsView c
PrintsView-run c ran = λ e net workers p.
    let P : Outcome → Type 0 = λ x. CommandRan (replay net workers) c.shelf c.shelf' c.out c.out' c.wire c.wire' x in
    NetRan-prints view_text net c.shelf c.shelf' c.out c.out' (subst P e (HasRun-as c (replay net workers) p ran))

pub RunsNets-run : (c : Call) → HasRun c → RunsNets c
RunsNets-run c ran = λ net workers files made p needed holds is calm_shelf calm_sink.
    NetRan-completes view_text net c.shelf c.shelf' c.out c.out' c.outcome files made needed holds is calm_shelf calm_sink (HasRun-as c (replay net workers) p ran)

pub PrintsLogs-run : (c : Call) → HasRun c → PrintsLogs c
PrintsLogs-run c ran = λ e net p.
    let P : Outcome → Type 0 = λ x. CommandRan (logs net) c.shelf c.shelf' c.out c.out' c.wire c.wire' x in
    NetRan-prints logs_text net c.shelf c.shelf' c.out c.out' (subst P e (HasRun-as c (logs net) p ran))

pub RunsLogs-run : (c : Call) → HasRun c → RunsLogs c
RunsLogs-run c ran = λ net files made p needed holds is calm_shelf calm_sink.
    NetRan-completes logs_text net c.shelf c.shelf' c.out c.out' c.outcome files made needed holds is calm_shelf calm_sink (HasRun-as c (logs net) p ran)

pub PrintsSummary-run : (c : Call) → HasRun c → PrintsSummary c
PrintsSummary-run c ran = λ e seed stations count workers p.
    let P : Outcome → Type 0 = λ x. CommandRan (trial seed stations count workers) c.shelf c.shelf' c.out c.out' c.wire c.wire' x in
    let did = (subst P e (HasRun-as c (trial seed stations count workers) p ran)).1 in
    let limits = Spells-runnable c.words (trial seed stations count workers) p in
    (TrialRan-prints seed stations count c.out c.out' did, counts_all seed stations count limits.0 did.0)

pub RunsTrials-run : (c : Call) → HasRun c → RunsTrials c
RunsTrials-run c ran = λ seed stations count workers p calm.
    TrialRan-completes seed stations count c.out c.out' c.outcome calm (HasRun-as c (trial seed stations count workers) p ran).1
