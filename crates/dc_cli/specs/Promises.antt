-- The promises of a call in its reader's words; each follows from what the call did by its outcome.
use Rattle.std.specs.Prelude.{String, ℕ, ◌≡◌, ◌≤◌, ◌⊎◌, List, [], ◌∷◌, ◌++◌, length, All, false, Option, Some, None, Ok, Err}
use Rattle.dc_spec.specs.Outside.{ShelfState, SinkState, WireState, absent, held, Rose, Tells, grown, IsFront}
use Rattle.dc_spec.specs.Limits.{transcript_limit, manifest_limit, key_file_limit, permutation_limit, wanted_words_limit}
use Rattle.dc_spec.specs.Pads.{Keys}
use Rattle.dc_spec.specs.Recorded.{Recorded, IsRecorded, transcript_bytes, superposed}
use Rattle.dc_spec.specs.Text.{words_text}
use Rattle.dc_edge.specs.Shelf.{IsHeldAbove, FailsUntold, OthersStay, rewritten}
use Rattle.dc_formats.specs.KeyFile.{keys_bytes}
use Rattle.dc_formats.specs.SeedFile.{seeds_bytes}
use Rattle.dc_keyfile.specs.Generator.{generated_keys, seeds_of}
use Rattle.dc_keyfile.specs.Reading.{keys_from_bytes}
use Rattle.dc_manifest.specs.Content.{Content}
use Rattle.dc_manifest.specs.Reading.{manifest_of}
use Rattle.dc_superpose.specs.Reading.{transcript_of}
use Rattle.dc_superpose.specs.declared.fault.TranscriptFault.{TranscriptFault}
use Rattle.dc_spec.specs.Net.{Net}
use Rattle.dc_net_files.specs.Steps.{File, Step, Reader, needs, makes, names_of, bytes_of}
use Rattle.dc_net_files.specs.Parts.{net_step}
use Rattle.dc_net_files.specs.Station.{station_step}
use Rattle.dc_net_files.specs.Reading.{AreNeeded}
use Rattle.dc_net_files.specs.Settled.{AreHeld}
use Rattle.dc_run_texts.specs.View.{view_text}
use Rattle.dc_run_texts.specs.Logs.{logs_text}
use Rattle.dc_cli.specs.Replaying.{RunPrinted}
use Rattle.dc_net.specs.TrialNets.{trial_net}
use Rattle.dc_net_rules.specs.Runs.{run_of}
use Rattle.dc_cli.specs.Trials.{summary_of, CountsAll}
use Rattle.dc_cli.specs.Forms.{texts, is_form, longest_begun}
use Rattle.dc_cli.specs.Commands.{Task, sum, keygen, keygen_seeds, migrate, replay, logs, twin, steer, station, hub, trial, Spells}
use Rattle.dc_cli.specs.Summing.{Refused}
use Rattle.dc_cli.specs.Making.{Making}
use Rattle.dc_cli.specs.Keygen.{keygen_making}
use Rattle.dc_cli.specs.declared.keygen.KeyMaterial.TheVariants.{Pads, Seeds}
use Rattle.dc_cli.specs.Migrating.{migrate_making}
use Rattle.dc_cli.specs.declared.outcome.Outcome.{Outcome}
use Rattle.dc_cli.specs.declared.outcome.Outcome.TheVariants.{Done, Usage, Missing, TooLong, Malformed, ShelfFault, SinkFault, WireFault, NoMemory}
use Rattle.dc_cli.specs.declared.outcome.FileFault.{FileFault}
use Rattle.dc_cli.specs.declared.outcome.FileFault.TheVariants.{Transcript}

-- the states of the shelf, of the output and of the wire before and after a call, and its outcome
pub record Call : Type 0 where
  pub words : List (List ℕ)
  pub shelf : ShelfState
  pub shelf' : ShelfState
  pub out : SinkState
  pub out' : SinkState
  pub wire : WireState
  pub wire' : WireState
  pub outcome : Outcome

-- a call: how the states of a shelf, of a sink and of a wire are seen, the words, these objects before and after, and the outcome
abbrev pub call : {F K W A : Type 0} → (F → ShelfState) → (K → SinkState) → (W → WireState) → List (String A) → F → F → K → K → W → W → Outcome → Call
call shelf_state sink_state wire_state words shelf shelf' out out' wire wire' outcome = record {
  words = texts words;
  shelf = shelf_state shelf;
  shelf' = shelf_state shelf';
  out = sink_state out;
  out' = sink_state out';
  wire = wire_state wire;
  wire' = wire_state wire';
  outcome = outcome;
}

-- the name of the file that a step needs
abbrev pub next_name : {A : Type 0} → Step A → List (List ℕ)
next_name (needs name limit) = name ∷ []
next_name _ = []

-- names of the files of a reader: each is needed after those before it, which have the bytes that the shelf reports
pub record NamesOf {A : Type 0} (reader : Reader A) (shelf : ShelfState) (names : List (List ℕ)) : Type 0 where
  pub files : List File
  pub needed : AreNeeded reader files
  pub told : All (λ file. Tells (shelf.holds file.name) file.bytes) files
  pub names_are : names ≡ names_of files ++ next_name (reader (bytes_of files))

-- a file that a reader needs within this limit, after files that have the bytes that the shelf reports
pub record NeedsOf {A : Type 0} (reader : Reader A) (shelf : ShelfState) (name : List ℕ) (limit : ℕ) : Type 0 where
  pub files : List File
  pub needed : AreNeeded reader files
  pub told : All (λ file. Tells (shelf.holds file.name) file.bytes) files
  pub next : reader (bytes_of files) ≡ needs name limit

-- the files of a net, and those of a station
abbrev pub NamesOfNet : List ℕ → ShelfState → List (List ℕ) → Type 0
NamesOfNet net shelf names = NamesOf (net_step net) shelf names

abbrev pub NeedsOfNet : List ℕ → ShelfState → List ℕ → ℕ → Type 0
NeedsOfNet net shelf name limit = NeedsOf (net_step net) shelf name limit

abbrev pub NamesOfStation : List ℕ → List ℕ → ShelfState → List (List ℕ) → Type 0
NamesOfStation keys stream shelf names = NamesOf (station_step keys stream) shelf names

abbrev pub NeedsOfStation : List ℕ → List ℕ → ShelfState → List ℕ → ℕ → Type 0
NeedsOfStation keys stream shelf name limit = NeedsOf (station_step keys stream) shelf name limit

-- the names that are asked for after a step: that of the file that it needs, or these where it makes something
abbrev pub names_after : {A : Type 0} → List (List ℕ) → Step A → List (List ℕ)
names_after more (needs name limit) = name ∷ []
names_after more (makes made left) = more
names_after more _ = []

-- the names of the files of a net, as above, and where these make a net, those of the list and of the key file of an alteration
pub record NamesOfAlteration (net list target : List ℕ) (shelf : ShelfState) (names : List (List ℕ)) : Type 0 where
  pub files : List File
  pub needed : AreNeeded (net_step net) files
  pub told : All (λ file. Tells (shelf.holds file.name) file.bytes) files
  pub names_are : names ≡ names_of files ++ names_after (list ∷ target ∷ []) (net_step net (bytes_of files))

-- the files that a command asks for, in order; by the shelf's state, since a file may name others
abbrev pub AsksFor : ShelfState → Task → List (List ℕ) → Type 0
AsksFor shelf (sum file) files = files ≡ file ∷ []
AsksFor shelf (keygen seed net target) files = files ≡ net ∷ target ∷ []
AsksFor shelf (keygen_seeds seed net target) files = files ≡ net ∷ target ∷ []
AsksFor shelf (migrate keys target) files = files ≡ keys ∷ target ∷ []
AsksFor shelf (replay net workers) files = NamesOfNet net shelf files
AsksFor shelf (logs net) files = NamesOfNet net shelf files
AsksFor shelf (twin net perm target) files = NamesOfAlteration net perm target shelf files
AsksFor shelf (steer net u v wanted target) files = NamesOfAlteration net wanted target shelf files
AsksFor shelf (station addr id keys stream) files = NamesOfStation keys stream shelf files
AsksFor shelf (hub addr stations count target) files = files ≡ target ∷ []
AsksFor shelf (trial seed stations count workers) files = files ≡ []

-- words that are not a form are refused, and no others are
pub record RefusesOtherWords (c : Call) : Type 0 where
  pub refused : is_form c.words ≡ false → c.outcome ≡ Usage (longest_begun c.words)
  pub only : (place : ℕ) → c.outcome ≡ Usage place → is_form c.words ≡ false

-- a command that writes one name leaves all others; the name stays too, unless all was done or the shelf failed
abbrev pub LeavesOthers : List ℕ → Outcome → ShelfState → ShelfState → Type 0
LeavesOthers target Done before after = OthersStay target before after
LeavesOthers target ShelfFault before after = OthersStay target before after
LeavesOthers target other before after = after.holds ≡ before.holds

-- the same of a command that prints after it wrote
abbrev pub LeavesAltered : List ℕ → Outcome → ShelfState → ShelfState → Type 0
LeavesAltered target SinkFault before after = OthersStay target before after
LeavesAltered target other before after = LeavesOthers target other before after

-- the files that a command leaves as they were, by its outcome: all, but for one that it writes
abbrev pub Leaves : Task → Outcome → ShelfState → ShelfState → Type 0
Leaves (sum file) outcome before after = after.holds ≡ before.holds
Leaves (keygen seed net target) outcome before after = LeavesOthers target outcome before after
Leaves (keygen_seeds seed net target) outcome before after = LeavesOthers target outcome before after
Leaves (migrate keys target) outcome before after = LeavesOthers target outcome before after
Leaves (replay net workers) outcome before after = after.holds ≡ before.holds
Leaves (logs net) outcome before after = after.holds ≡ before.holds
Leaves (twin net perm target) outcome before after = LeavesAltered target outcome before after
Leaves (steer net u v wanted target) outcome before after = LeavesAltered target outcome before after
Leaves (station addr id keys stream) outcome before after = after.holds ≡ before.holds
Leaves (hub addr stations count target) outcome before after = LeavesAltered target outcome before after
Leaves (trial seed stations count workers) outcome before after = after.holds ≡ before.holds

-- each file stays, unless the command of the words writes it
pub record KeepsFiles (c : Call) : Type 0 where
  pub by : (command : Task) → Spells c.words command → Leaves command c.outcome c.shelf c.shelf'
  pub none : is_form c.words ≡ false → c.shelf'.holds ≡ c.shelf.holds

-- the shelf was asked for a front of the files of the command
abbrev pub AskedFront : Call → Task → Type 0
AskedFront c command = (files : List (List ℕ)) × AsksFor c.shelf command files × ((names : List (List ℕ)) × IsFront names files × (c.shelf'.asked ≡ grown c.shelf.asked names))

-- the shelf was asked for all files of the command
abbrev pub AskedAll : Call → Task → Type 0
AskedAll c command = (files : List (List ℕ)) × AsksFor c.shelf command files × (c.shelf'.asked ≡ grown c.shelf.asked files)

-- the shelf was asked for a front of the files of the words, and for all of them where all was done
pub record AsksInOrder (c : Call) : Type 0 where
  pub front : (command : Task) → Spells c.words command → AskedFront c command
  pub whole : (command : Task) → Spells c.words command → c.outcome ≡ Done → AskedAll c command
  pub none : is_form c.words ≡ false → c.shelf'.asked ≡ c.shelf.asked

-- nothing is printed but where all was done or the output failed
abbrev pub PrintsOnlyWhenDone : Call → Type 0
PrintsOnlyWhenDone c = (c.outcome ≡ Done → ⊥) → (c.outcome ≡ SinkFault → ⊥) → c.out' ≡ c.out

-- where `sum` is done and the file is known, it is the transcript of a session, and the text of its superposed words was printed
abbrev pub PrintsSums : Call → Type 0
PrintsSums c = c.outcome ≡ Done → (file bytes : List ℕ) → Spells c.words (sum file) → c.shelf.holds file ≡ held bytes →
    (session : Recorded) × IsRecorded session × (bytes ≡ transcript_bytes session) × (c.out'.written ≡ grown c.out.written (words_text (superposed session)))

-- a file that a command asks for, and the most bytes that it may have
abbrev pub HasLimit : ShelfState → Task → List ℕ → ℕ → Type 0
HasLimit shelf (sum file) name limit = (name ≡ file) × (limit ≡ transcript_limit)
HasLimit shelf (keygen seed net target) name limit = (name ≡ net) × (limit ≡ manifest_limit)
HasLimit shelf (keygen_seeds seed net target) name limit = (name ≡ net) × (limit ≡ manifest_limit)
HasLimit shelf (migrate keys target) name limit = (name ≡ keys) × (limit ≡ key_file_limit)
HasLimit shelf (replay net workers) name limit = NeedsOfNet net shelf name limit
HasLimit shelf (logs net) name limit = NeedsOfNet net shelf name limit
HasLimit shelf (twin net perm target) name limit = NeedsOfNet net shelf name limit ⊎ ((name ≡ perm) × (limit ≡ permutation_limit))
HasLimit shelf (steer net u v wanted target) name limit = NeedsOfNet net shelf name limit ⊎ ((name ≡ wanted) × (limit ≡ wanted_words_limit))
HasLimit shelf (station addr id keys stream) name limit = NeedsOfStation keys stream shelf name limit
HasLimit shelf (hub addr stations count target) name limit = ⊥
HasLimit shelf (trial seed stations count workers) name limit = ⊥

-- the outcome reports a name
abbrev pub TellsName : Outcome → List ℕ → Type 0
TellsName outcome name = (outcome ≡ Missing name) ⊎ ((outcome ≡ TooLong name) ⊎ ((fault : FileFault) × (outcome ≡ Malformed name fault)))

-- a reported name is the last one that the shelf was asked for
abbrev pub TellsTheLast : Call → Type 0
TellsTheLast c = (name : List ℕ) → TellsName c.outcome name → (front : List (List ℕ)) × (c.shelf'.asked ≡ grown c.shelf.asked (front ++ name ∷ []))

-- a name is reported as missing only where it is known to be absent, or where it is unknown and the count of faults rose
abbrev pub MissesTheAbsent : Call → Type 0
MissesTheAbsent c = (name : List ℕ) → c.outcome ≡ Missing name → (c.shelf.holds name ≡ absent) ⊎ FailsUntold (c.shelf.holds name) c.shelf.faults c.shelf'.faults

-- a name is reported as too long only where it is a file of the command and is longer than its limit, or where it is unknown and the count of faults rose
abbrev pub RefusesTheLong : Call → Type 0
RefusesTheLong c = (command : Task) (name : List ℕ) → Spells c.words command → c.outcome ≡ TooLong name →
    (limit : ℕ) × HasLimit c.shelf command name limit × (IsHeldAbove (c.shelf.holds name) limit ⊎ FailsUntold (c.shelf.holds name) c.shelf.faults c.shelf'.faults)

-- a reported fault of a transcript is the first fault of the file, where that is known; the file is the transcript of no session
abbrev pub TellsTheFault : Call → Type 0
TellsTheFault c = (name bytes : List ℕ) → (fault : TranscriptFault) → c.outcome ≡ Malformed name (Transcript fault) → c.shelf.holds name ≡ held bytes → Refused bytes fault

-- a known file within its limit that is no transcript is refused by its first fault, unless the count of faults rose or memory ran out
abbrev pub RefusesTheMalformed : Call → Type 0
RefusesTheMalformed c = (file bytes : List ℕ) → (fault : TranscriptFault) → Spells c.words (sum file) →
    c.shelf.holds file ≡ held bytes → length bytes ≤ transcript_limit → transcript_of bytes ≡ Err fault →
    (Rose c.shelf.faults c.shelf'.faults → ⊥) → (c.outcome ≡ Malformed file (Transcript fault)) ⊎ (c.outcome ≡ NoMemory)

-- a fault of the outside is reported only where its count rose
pub record HasCauses (c : Call) : Type 0 where
  pub shelf : c.outcome ≡ ShelfFault → Rose c.shelf.faults c.shelf'.faults
  pub sink : c.outcome ≡ SinkFault → Rose c.out.faults c.out'.faults
  pub wire : c.outcome ≡ WireFault → Rose c.wire.faults c.wire'.faults

-- where the shelf holds the transcript of a session under the name and no count of faults rose, all is done, or memory ran out
abbrev pub Completes : Call → Type 0
Completes c = (file : List ℕ) → (session : Recorded) → Spells c.words (sum file) → IsRecorded session → c.shelf.holds file ≡ held (transcript_bytes session) →
    (Rose c.shelf.faults c.shelf'.faults → ⊥) → (Rose c.out.faults c.out'.faults → ⊥) → (c.outcome ≡ Done) ⊎ (c.outcome ≡ NoMemory)

-- a command that makes one file of another
pub record MakesFile (c : Call) (m : Making) : Type 0 where
  -- nothing is printed
  pub silent : c.out' ≡ c.out
  -- where all is done and the file is known, the target holds what the file makes, unless nothing was known of the target
  pub written : c.outcome ≡ Done → (read : List ℕ) → c.shelf.holds m.source ≡ held read →
      (bytes : List ℕ) × (m.due read ≡ Ok bytes) × (c.shelf'.holds m.target ≡ rewritten (c.shelf.holds m.target) bytes)
  -- where the known file is within its limit and makes something, and no count of faults rose, all is done, or memory ran out
  pub complete : (read bytes : List ℕ) → c.shelf.holds m.source ≡ held read → length read ≤ m.limit → m.due read ≡ Ok bytes →
      (Rose c.shelf.faults c.shelf'.faults → ⊥) → (c.outcome ≡ Done) ⊎ (c.outcome ≡ NoMemory)
  -- a known file within its limit that has a fault is refused by it, unless the count of faults rose or memory ran out
  pub malformed : (read : List ℕ) → (fault : FileFault) → c.shelf.holds m.source ≡ held read → length read ≤ m.limit → m.due read ≡ Err fault →
      (Rose c.shelf.faults c.shelf'.faults → ⊥) → (c.outcome ≡ Malformed m.source fault) ⊎ (c.outcome ≡ NoMemory)
  -- a reported fault is that of the file, where it is known
  pub fault : (name read : List ℕ) → (fault : FileFault) → c.outcome ≡ Malformed name fault → c.shelf.holds m.source ≡ held read → m.due read ≡ Err fault

-- the commands that make one file of another
abbrev pub making_of : Task → Option Making
making_of (sum file) = None
making_of (keygen seed net target) = Some (keygen_making Pads seed net target)
making_of (keygen_seeds seed net target) = Some (keygen_making Seeds seed net target)
making_of (migrate keys target) = Some (migrate_making keys target)
making_of (replay net workers) = None
making_of (logs net) = None
making_of (twin net perm target) = None
making_of (steer net u v wanted target) = None
making_of (station addr id keys stream) = None
making_of (hub addr stations count target) = None
making_of (trial seed stations count workers) = None

-- each of these makes its file
abbrev pub MakesFiles : Call → Type 0
MakesFiles c = (command : Task) (m : Making) → Spells c.words command → making_of command ≡ Some m → MakesFile c m

-- where `keygen` is done and the manifest is known, the target holds the key file of the generated keys, unless nothing was known of the target
abbrev pub WritesKeys : Call → Type 0
WritesKeys c = c.outcome ≡ Done → (seed net target bytes : List ℕ) → Spells c.words (keygen seed net target) → c.shelf.holds net ≡ held bytes →
    (content : Content) × (manifest_of bytes ≡ Ok content)
    × (c.shelf'.holds target ≡ rewritten (c.shelf.holds target) (keys_bytes (generated_keys seed content.graph content.words)))

-- the same of `keygen --seeds`: the target holds the key file in which each edge has the seed
abbrev pub WritesSeeds : Call → Type 0
WritesSeeds c = c.outcome ≡ Done → (seed net target bytes : List ℕ) → Spells c.words (keygen_seeds seed net target) → c.shelf.holds net ≡ held bytes →
    (content : Content) × (manifest_of bytes ≡ Ok content)
    × (c.shelf'.holds target ≡ rewritten (c.shelf.holds target) (seeds_bytes (seeds_of seed content.graph content.words)))

-- the same of `migrate`: the target holds the key file of the pads of the known key file
abbrev pub WritesPads : Call → Type 0
WritesPads c = c.outcome ≡ Done → (file target bytes : List ℕ) → Spells c.words (migrate file target) → c.shelf.holds file ≡ held bytes →
    (keys : Keys) × (keys_from_bytes bytes ≡ Ok keys) × (c.shelf'.holds target ≡ rewritten (c.shelf.holds target) (keys_bytes keys))

-- where `replay` is done, the view of the run of the net that its files make was printed
abbrev pub PrintsView : Call → Type 0
PrintsView c = c.outcome ≡ Done → (net : List ℕ) (workers : ℕ) → Spells c.words (replay net workers) → RunPrinted view_text net c.shelf c.shelf' c.out c.out'

-- where `logs` is done, the logs of the run of the net that its files make were printed
abbrev pub PrintsLogs : Call → Type 0
PrintsLogs c = c.outcome ≡ Done → (net : List ℕ) → Spells c.words (logs net) → RunPrinted logs_text net c.shelf c.shelf' c.out c.out'

-- where the shelf holds the files of a net, each of them is needed after those before it, they make a net, and no count of faults
-- rose, `replay` is done, or memory ran out
abbrev pub RunsNets : Call → Type 0
RunsNets c = (net : List ℕ) (workers : ℕ) (files : List File) (made : Net) → Spells c.words (replay net workers) → AreNeeded (net_step net) files →
    AreHeld c.shelf.holds files → net_step net (bytes_of files) ≡ makes made [] →
    (Rose c.shelf.faults c.shelf'.faults → ⊥) → (Rose c.out.faults c.out'.faults → ⊥) → (c.outcome ≡ Done) ⊎ (c.outcome ≡ NoMemory)

-- the same of `logs`
abbrev pub RunsLogs : Call → Type 0
RunsLogs c = (net : List ℕ) (files : List File) (made : Net) → Spells c.words (logs net) → AreNeeded (net_step net) files →
    AreHeld c.shelf.holds files → net_step net (bytes_of files) ≡ makes made [] →
    (Rose c.shelf.faults c.shelf'.faults → ⊥) → (Rose c.out.faults c.out'.faults → ⊥) → (c.outcome ≡ Done) ⊎ (c.outcome ≡ NoMemory)

-- where `trial` is done, the summary of the run of the net of its numbers was printed, whatever the number of workers; what it counts
-- is all that the stations had
abbrev pub PrintsSummary : Call → Type 0
PrintsSummary c = c.outcome ≡ Done → (seed stations count workers : ℕ) → Spells c.words (trial seed stations count workers) →
    (c.out'.written ≡ grown c.out.written (summary_of seed stations count)) × CountsAll stations (run_of (trial_net seed stations count))

-- where the count of faults of the output did not rise, `trial` is done, or memory ran out
abbrev pub RunsTrials : Call → Type 0
RunsTrials c = (seed stations count workers : ℕ) → Spells c.words (trial seed stations count workers) →
    (Rose c.out.faults c.out'.faults → ⊥) → (c.outcome ≡ Done) ⊎ (c.outcome ≡ NoMemory)
