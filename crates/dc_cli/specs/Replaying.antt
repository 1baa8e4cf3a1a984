-- The commands `replay` and `logs`: the net of a manifest is read and run, and a text of the run is put.
use Rattle.std.specs.Prelude.{ℕ, ◌≡◌, List, [], All, Result, Ok, Err}
use Rattle.dc_spec.specs.Outside.{ShelfState, SinkState, Tells, grown}
use Rattle.dc_spec.specs.Net.{Net, Run}
use Rattle.dc_edge.specs.Sink.{Puts}
use Rattle.dc_edge.specs.declared.fault.Failed.{Failed}
use Rattle.dc_net_rules.specs.Nets.{IsNet}
use Rattle.dc_net_rules.specs.Runs.{run_of}
use Rattle.dc_run_texts.specs.View.{view_text}
use Rattle.dc_run_texts.specs.Logs.{logs_text}
use Rattle.dc_net_files.specs.Parts.{net_step}
use Rattle.dc_net_files.specs.Steps.{File, makes, names_of, bytes_of}
use Rattle.dc_net_files.specs.Reading.{NetRead, AreNeeded}
use Rattle.dc_net_files.specs.Settled.{SettledByHeld}
use Rattle.dc_net_files.specs.declared.fault.NetFileFault.{NetFileFault}
use Rattle.dc_net_files.specs.declared.fault.NetFileFault.TheVariants as files
use Rattle.dc_net_files.specs.declared.fault.NotRead.{NotRead}
use Rattle.dc_net_files.specs.declared.fault.NotRead.TheVariants as refusals
use Rattle.dc_cli.specs.declared.replaying.Printed.{Printed}
use Rattle.dc_cli.specs.declared.replaying.Printed.TheVariants.{View, Logs}
use Rattle.dc_cli.specs.declared.outcome.FileFault.{FileFault}
use Rattle.dc_cli.specs.declared.outcome.FileFault.TheVariants.{Keys, Manifest, Stream, Script}
use Rattle.dc_cli.specs.declared.outcome.Outcome.{Outcome}
use Rattle.dc_cli.specs.declared.outcome.Outcome.TheVariants.{Done, Missing, TooLong, Malformed, Disagree, ShelfFault, SinkFault, NoMemory}

-- the fault of a file of a net, as that of a file
abbrev pub file_fault_of : NetFileFault → FileFault
file_fault_of (files.Manifest fault) = Manifest fault
file_fault_of (files.Keys fault) = Keys fault
file_fault_of (files.Stream fault) = Stream fault
file_fault_of (files.Script fault) = Script fault

-- the outcome of a net that was not read
abbrev pub outcome_of : NotRead → Outcome
outcome_of (refusals.Missing name) = Missing name
outcome_of (refusals.TooLong name) = TooLong name
outcome_of (refusals.Malformed name fault) = Malformed name (file_fault_of fault)
outcome_of (refusals.Disagree fault) = Disagree fault
outcome_of refusals.ShelfFault = ShelfFault
outcome_of refusals.NoMemory = NoMemory

-- the files of a net were read, with this answer
pub record ReadsNet (name : List ℕ) (before after : ShelfState) (answer : Result Net NotRead) : Type 0 where
  pub read : NetRead name before after answer
  pub settled : SettledByHeld (net_step name) before after answer

-- no net was read, and the outcome is that of the refusal
pub record RefusesNet (name : List ℕ) (before after : ShelfState) (outcome : Outcome) : Type 0 where
  pub refusal : NotRead
  pub reads : ReadsNet name before after (Err refusal)
  pub outcome_is : outcome ≡ outcome_of refusal

-- what is printed of a run: the view of its coalition, or the logs of the honest stations
abbrev pub text_of : Printed → Net → Run → List ℕ
text_of View = view_text
text_of Logs = logs_text

-- the text of the net's run was put, and this is how the put ended
pub record PutRun (text : Net → Run → List ℕ) (name : List ℕ) (shelf shelf' : ShelfState) (out out' : SinkState) (ended : Result Unit Failed) : Type 0 where
  pub net : Net
  pub reads : ReadsNet name shelf shelf' (Ok net)
  pub is_net : IsNet net
  pub put : Puts (text net (run_of net)) out out' ended

-- a net was run, and the text of its run was put; or memory ran out
abbrev pub RunPut : (Net → Run → List ℕ) → Net → SinkState → SinkState → Outcome → Type 0
RunPut text net out out' Done = IsNet net × Puts (text net (run_of net)) out out' (Ok tt)
RunPut text net out out' SinkFault = IsNet net × ((failed : Failed) × Puts (text net (run_of net)) out out' (Err failed))
RunPut text net out out' NoMemory = out' ≡ out
RunPut text net out out' _ = ⊥

-- what a command did that prints a text of the run of the net that its files make, by its outcome
abbrev pub NetRan : (Net → Run → List ℕ) → List ℕ → ShelfState → ShelfState → SinkState → SinkState → Outcome → Type 0
NetRan text name shelf shelf' out out' Done = PutRun text name shelf shelf' out out' (Ok tt)
NetRan text name shelf shelf' out out' SinkFault = (failed : Failed) × PutRun text name shelf shelf' out out' (Err failed)
NetRan text name shelf shelf' out out' NoMemory = (out' ≡ out) × ((answer : Result Net NotRead) × ReadsNet name shelf shelf' answer)
NetRan text name shelf shelf' out out' other = (out' ≡ out) × RefusesNet name shelf shelf' other

-- the text that was printed is that of the run of the net which the files make that the shelf was asked for: each is the one that
-- was needed next, and has the bytes that the shelf reports
pub record RunPrinted (text : Net → Run → List ℕ) (name : List ℕ) (shelf shelf' : ShelfState) (out out' : SinkState) : Type 0 where
  pub files : List File
  pub needed : AreNeeded (net_step name) files
  pub told : All (λ file. Tells (shelf.holds file.name) file.bytes) files
  pub net : Net
  pub is_net : IsNet net
  pub made : net_step name (bytes_of files) ≡ makes net []
  pub asked : shelf'.asked ≡ grown shelf.asked (names_of files)
  pub written : out'.written ≡ grown out.written (text net (run_of net))
