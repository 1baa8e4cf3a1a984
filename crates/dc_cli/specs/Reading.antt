-- Reading one file, by how it ended, and the outcome of a fault in it.
use Rattle.std.specs.Prelude.{ℕ, ◌≡◌, List, Result, Ok, Err}
use Rattle.dc_spec.specs.Outside.{ShelfState}
use Rattle.dc_edge.specs.Shelf.{Reads}
use Rattle.dc_edge.specs.declared.fault.ShelfFault.TheVariants as faults
use Rattle.dc_cli.specs.declared.outcome.FileFault.{FileFault}
use Rattle.dc_cli.specs.declared.outcome.Outcome.{Outcome}
use Rattle.dc_cli.specs.declared.outcome.Outcome.TheVariants.{Done, Usage, Missing, TooLong, Malformed, Disagree, Refused, ShelfFault, SinkFault, WireFault, Peer, NoMemory}

-- memory ran out before the name was asked for, and nothing changed
abbrev pub Unasked : ShelfState → ShelfState → Type 0
Unasked before after = (after.holds ≡ before.holds) × (after.asked ≡ before.asked) × (after.faults ≡ before.faults)

-- the bytes of a file, or the outcome for the shelf's answer
abbrev pub ReadsFile : List ℕ → ℕ → ShelfState → ShelfState → Result (List ℕ) Outcome → Type 0
ReadsFile file limit before after (Ok bytes) = Reads file limit before after (Ok bytes)
ReadsFile file limit before after (Err (Missing name)) = (name ≡ file) × Reads file limit before after (Err faults.Missing)
ReadsFile file limit before after (Err (TooLong name)) = (name ≡ file) × Reads file limit before after (Err faults.TooLong)
ReadsFile file limit before after (Err ShelfFault) = Reads file limit before after (Err faults.Failed)
ReadsFile file limit before after (Err NoMemory) = Unasked before after
ReadsFile file limit before after (Err Done) = ⊥
ReadsFile file limit before after (Err (Usage place)) = ⊥
ReadsFile file limit before after (Err (Disagree fault)) = ⊥
ReadsFile file limit before after (Err (Refused fault)) = ⊥
ReadsFile file limit before after (Err (Malformed name fault)) = ⊥
ReadsFile file limit before after (Err SinkFault) = ⊥
ReadsFile file limit before after (Err WireFault) = ⊥
ReadsFile file limit before after (Err (Peer who fault)) = ⊥

-- the shelf was asked for the file alone and gave bytes within the limit, of which this holds
pub record GaveBytes (file : List ℕ) (limit : ℕ) (before after : ShelfState) (Holds : List ℕ → Type 0) : Type 0 where
  pub bytes : List ℕ
  pub read : Reads file limit before after (Ok bytes)
  pub holds : Holds bytes

-- the outcome of a file's fault: the file is malformed, or there was no memory for its name
abbrev pub TellsFault : List ℕ → FileFault → Outcome → Type 0
TellsFault file fault (Malformed name seen) = (name ≡ file) × (seen ≡ fault)
TellsFault file fault NoMemory = Unit {0}
TellsFault file fault _ = ⊥
