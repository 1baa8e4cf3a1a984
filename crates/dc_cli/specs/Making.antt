-- Commands that make one file of another: a file is read, and what its bytes make is written.
use Rattle.std.specs.Prelude.{ℕ, ◌≡◌, ◌⊎◌, List, Result, Ok, Err}
use Rattle.dc_spec.specs.Outside.{ShelfState}
use Rattle.dc_edge.specs.Shelf.{Reads, Writes}
use Rattle.dc_edge.specs.declared.fault.ShelfFault.TheVariants as faults
use Rattle.dc_edge.specs.declared.fault.WriteFault.{WriteFault}
use Rattle.dc_edge.specs.declared.fault.WriteFault.TheVariants as writes
use Rattle.dc_cli.specs.Reading.{Unasked, GaveBytes}
use Rattle.dc_cli.specs.declared.outcome.FileFault.{FileFault}
use Rattle.dc_cli.specs.declared.outcome.Outcome.{Outcome}
use Rattle.dc_cli.specs.declared.outcome.Outcome.TheVariants.{Done, Missing, TooLong, Malformed, ShelfFault, NoMemory}

-- what the bytes of a file make, or why they make nothing; `due` is what bytes make, or their fault
abbrev pub MadeOfBytes : (List ℕ → Result (List ℕ) FileFault) → List ℕ → List ℕ → Result (List ℕ) Outcome → Type 0
MadeOfBytes due file read (Ok bytes) = due read ≡ Ok bytes
MadeOfBytes due file read (Err (Malformed name fault)) = (name ≡ file) × (due read ≡ Err fault)
MadeOfBytes due file read (Err NoMemory) = Unit {0}
MadeOfBytes due file read (Err _) = ⊥

-- what the bytes of a file make, or why they make nothing, by what the shelf did
abbrev pub MadeOfFile : (List ℕ → Result (List ℕ) FileFault) → List ℕ → ℕ → ShelfState → ShelfState → Result (List ℕ) Outcome → Type 0
MadeOfFile due file limit before after (Ok bytes) = GaveBytes file limit before after (λ read. due read ≡ Ok bytes)
MadeOfFile due file limit before after (Err (Missing name)) = (name ≡ file) × Reads file limit before after (Err faults.Missing)
MadeOfFile due file limit before after (Err (TooLong name)) = (name ≡ file) × Reads file limit before after (Err faults.TooLong)
MadeOfFile due file limit before after (Err (Malformed name fault)) = (name ≡ file) × GaveBytes file limit before after (λ read. due read ≡ Err fault)
MadeOfFile due file limit before after (Err ShelfFault) = Reads file limit before after (Err faults.Failed)
MadeOfFile due file limit before after (Err NoMemory) = Unasked before after ⊎ GaveBytes file limit before after (λ read. Unit {0})
MadeOfFile due file limit before after (Err _) = ⊥

-- a file was written, by the outcome of a command that ends with this
abbrev pub WritesFile : List ℕ → List ℕ → ShelfState → ShelfState → Outcome → Type 0
WritesFile file bytes before after Done = Writes file bytes before after (Ok tt)
WritesFile file bytes before after ShelfFault = Writes file bytes before after (Err writes.Failed)
WritesFile file bytes before after NoMemory = after ≡ before
WritesFile file bytes before after _ = ⊥

-- a command that makes one file of another: what bytes make, or their fault; the file that is read, and the most bytes that it may
-- have; the name that is written
pub record Making : Type 0 where
  pub due : List ℕ → Result (List ℕ) FileFault
  pub source : List ℕ
  pub limit : ℕ
  pub target : List ℕ

-- the file was read, and this is how the write of what its bytes make ended
pub record Written (m : Making) (before after : ShelfState) (ended : Result Unit WriteFault) : Type 0 where
  pub bytes : List ℕ
  pub between : ShelfState
  pub made : GaveBytes m.source m.limit before between (λ read. m.due read ≡ Ok bytes)
  pub write : Writes m.target bytes between after ended

-- what such a command did with the shelf, by its outcome
abbrev pub MakesOf : Making → ShelfState → ShelfState → Outcome → Type 0
MakesOf m before after Done = Written m before after (Ok tt)
MakesOf m before after ShelfFault = Reads m.source m.limit before after (Err faults.Failed) ⊎ Written m before after (Err writes.Failed)
MakesOf m before after other = MadeOfFile m.due m.source m.limit before after (Err other)
