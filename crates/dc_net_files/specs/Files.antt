-- Reading one file, by how it ended.
use Rattle.std.specs.Prelude.{ℕ, ◌≡◌, List, Result, Ok, Err}
use Rattle.dc_spec.specs.Outside.{ShelfState}
use Rattle.dc_edge.specs.Shelf.{Reads}
use Rattle.dc_edge.specs.declared.fault.ShelfFault.TheVariants as causes
use Rattle.dc_field.specs.declared.refusal.Refusal.{Refusal}
use Rattle.dc_field.specs.declared.refusal.Refusal.TheVariants as refusals
use Rattle.dc_net_files.specs.declared.fault.NetFileFault.{NetFileFault}
use Rattle.dc_net_files.specs.declared.fault.NotRead.{NotRead}
use Rattle.dc_net_files.specs.declared.fault.NotRead.TheVariants.{Missing, TooLong, Malformed, Disagree, ShelfFault, NoMemory}

-- memory ran out before the name was asked for, and nothing changed
pub record Unasked (before after : ShelfState) : Type 0 where
  pub kept : after.holds ≡ before.holds
  pub asked : after.asked ≡ before.asked
  pub faults : after.faults ≡ before.faults

-- the bytes of a file, or why there are none
abbrev pub FileRead : List ℕ → ℕ → ShelfState → ShelfState → Result (List ℕ) NotRead → Type 0
FileRead file limit before after (Ok bytes) = Reads file limit before after (Ok bytes)
FileRead file limit before after (Err (Missing name)) = (name ≡ file) × Reads file limit before after (Err causes.Missing)
FileRead file limit before after (Err (TooLong name)) = (name ≡ file) × Reads file limit before after (Err causes.TooLong)
FileRead file limit before after (Err ShelfFault) = Reads file limit before after (Err causes.Failed)
FileRead file limit before after (Err NoMemory) = Unasked before after
FileRead file limit before after (Err (Malformed name fault)) = ⊥
FileRead file limit before after (Err (Disagree fault)) = ⊥

-- the fault of a file with the file's name, or there was no memory for the name
abbrev pub TellsFault : List ℕ → NetFileFault → NotRead → Type 0
TellsFault file fault (Malformed name seen) = (name ≡ file) × (seen ≡ fault)
TellsFault file fault NoMemory = Unit {0}
TellsFault file fault _ = ⊥

-- what a file was read as, or its fault with the file's name
abbrev pub Named : {A : Type 0} → List ℕ → Result A (Refusal NetFileFault) → Result A NotRead → Type 0
Named file (Ok x) (Ok y) = y ≡ x
Named file (Err (refusals.Bad fault)) (Err result) = TellsFault file fault result
Named file (Err refusals.NoMemory) (Err NoMemory) = Unit {0}
Named file _ _ = ⊥
