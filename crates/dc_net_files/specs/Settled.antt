-- What a shelf that holds the files decides.
use Rattle.std.specs.Prelude.{ℕ, ◌≡◌, List, All, Result, Ok, Err}
use Rattle.dc_spec.specs.Outside.{Holding, held, ShelfState, Rose}
use Rattle.dc_net.specs.Faults.{fault_of}
use Rattle.dc_net_files.specs.Steps.{File, Step, needs, refuses, differs, makes, Reader, bytes_of}
use Rattle.dc_net_files.specs.Reading.{AreNeeded}
use Rattle.dc_net_files.specs.declared.fault.NotRead.{NotRead}
use Rattle.dc_net_files.specs.declared.fault.NotRead.TheVariants.{Malformed, Disagree, NoMemory}

-- each of the files is held
abbrev pub AreHeld : (List ℕ → Holding) → List File → Type 0
AreHeld holds files = All (λ file. holds file.name ≡ held file.bytes) files

-- the answer is that of a step, or memory ran out; a step that needs a file has no answer
abbrev pub Settles : {A : Type 0} → Step A → Result A NotRead → Type 0
Settles (needs name limit) result = Unit {0}
Settles (refuses name fault) (Err (Malformed told seen)) = (told ≡ name) × (seen ≡ fault)
Settles (differs found) (Err (Disagree fault)) = fault ≡ fault_of found
Settles (makes x left) (Ok y) = y ≡ x
Settles _ (Err NoMemory) = Unit {0}
Settles _ _ = ⊥

-- where files are held, each is needed after those before it and no fault of the shelf occurred, the
-- answer is that of the step after them, or memory ran out
abbrev pub SettledByHeld : {A : Type 0} → Reader A → ShelfState → ShelfState → Result A NotRead → Type 0
SettledByHeld reader before after result =
    (files : List File) → AreNeeded reader files → AreHeld before.holds files → (Rose before.faults after.faults → ⊥)
    → Settles (reader (bytes_of files)) result
