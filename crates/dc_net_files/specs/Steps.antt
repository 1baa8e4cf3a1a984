-- Files as questions and answers: what is needed next, by the bytes that were given so far.
use Rattle.std.specs.Prelude.{ℕ, List, [], ◌∷◌, map, Result, Ok, Err}
use Rattle.dc_net_rules.specs.Agreement.{Disagreement}
use Rattle.dc_net_files.specs.declared.fault.NetFileFault.{NetFileFault}

-- a file: its name and its bytes
pub record File : Type 0 where
  pub name : List ℕ
  pub bytes : List ℕ

-- a step: a file of this name and of at most so many bytes is needed; or the file of this name is
-- refused; or the parts differ; or something is made, and these bytes are left
pub data Step (A : Type 0) : Type 0 where
  needs : List ℕ → ℕ → Step A
  refuses : List ℕ → NetFileFault → Step A
  differs : Disagreement → Step A
  makes : A → List (List ℕ) → Step A

-- the step that comes of the bytes given so far, in the order in which they were needed
abbrev pub Reader : Type 0 → Type 0
Reader A = List (List ℕ) → Step A

-- the next reader takes what was made and the bytes that are left
infixr 10 ◌>>=◌
abbrev pub ◌>>=◌ : {A B : Type 0} → Step A → (A → Reader B) → Step B
needs name limit >>= next = needs name limit
refuses name fault >>= next = refuses name fault
differs found >>= next = differs found
makes x left >>= next = next x left

-- what a file's bytes are read as, or the fault of the file of this name
abbrev pub read_as : {A : Type 0} → List ℕ → Result A NetFileFault → Reader A
read_as name (Ok x) left = makes x left
read_as name (Err fault) left = refuses name fault

-- one file
abbrev pub file_step : {A : Type 0} → List ℕ → ℕ → (List ℕ → Result A NetFileFault) → Reader A
file_step name limit read [] = needs name limit
file_step name limit read (bytes ∷ left) = read_as name (read bytes) left

-- the names and the bytes of files
abbrev pub names_of : List File → List (List ℕ)
names_of files = map (λ file. file.name) files

abbrev pub bytes_of : List File → List (List ℕ)
bytes_of files = map (λ file. file.bytes) files
