-- What a reader did to a shelf, by how it ended.
use Rattle.std.specs.Prelude.{ℕ, ◌≤◌, ◌≡◌, List, [], ◌∷◌, ◌++◌, length, All, Result, Ok, Err}
use Rattle.dc_spec.specs.Outside.{ShelfState, Tells, grown}
use Rattle.dc_edge.specs.Shelf.{Reads}
use Rattle.dc_edge.specs.declared.fault.ShelfFault.{ShelfFault}
use Rattle.dc_edge.specs.declared.fault.ShelfFault.TheVariants as causes
use Rattle.dc_net_rules.specs.Agreement.{Disagreement, Agrees}
use Rattle.dc_spec.specs.Net.{Net}
use Rattle.dc_net.specs.Checked.{Disagrees}
use Rattle.dc_net.specs.Faults.{fault_of}
use Rattle.dc_net.specs.declared.fault.NetFault.{NetFault}
use Rattle.dc_net_files.specs.Steps.{File, Step, needs, refuses, differs, makes, Reader, names_of, bytes_of}
use Rattle.dc_net_files.specs.Parts.{HasFault, net_step}
use Rattle.dc_net_files.specs.declared.fault.NetFileFault.{NetFileFault}
use Rattle.dc_net_files.specs.declared.fault.NotRead.{NotRead}
use Rattle.dc_net_files.specs.declared.fault.NotRead.TheVariants.{Missing, TooLong, Malformed, Disagree, ShelfFault as ShelfFailed, NoMemory}

-- a file is the one that a step needs, within its limit
abbrev pub Meets : {A : Type 0} → Step A → File → Type 0
Meets (needs name limit) file = (file.name ≡ name) × (length file.bytes ≤ limit)
Meets _ file = ⊥

-- each file is the one that was needed after those before it
abbrev pub AreNeeded : {A : Type 0} → Reader A → List File → Type 0
AreNeeded reader [] = Unit {0}
AreNeeded reader (file ∷ files) =
    Meets (reader []) file × AreNeeded (λ more. reader (file.bytes ∷ more)) files

-- the shelf was asked for these files in order, and gave them: each was needed, and has the bytes
-- that the shelf reports, where it reports them; all files stay
pub record Gave {A : Type 0} (reader : Reader A) (files : List File) (before after : ShelfState) : Type 0 where
  pub needed : AreNeeded reader files
  pub kept : after.holds ≡ before.holds
  pub asked : after.asked ≡ grown before.asked (names_of files)
  pub counted : before.faults ≤ after.faults
  pub bytes : All (λ file. Tells (before.holds file.name) file.bytes) files

-- the shelf gave files, and with more bytes the reader goes on as the next one
pub record Reaches {A : Type 0} (reader next : Reader A) (before after : ShelfState) : Type 0 where
  pub files : List File
  pub gave : Gave reader files before after
  pub goes_on : (more : List (List ℕ)) → reader (bytes_of files ++ more) ≡ next more

-- the shelf gave files, and not the one that was needed then
pub record Stops {A : Type 0} (reader : Reader A) (name : List ℕ) (cause : ShelfFault) (before after : ShelfState) : Type 0 where
  pub files : List File
  pub middle : ShelfState
  pub gave : Gave reader files before middle
  pub limit : ℕ
  pub needed : reader (bytes_of files) ≡ needs name limit
  pub read : Reads name limit middle after (Err cause)

-- the last file that the shelf gave has a fault
pub record Refuses {A : Type 0} (reader : Reader A) (name : List ℕ) (fault : NetFileFault) (before after : ShelfState) : Type 0 where
  pub front : List File
  pub last : File
  pub gave : Gave reader (front ++ last ∷ []) before after
  pub refused : reader (bytes_of (front ++ last ∷ [])) ≡ refuses name fault
  pub named : last.name ≡ name
  pub has : HasFault last.bytes fault

-- the parts of the files that the shelf gave differ
pub record Differs {A : Type 0} (reader : Reader A) (fault : NetFault) (before after : ShelfState) : Type 0 where
  pub files : List File
  pub gave : Gave reader files before after
  pub found : Disagreement
  pub differ : reader (bytes_of files) ≡ differs found
  pub is : fault ≡ fault_of found

-- what a reader made, or why it made nothing
abbrev pub Ended : {A : Type 0} → Reader A → ShelfState → ShelfState → Result A NotRead → Type 0
Ended reader before after (Ok x) = Reaches reader (makes x) before after
Ended reader before after (Err (Missing name)) = Stops reader name causes.Missing before after
Ended reader before after (Err (TooLong name)) = Stops reader name causes.TooLong before after
Ended reader before after (Err (Malformed name fault)) = Refuses reader name fault before after
Ended reader before after (Err (Disagree fault)) = Differs reader fault before after
Ended reader before after (Err ShelfFailed) = (name : List ℕ) × Stops reader name causes.Failed before after
Ended reader before after (Err NoMemory) = (files : List File) × Gave reader files before after

-- the net where its parts agree, or in what they differ
abbrev pub Agreed : Net → Result Net NotRead → Type 0
Agreed net (Ok checked) = (checked ≡ net) × Agrees net
Agreed net (Err (Disagree fault)) = Disagrees net fault
Agreed net (Err _) = ⊥

-- the net of the files that a manifest of this name names, or why there is none
abbrev pub NetRead : List ℕ → ShelfState → ShelfState → Result Net NotRead → Type 0
NetRead name before after result = Ended (net_step name) before after result
