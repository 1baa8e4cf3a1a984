-- The promises of the commands that alter the pads of a net.
use Rattle.std.specs.Prelude.{ℕ, ◌≡◌, ◌≤◌, ◌⊎◌, List, [], ◌∷◌, ◌++◌, length, All, Option, Some, None}
use Rattle.dc_spec.specs.Outside.{ShelfState, held, Rose, Tells, grown}
use Rattle.dc_spec.specs.Net.{Net}
use Rattle.dc_edge.specs.Shelf.{rewritten}
use Rattle.dc_field.specs.declared.list_fault.ListFault.{ListFault}
use Rattle.dc_net_rules.specs.Nets.{IsNet}
use Rattle.dc_net_files.specs.Steps.{File, makes, names_of, bytes_of}
use Rattle.dc_net_files.specs.Parts.{net_step}
use Rattle.dc_net_files.specs.Reading.{AreNeeded}
use Rattle.dc_net_files.specs.Settled.{AreHeld}
use Rattle.dc_cli.specs.Altering.{Altered, misread, refused, altered, Alteration}
use Rattle.dc_cli.specs.Twinning.{twinning}
use Rattle.dc_cli.specs.Steering.{steering}
use Rattle.dc_cli.specs.Commands.{Task, sum, keygen, keygen_seeds, migrate, replay, logs, twin, steer, station, hub, trial, Spells}
use Rattle.dc_cli.specs.Promises.{Call}
use Rattle.dc_cli.specs.declared.outcome.CommandFault.{CommandFault}
use Rattle.dc_cli.specs.declared.outcome.FileFault.TheVariants as kinds
use Rattle.dc_cli.specs.declared.outcome.Outcome.TheVariants.{Done, Malformed, Refused, SinkFault, NoMemory}

-- the commands that alter the pads of the net of a manifest
abbrev pub alteration_of : Task → Option (List ℕ × Alteration)
alteration_of (sum file) = None
alteration_of (keygen seed net target) = None
alteration_of (keygen_seeds seed net target) = None
alteration_of (migrate keys target) = None
alteration_of (replay net workers) = None
alteration_of (logs net) = None
alteration_of (twin net perm target) = Some (net, twinning perm target)
alteration_of (steer net u v wanted target) = Some (net, steering u v wanted target)
alteration_of (station addr id keys stream) = None
alteration_of (hub addr stations count target) = None
alteration_of (trial seed stations count workers) = None

-- The net that the files of a manifest make, and what the list makes of it: each file is needed after those before it, and all have the
-- bytes that the shelf reports.
pub record Makes (source : List ℕ) (m : Alteration) (shelf : ShelfState) (due : Altered) : Type 0 where
  pub files : List File
  pub needed : AreNeeded (net_step source) files
  pub told : All (λ file. Tells (shelf.holds file.name) file.bytes) files
  pub net : Net
  pub is_net : IsNet net
  pub made : net_step source (bytes_of files) ≡ makes net []
  pub bytes : List ℕ
  pub listed : Tells (shelf.holds m.list) bytes
  pub due_is : m.alter net bytes ≡ due

-- the altered key file was written: the shelf was asked for all names, and the target holds the file, unless nothing was known of it
pub record WroteKeys (source : List ℕ) (m : Alteration) (shelf shelf' : ShelfState) : Type 0 where
  pub keys : List ℕ
  pub text : List ℕ
  pub made : Makes source m shelf (altered keys text)
  pub asked : shelf'.asked ≡ grown shelf.asked (names_of made.files ++ m.list ∷ m.target ∷ [])
  pub holds : shelf'.holds m.target ≡ rewritten (shelf.holds m.target) keys

-- the shelf holds the files of a net and a list within its limit
pub record HoldsAll (source : List ℕ) (m : Alteration) (shelf : ShelfState) (net : Net) (bytes : List ℕ) : Type 0 where
  pub files : List File
  pub needed : AreNeeded (net_step source) files
  pub held_files : AreHeld shelf.holds files
  pub made : net_step source (bytes_of files) ≡ makes net []
  pub listed : shelf.holds m.list ≡ held bytes
  pub within : length bytes ≤ m.limit

-- a command that alters the pads of the net of a manifest
pub record AltersPads (c : Call) (source : List ℕ) (m : Alteration) : Type 0 where
  -- where all is done, or the output failed, the altered key file was written
  pub wrote : (c.outcome ≡ Done) ⊎ (c.outcome ≡ SinkFault) → WroteKeys source m c.shelf c.shelf'
  -- where all is done, the text of this alteration was printed
  pub printed : c.outcome ≡ Done → (w : WroteKeys source m c.shelf c.shelf') × (c.out'.written ≡ grown c.out.written w.text)
  -- a reported refusal is that of the files
  pub refuses : (fault : CommandFault) → c.outcome ≡ Refused fault → Makes source m c.shelf (refused fault)
  -- a reported fault of a list is that of the list
  pub misreads : (name : List ℕ) (fault : ListFault) → c.outcome ≡ Malformed name (kinds.List fault) → (name ≡ m.list) × Makes source m c.shelf (misread fault)
  -- Where the shelf holds the files of a net and the list, and no count of faults rose:
  -- where the list alters the net, all is done, or memory ran out;
  pub complete : (net : Net) (bytes keys text : List ℕ) → HoldsAll source m c.shelf net bytes → m.alter net bytes ≡ altered keys text →
      (Rose c.shelf.faults c.shelf'.faults → ⊥) → (Rose c.out.faults c.out'.faults → ⊥) → (c.outcome ≡ Done) ⊎ (c.outcome ≡ NoMemory)
  -- where the command refuses, this is the outcome, or memory ran out;
  pub refusal : (net : Net) (bytes : List ℕ) (fault : CommandFault) → HoldsAll source m c.shelf net bytes → m.alter net bytes ≡ refused fault →
      (Rose c.shelf.faults c.shelf'.faults → ⊥) → (c.outcome ≡ Refused fault) ⊎ (c.outcome ≡ NoMemory)
  -- where the list has a fault, this is the outcome, or memory ran out
  pub malformed : (net : Net) (bytes : List ℕ) (fault : ListFault) → HoldsAll source m c.shelf net bytes → m.alter net bytes ≡ misread fault →
      (Rose c.shelf.faults c.shelf'.faults → ⊥) → (c.outcome ≡ Malformed m.list (kinds.List fault)) ⊎ (c.outcome ≡ NoMemory)

-- each of these commands does
abbrev pub AltersNets : Call → Type 0
AltersNets c = (command : Task) (source : List ℕ) (m : Alteration) → Spells c.words command → alteration_of command ≡ Some (source, m) → AltersPads c source m
