-- Commands that alter the pads of a net by a list: the files of the net and the list are read, the altered key file is written, and a
-- text of the alteration is put.
use Rattle.std.specs.Prelude.{ℕ, ◌≡◌, ◌⊎◌, List, Ok, Err, Result}
use Rattle.dc_spec.specs.Outside.{ShelfState, SinkState}
use Rattle.dc_spec.specs.Net.{Net}
use Rattle.dc_edge.specs.Shelf.{Reads, Writes}
use Rattle.dc_edge.specs.Sink.{Puts}
use Rattle.dc_edge.specs.declared.fault.Failed.{Failed}
use Rattle.dc_edge.specs.declared.fault.ShelfFault.TheVariants as faults
use Rattle.dc_edge.specs.declared.fault.WriteFault.{WriteFault}
use Rattle.dc_edge.specs.declared.fault.WriteFault.TheVariants as writes
use Rattle.dc_field.specs.declared.list_fault.ListFault.{ListFault}
use Rattle.dc_net_rules.specs.Nets.{IsNet}
use Rattle.dc_cli.specs.Reading.{Unasked, GaveBytes}
use Rattle.dc_cli.specs.Replaying.{ReadsNet, RefusesNet}
use Rattle.dc_cli.specs.declared.outcome.CommandFault.{CommandFault}
use Rattle.dc_cli.specs.declared.outcome.FileFault.TheVariants as files
use Rattle.dc_cli.specs.declared.outcome.Outcome.{Outcome}
use Rattle.dc_cli.specs.declared.outcome.Outcome.TheVariants.{Done, Missing, TooLong, Malformed, Refused, ShelfFault, SinkFault, NoMemory}

-- what the bytes of a list make of a net: a fault of the list, a refusal of the command, or the bytes of the altered key file and the
-- text of the alteration
pub data Altered : Type 0 where
  misread : ListFault → Altered
  refused : CommandFault → Altered
  altered : List ℕ → List ℕ → Altered

-- a command that alters the pads of a net: what a list makes of a net; the name of the list, and the most bytes that it may have; the
-- name of the key file that is written
pub record Alteration : Type 0 where
  pub alter : Net → List ℕ → Altered
  pub list : List ℕ
  pub limit : ℕ
  pub target : List ℕ

-- the list was read, and this is what it makes of the net
abbrev pub ListMakes : Alteration → Net → Altered → ShelfState → ShelfState → Type 0
ListMakes m net due before after = GaveBytes m.list m.limit before after (λ bytes. m.alter net bytes ≡ due)

-- the list was read, and this is how the write of the altered key file ended
pub record KeysWritten (m : Alteration) (net : Net) (before after : ShelfState) (ended : Result Unit WriteFault) : Type 0 where
  pub keys : List ℕ
  pub text : List ℕ
  pub between : ShelfState
  pub list : ListMakes m net (altered keys text) before between
  pub write : Writes m.target keys between after ended

-- the altered key file was written, and this is how the put of the text ended
pub record TextPut (m : Alteration) (net : Net) (before after : ShelfState) (out out' : SinkState) (ended : Result Unit Failed) : Type 0 where
  pub written : KeysWritten m net before after (Ok tt)
  pub put : Puts written.text out out' ended

-- what such a command did with a net that was read, by its outcome
abbrev pub AltersNet : Alteration → Net → ShelfState → ShelfState → SinkState → SinkState → Outcome → Type 0
AltersNet m net before after out out' Done = TextPut m net before after out out' (Ok tt)
AltersNet m net before after out out' SinkFault = (failed : Failed) × TextPut m net before after out out' (Err failed)
AltersNet m net before after out out' ShelfFault =
    (out' ≡ out) × (Reads m.list m.limit before after (Err faults.Failed) ⊎ KeysWritten m net before after (Err writes.Failed))
AltersNet m net before after out out' (Missing name) = (out' ≡ out) × (name ≡ m.list) × Reads m.list m.limit before after (Err faults.Missing)
AltersNet m net before after out out' (TooLong name) = (out' ≡ out) × (name ≡ m.list) × Reads m.list m.limit before after (Err faults.TooLong)
AltersNet m net before after out out' (Malformed name (files.List fault)) = (out' ≡ out) × (name ≡ m.list) × ListMakes m net (misread fault) before after
AltersNet m net before after out out' (Refused fault) = (out' ≡ out) × ListMakes m net (refused fault) before after
AltersNet m net before after out out' NoMemory = (out' ≡ out) × (Unasked before after ⊎ GaveBytes m.list m.limit before after (λ bytes. Unit {0}))
AltersNet m net before after out out' _ = ⊥

-- the net was read, and this is what the command did with it
pub record AfterNet (source : List ℕ) (m : Alteration) (before after : ShelfState) (out out' : SinkState) (outcome : Outcome) : Type 0 where
  pub net : Net
  pub is_net : IsNet net
  pub between : ShelfState
  pub reads : ReadsNet source before between (Ok net)
  pub alters : AltersNet m net between after out out' outcome

-- no net was read, and nothing was printed
pub record BeforeNet (source : List ℕ) (before after : ShelfState) (out out' : SinkState) (outcome : Outcome) : Type 0 where
  pub silent : out' ≡ out
  pub refuses : RefusesNet source before after outcome

-- what such a command did with the net of a manifest
abbrev pub AltersOf : List ℕ → Alteration → ShelfState → ShelfState → SinkState → SinkState → Outcome → Type 0
AltersOf source m before after out out' outcome = BeforeNet source before after out out' outcome ⊎ AfterNet source m before after out out' outcome

-- the bytes of an altered key file, and the text of the alteration
pub record AlteredKeys : Type 0 where
  pub keys : List ℕ
  pub text : List ℕ

-- what the bytes of a list made of a net, or why nothing was made
abbrev pub MadeOfList : Altered → List ℕ → Result AlteredKeys Outcome → Type 0
MadeOfList due list (Ok made) = due ≡ altered made.keys made.text
MadeOfList due list (Err (Malformed name (files.List fault))) = (name ≡ list) × (due ≡ misread fault)
MadeOfList due list (Err (Refused fault)) = due ≡ refused fault
MadeOfList due list (Err NoMemory) = Unit {0}
MadeOfList due list (Err _) = ⊥

-- the same where no fault of the list is possible any more
abbrev pub MadeOfNet : Altered → Result AlteredKeys Outcome → Type 0
MadeOfNet due (Ok made) = due ≡ altered made.keys made.text
MadeOfNet due (Err (Refused fault)) = due ≡ refused fault
MadeOfNet due (Err NoMemory) = Unit {0}
MadeOfNet due (Err _) = ⊥

-- the list of an alteration was read and made this, or why nothing was made, by what the shelf did; `due` is what its bytes make
abbrev pub ListMade : (List ℕ → Altered) → List ℕ → ℕ → ShelfState → ShelfState → Result AlteredKeys Outcome → Type 0
ListMade due list limit before after (Ok made) = GaveBytes list limit before after (λ bytes. due bytes ≡ altered made.keys made.text)
ListMade due list limit before after (Err (Missing name)) = (name ≡ list) × Reads list limit before after (Err faults.Missing)
ListMade due list limit before after (Err (TooLong name)) = (name ≡ list) × Reads list limit before after (Err faults.TooLong)
ListMade due list limit before after (Err (Malformed name (files.List fault))) =
    (name ≡ list) × GaveBytes list limit before after (λ bytes. due bytes ≡ misread fault)
ListMade due list limit before after (Err (Refused fault)) = GaveBytes list limit before after (λ bytes. due bytes ≡ refused fault)
ListMade due list limit before after (Err ShelfFault) = Reads list limit before after (Err faults.Failed)
ListMade due list limit before after (Err NoMemory) = Unasked before after ⊎ GaveBytes list limit before after (λ bytes. Unit {0})
ListMade due list limit before after (Err _) = ⊥

-- the altered key file was written and then the text was put, by the outcome of a command that ends with this
abbrev pub WritesThenPuts : List ℕ → List ℕ → List ℕ → ShelfState → ShelfState → SinkState → SinkState → Outcome → Type 0
WritesThenPuts target keys text before after out out' Done = Writes target keys before after (Ok tt) × Puts text out out' (Ok tt)
WritesThenPuts target keys text before after out out' SinkFault =
    Writes target keys before after (Ok tt) × ((failed : Failed) × Puts text out out' (Err failed))
WritesThenPuts target keys text before after out out' ShelfFault = (out' ≡ out) × Writes target keys before after (Err writes.Failed)
WritesThenPuts target keys text before after out out' NoMemory = (out' ≡ out) × (after ≡ before)
WritesThenPuts target keys text before after out out' _ = ⊥
