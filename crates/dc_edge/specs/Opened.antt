-- Files: which fault an error is, and what an opened file gives.
use Rattle.std.specs.Prelude.{ℕ, ◌≡◌, ◌<◌, List, length, Result, Ok, Err}
use Rattle.std.specs.declared.io.ErrorKind.{ErrorKind}
use Rattle.std.specs.declared.io.ErrorKind.TheVariants as kinds
use Rattle.dc_edge.specs.declared.fault.ShelfFault.{ShelfFault}
use Rattle.dc_edge.specs.declared.fault.ShelfFault.TheVariants.{Missing, TooLong, Failed, NoMemory}
use Rattle.dc_edge.specs.declared.fault.WriteFault.{WriteFault}
use Rattle.dc_edge.specs.declared.fault.WriteFault.TheVariants as writes
use Rattle.dc_edge.specs.declared.fault.LinkFault.{LinkFault}
use Rattle.dc_edge.specs.declared.fault.LinkFault.TheVariants as links

-- the fault that an error of an opened file is
abbrev pub fault_of_kind : ErrorKind → ShelfFault
fault_of_kind kinds.OutOfMemory = NoMemory
fault_of_kind _ = Failed

-- the fault that an error at the opening of a file is
abbrev pub opening_fault : ErrorKind → ShelfFault
opening_fault kinds.NotFound = Missing
opening_fault kind = fault_of_kind kind

-- the fault that an error of a write is
abbrev pub write_fault_of_kind : ErrorKind → WriteFault
write_fault_of_kind kinds.OutOfMemory = writes.NoMemory
write_fault_of_kind _ = writes.Failed

-- the fault that an error of a connection is
abbrev pub link_fault_of_kind : ErrorKind → LinkFault
link_fault_of_kind kinds.OutOfMemory = links.NoMemory
link_fault_of_kind _ = links.Failed

-- all bytes that were left, or that they are more than the limit; a read may also fail
abbrev pub GivesRest : List ℕ → ℕ → Result (List ℕ) ShelfFault → Type 0
GivesRest left limit (Ok bytes) = bytes ≡ left
GivesRest left limit (Err TooLong) = limit < length left
GivesRest left limit (Err Missing) = ⊥
GivesRest left limit (Err Failed) = Unit {0}
GivesRest left limit (Err NoMemory) = Unit {0}
