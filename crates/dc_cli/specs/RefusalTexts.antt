-- The texts of the faults of lists, and of refused twins and steerings.
use Rattle.std.specs.Prelude.{ℕ, List, ◌++◌, codes}
use Rattle.dc_field.specs.declared.list_fault.ListFault.{ListFault}
use Rattle.dc_field.specs.declared.list_fault.ListKind.{ListKind}
use Rattle.dc_field.specs.declared.list_fault.ListKind.TheVariants as kinds
use Rattle.dc_twin.specs.declared.fault.TwinFault.{TwinFault}
use Rattle.dc_twin.specs.declared.fault.TwinFault.TheVariants.{PermCount, Perm, NotJoined, NotAlike}
use Rattle.dc_steer.specs.declared.fault.SteerFault.{SteerFault}
use Rattle.dc_steer.specs.declared.fault.SteerFault.TheVariants.{NotNeighbours, NotHonest, NeverDiffered, SumDelivery, RuledRound, WantedWords}
use Rattle.dc_cli.specs.Pieces.{numbered}
use Rattle.dc_cli.specs.declared.outcome.CommandFault.{CommandFault}
use Rattle.dc_cli.specs.declared.outcome.CommandFault.TheVariants.{Twin, Steer}

-- what is wrong with a line of a list
abbrev pub list_kind_text : ListKind → List ℕ
list_kind_text kinds.NotText = codes " not-text"
list_kind_text kinds.TooMany = codes " too-many"
list_kind_text kinds.Number = codes " number"
list_kind_text kinds.Word = codes " word"

-- a fault of a list: the line, then what is wrong with it
abbrev pub list_fault_text : ListFault → List ℕ
list_fault_text fault = numbered (codes "line=") fault.line ++ list_kind_text fault.kind

-- why there is no twin: the name of the fault, then its fields
abbrev pub twin_fault_text : TwinFault → List ℕ
twin_fault_text (PermCount have need) = numbered (codes "perm-count have=") have ++ numbered (codes " need=") need
twin_fault_text (Perm place) = numbered (codes "perm place=") place
twin_fault_text (NotJoined station image) = numbered (codes "not-joined station=") station ++ numbered (codes " image=") image
twin_fault_text (NotAlike round first second) =
    numbered (codes "not-alike round=") round ++ numbered (codes " first=") first ++ numbered (codes " second=") second

-- why there is no steering
abbrev pub steer_fault_text : SteerFault → List ℕ
steer_fault_text (NotNeighbours u v) = numbered (codes "not-neighbours u=") u ++ numbered (codes " v=") v
steer_fault_text (NotHonest station) = numbered (codes "not-honest station=") station
steer_fault_text NeverDiffered = codes "never-differed"
steer_fault_text (SumDelivery round) = numbered (codes "sum-delivery round=") round
steer_fault_text (RuledRound round) = numbered (codes "ruled-round round=") round
steer_fault_text (WantedWords have need) = numbered (codes "wanted-words have=") have ++ numbered (codes " need=") need

-- why a command does not do what the words ask for
abbrev pub command_fault_text : CommandFault → List ℕ
command_fault_text (Twin fault) = twin_fault_text fault
command_fault_text (Steer fault) = steer_fault_text fault
