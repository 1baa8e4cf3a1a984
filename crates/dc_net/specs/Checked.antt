-- Nets whose parts agree, and the answer of the check.
use Rattle.std.specs.Prelude.{◌<◌, ◌≡◌, length, All, Option, Some, Result, Ok, Err}
use Rattle.dc_spec.specs.Entries.{Stream}
use Rattle.dc_spec.specs.Net.{Net}
use Rattle.dc_formats.specs.StreamFile.{IsStream}
use Rattle.dc_net_rules.specs.Agreement.{Disagreement, disagreement, Agrees}
use Rattle.dc_net.specs.declared.fault.NetFault.{NetFault}
use Rattle.dc_net.specs.Faults.{fault_of}

-- a net with a place in its streams for each station, with members that are stations, whose parts
-- agree
pub record IsChecked (net : Net) : Type 0 where
  pub agrees : Agrees net
  pub streams : length net.streams ≡ net.stations
  pub members : All (λ m. m < net.stations) net.coalition

-- a place of a station has a stream within the limits, or none
abbrev pub KeepsStream : Option Stream → Type 0
KeepsStream place = (s : Stream) → place ≡ Some s → IsStream s

-- a fault that stands for the first disagreement of the parts of a net
pub record Disagrees (net : Net) (fault : NetFault) : Type 0 where
  pub found : Disagreement
  pub is_first : disagreement net ≡ Some found
  pub stands : fault ≡ fault_of found

-- the net itself where its parts agree, and else the fault of their first disagreement
abbrev pub Checks : Net → Result Net NetFault → Type 0
Checks net (Ok checked) = (checked ≡ net) × Agrees net
Checks net (Err fault) = Disagrees net fault
