-- The texts of the faults of a manifest.
use Rattle.std.specs.Prelude.{ℕ, ℤ, List, ◌++◌, codes}
use Rattle.std.specs.Fmt.{signed_decimal}
use Rattle.dc_graph.specs.declared.fault.GraphFault.{GraphFault}
use Rattle.dc_graph.specs.declared.fault.GraphFault.TheVariants.{Stations, Ends, Repeated}
use Rattle.dc_manifest.specs.declared.fault.ManifestFault.{ManifestFault}
use Rattle.dc_manifest.specs.declared.fault.ManifestFault.TheVariants.{Toml, Unknown, Field, Kind, Range, Graph, Member, TooLarge}
use Rattle.dc_cli.specs.Pieces.{numbered}

-- a fault of a key graph: its name, then its fields
abbrev pub graph_fault_text : GraphFault → List ℕ
graph_fault_text (Stations seen) = numbered (codes "stations seen=") seen
graph_fault_text (Ends place) = numbered (codes "ends place=") place
graph_fault_text (Repeated place) = numbered (codes "repeated place=") place

-- a number that is out of its range, after the name of its field
abbrev pub range_text : List ℕ → ℤ → List ℕ
range_text name seen = codes "range name=" ++ name ++ (codes " seen=" ++ signed_decimal seen)

-- a fault of a manifest: its name, then its fields, or the fault of the key graph
abbrev pub manifest_fault_text : ManifestFault → List ℕ
manifest_fault_text Toml = codes "toml"
manifest_fault_text (Unknown name) = codes "unknown name=" ++ name
manifest_fault_text (Field name) = codes "field name=" ++ name
manifest_fault_text (Kind name) = codes "kind name=" ++ name
manifest_fault_text (Range name seen) = range_text name seen
manifest_fault_text (Graph fault) = codes "graph " ++ graph_fault_text fault
manifest_fault_text (Member place) = numbered (codes "member place=") place
manifest_fault_text (TooLarge symbols) = numbered (codes "too-large symbols=") symbols
