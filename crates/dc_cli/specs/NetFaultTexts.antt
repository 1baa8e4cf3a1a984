-- The texts of the faults of streams and scripts, and of nets whose parts do not agree.
use Rattle.std.specs.Prelude.{ℕ, List, ◌++◌, codes}
use Rattle.dc_stream.specs.declared.fault.StreamFault.{StreamFault}
use Rattle.dc_stream.specs.declared.fault.StreamKind.{StreamKind}
use Rattle.dc_stream.specs.declared.fault.StreamKind.TheVariants as stream
use Rattle.dc_script.specs.declared.fault.ScriptFault.{ScriptFault}
use Rattle.dc_script.specs.declared.fault.ScriptKind.{ScriptKind}
use Rattle.dc_script.specs.declared.fault.ScriptKind.TheVariants as script
use Rattle.dc_net.specs.declared.fault.NetFault.{NetFault}
use Rattle.dc_net.specs.declared.fault.NetFault.TheVariants.{KeyStations, KeyWords, KeyMissing, KeyStray, StreamMissing, StreamStray, ScriptRounds, ScriptStation, ScriptDelivery, ScriptRule, NoStation}
use Rattle.dc_cli.specs.Pieces.{numbered}

-- what is wrong with a line of a stream
abbrev pub stream_kind_text : StreamKind → List ℕ
stream_kind_text stream.NotText = codes " not-text"
stream_kind_text stream.Word = codes " word"
stream_kind_text stream.Order = codes " order"
stream_kind_text stream.TooMany = codes " too-many"
stream_kind_text stream.Number = codes " number"
stream_kind_text stream.Hex = codes " hex"
stream_kind_text (stream.Length seen) = numbered (codes " length seen=") seen

-- a fault of a stream: the line, then what is wrong with it
abbrev pub stream_fault_text : StreamFault → List ℕ
stream_fault_text fault = numbered (codes "line=") fault.line ++ stream_kind_text fault.kind

-- what is wrong with a line of a script
abbrev pub script_kind_text : ScriptKind → List ℕ
script_kind_text script.NotText = codes " not-text"
script_kind_text script.Header = codes " header"
script_kind_text script.Form = codes " form"
script_kind_text (script.Round told due) = numbered (codes " round told=") told ++ numbered (codes " due=") due
script_kind_text script.TooMany = codes " too-many"
script_kind_text script.Misplaced = codes " misplaced"
script_kind_text (script.Order station) = numbered (codes " order station=") station
script_kind_text script.Missing = codes " missing"
script_kind_text (script.Late told round) = numbered (codes " late told=") told ++ numbered (codes " round=") round
script_kind_text script.Unordered = codes " unordered"
script_kind_text script.Terms = codes " terms"

-- a fault of a script: the line, then what is wrong with it
abbrev pub script_fault_text : ScriptFault → List ℕ
script_fault_text fault = numbered (codes "line=") fault.line ++ script_kind_text fault.kind

-- a fault of a net: its name, then its fields
abbrev pub net_fault_text : NetFault → List ℕ
net_fault_text (KeyStations told net) = numbered (codes "key-stations told=") told ++ numbered (codes " net=") net
net_fault_text (KeyWords told net) = numbered (codes "key-words told=") told ++ numbered (codes " net=") net
net_fault_text (KeyMissing u v) = numbered (codes "key-missing u=") u ++ numbered (codes " v=") v
net_fault_text (KeyStray u v) = numbered (codes "key-stray u=") u ++ numbered (codes " v=") v
net_fault_text (StreamMissing station) = numbered (codes "stream-missing station=") station
net_fault_text (StreamStray station) = numbered (codes "stream-stray station=") station
net_fault_text (ScriptRounds told net) = numbered (codes "script-rounds told=") told ++ numbered (codes " net=") net
net_fault_text (ScriptStation round station) = numbered (codes "script-station round=") round ++ numbered (codes " station=") station
net_fault_text (ScriptDelivery round) = numbered (codes "script-delivery round=") round
net_fault_text (ScriptRule round station) = numbered (codes "script-rule round=") round ++ numbered (codes " station=") station
net_fault_text (NoStation station stations) = numbered (codes "no-station station=") station ++ numbered (codes " stations=") stations
