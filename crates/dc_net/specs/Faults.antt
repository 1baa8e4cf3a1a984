-- The fault that stands for a disagreement of the parts of a net.
use Rattle.dc_net_rules.specs.Agreement.{Disagreement, key_stations, key_words, key_missing, key_stray, stream_missing, stream_stray, script_rounds, script_station, script_delivery, script_rule}
use Rattle.dc_net.specs.declared.fault.NetFault.{NetFault}
use Rattle.dc_net.specs.declared.fault.NetFault.TheVariants.{KeyStations, KeyWords, KeyMissing, KeyStray, StreamMissing, StreamStray, ScriptRounds, ScriptStation, ScriptDelivery, ScriptRule}

-- each disagreement has its fault
abbrev pub fault_of : Disagreement → NetFault
fault_of (key_stations told net) = KeyStations told net
fault_of (key_words told net) = KeyWords told net
fault_of (key_missing u v) = KeyMissing u v
fault_of (key_stray u v) = KeyStray u v
fault_of (stream_missing station) = StreamMissing station
fault_of (stream_stray station) = StreamStray station
fault_of (script_rounds told net) = ScriptRounds told net
fault_of (script_station round station) = ScriptStation round station
fault_of (script_delivery round) = ScriptDelivery round
fault_of (script_rule round station) = ScriptRule round station
