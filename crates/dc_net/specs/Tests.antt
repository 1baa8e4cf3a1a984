-- The tests of a net, in three groups: the keys, the streams, the script.
use Rattle.std.specs.Prelude.{ℕ, Bool, ◌||◌, ◌==◌, [], ◌∷◌, length, Option, Some, None, option_map, if◌then◌else◌}
use Rattle.std.specs.List.{range_with_len, enumerate_from, list_any}
use Rattle.dc_spec.specs.Scripts.{Said}
use Rattle.dc_spec.specs.Net.{Net}
use Rattle.dc_net_rules.specs.Agreement.{Disagreement, key_stations, key_words, script_rounds, first_of, first_by, missing_key, stray_key, stream_fault, station_fault, delivery_fault, rule_fault, names_no_station, names_member_now}
use Rattle.dc_net.specs.declared.fault.NetFault.{NetFault}
use Rattle.dc_net.specs.Faults.{fault_of}

-- the fault that stands for a disagreement, where there is one
abbrev pub as_fault : Option Disagreement → Option NetFault
as_fault found = option_map fault_of found

-- the key file is for as many stations
abbrev pub stations_test : Net → Option Disagreement
stations_test net = if net.keys.stations == net.stations then None else Some (key_stations net.keys.stations net.stations)

-- the key file is for as many words
abbrev pub words_test : Net → Option Disagreement
words_test net = if net.keys.words == net.words then None else Some (key_words net.keys.words net.words)

-- both
abbrev pub sizes_test : Net → Option Disagreement
sizes_test net = first_of (stations_test net ∷ words_test net ∷ [])

-- the tests of the keys
abbrev pub keys_test : Net → Option Disagreement
keys_test net = first_of (sizes_test net ∷ missing_key net ∷ stray_key net ∷ [])

-- the tests of the streams
abbrev pub streams_test : Net → Option Disagreement
streams_test net = first_by (stream_fault net) (range_with_len 0 net.stations)

-- as many rounds as words
abbrev pub rounds_test : Net → Option Disagreement
rounds_test net = if length net.script.rounds == net.words then None else Some (script_rounds (length net.script.rounds) net.words)

-- the stations of the words of each round
abbrev pub stations_tests : Net → Option Disagreement
stations_tests net = first_by (station_fault net) (enumerate_from 0 net.script.rounds)

-- the delivery of each round
abbrev pub deliveries_test : Net → Option Disagreement
deliveries_test net = first_by (delivery_fault net) (enumerate_from 0 net.script.rounds)

-- the terms of each round
abbrev pub rules_test : Net → Option Disagreement
rules_test net = first_by (rule_fault net) (enumerate_from 0 net.script.rounds)

-- the tests of the script
abbrev pub script_test : Net → Option Disagreement
script_test net = first_of (rounds_test net ∷ stations_tests net ∷ deliveries_test net ∷ rules_test net ∷ [])

-- whether a word said has a faulty term
abbrev pub is_said_by_faulty_rule : Net → ℕ → Said → Bool
is_said_by_faulty_rule net round said = list_any (λ term. names_no_station net term || names_member_now net round term) said.terms

-- whether a word dealt has one
abbrev pub is_dealt_by_faulty_rule : Net → Said → Bool
is_dealt_by_faulty_rule net said = list_any (names_no_station net) said.terms
