-- The line that each outcome puts on the sink of faults.
use Rattle.std.specs.Prelude.{ℕ, List, [], ◌++◌, codes}
use Rattle.dc_spec.specs.Text.{line}
use Rattle.dc_superpose.specs.declared.fault.TranscriptFault.{TranscriptFault}
use Rattle.dc_superpose.specs.declared.fault.TranscriptFault.TheVariants.{Truncated, Magic, Stations, Words, Symbol, Rest}
use Rattle.dc_cli.specs.Pieces.{numbered}
use Rattle.dc_cli.specs.KeyFaultText.{key_fault_text}
use Rattle.dc_cli.specs.PeerFaultText.{peer_text}
use Rattle.dc_cli.specs.ManifestFaultText.{manifest_fault_text}
use Rattle.dc_cli.specs.NetFaultTexts.{stream_fault_text, script_fault_text, net_fault_text}
use Rattle.dc_cli.specs.RefusalTexts.{list_fault_text, command_fault_text}
use Rattle.dc_cli.specs.declared.outcome.FileFault.{FileFault}
use Rattle.dc_cli.specs.declared.outcome.FileFault.TheVariants.{Transcript, Keys, Manifest, Stream, Script}
use Rattle.dc_cli.specs.declared.outcome.FileFault.TheVariants as files
use Rattle.dc_cli.specs.declared.outcome.Outcome.{Outcome}
use Rattle.dc_cli.specs.declared.outcome.Outcome.TheVariants.{Done, Usage, Missing, TooLong, Malformed, Disagree, Refused, ShelfFault, SinkFault, WireFault, Peer, NoMemory}

-- a fault of a transcript: its name, then its fields
abbrev pub transcript_fault_text : TranscriptFault → List ℕ
transcript_fault_text (Truncated at need) = numbered (codes "truncated at=") at ++ numbered (codes " need=") need
transcript_fault_text Magic = codes "magic"
transcript_fault_text (Stations seen) = numbered (codes "stations seen=") seen
transcript_fault_text (Words seen) = numbered (codes "words seen=") seen
transcript_fault_text (Symbol at seen) = numbered (codes "symbol at=") at ++ numbered (codes " seen=") seen
transcript_fault_text (Rest at) = numbered (codes "rest at=") at

-- a fault of a file: that of its format
abbrev pub file_fault_text : FileFault → List ℕ
file_fault_text (Transcript fault) = transcript_fault_text fault
file_fault_text (Keys fault) = key_fault_text fault
file_fault_text (Manifest fault) = manifest_fault_text fault
file_fault_text (Stream fault) = stream_fault_text fault
file_fault_text (Script fault) = script_fault_text fault
file_fault_text (files.List fault) = list_fault_text fault

-- the text of each outcome
abbrev pub outcome_text : Outcome → List ℕ
outcome_text Done = []
outcome_text (Usage place) = numbered (codes "usage: word ") place
outcome_text (Missing name) = name ++ codes ": missing"
outcome_text (TooLong name) = name ++ codes ": too long"
outcome_text (Malformed name fault) = name ++ codes ": malformed: " ++ file_fault_text fault
outcome_text (Disagree fault) = codes "files disagree: " ++ net_fault_text fault
outcome_text (Refused fault) = codes "refused: " ++ command_fault_text fault
outcome_text ShelfFault = codes "file fault"
outcome_text SinkFault = codes "output fault"
outcome_text WireFault = codes "wire fault"
outcome_text (Peer peer fault) = peer_text peer fault
outcome_text NoMemory = codes "no memory"

-- the line of an outcome that is not `Done`
abbrev pub outcome_line : Outcome → List ℕ
outcome_line outcome = codes "dcnet: " ++ line (outcome_text outcome)

-- what an outcome puts on the sink of faults: its line, and nothing where all was done
abbrev pub fault_line : Outcome → List ℕ
fault_line Done = []
fault_line other = outcome_line other
