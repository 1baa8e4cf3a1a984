-- Statuses, fault lines and limits, each with its number or text, by computation.
use Rattle.std.proofs.Common.{◌≡◌, true, false, pos, negsuc, [], ◌∷◌, ◌++◌, refl}
use Rattle.std.specs.Prelude.{codes}
use Rattle.std.specs.Fmt.{digits}
use Rattle.dc_spec.specs.Limits.{transcript_limit, manifest_limit, key_file_limit, permutation_limit, wanted_words_limit}
use Rattle.dc_superpose.specs.declared.fault.TranscriptFault.TheVariants.{Truncated, Magic, Stations, Words, Symbol, Rest}
use Rattle.dc_keyfile.specs.declared.fault.KeyFault.TheVariants as key
use Rattle.dc_graph.specs.declared.fault.GraphFault.TheVariants as graph
use Rattle.dc_manifest.specs.declared.fault.ManifestFault.TheVariants as manifest
use Rattle.dc_stream.specs.declared.fault.StreamKind.TheVariants as stream
use Rattle.dc_script.specs.declared.fault.ScriptKind.TheVariants as script
use Rattle.dc_net.specs.declared.fault.NetFault.TheVariants as net
use Rattle.dc_field.specs.declared.list_fault.ListKind.TheVariants as line_kinds
use Rattle.dc_twin.specs.declared.fault.TwinFault.TheVariants as twins
use Rattle.dc_steer.specs.declared.fault.SteerFault.TheVariants as steerings
use Rattle.dc_live.specs.declared.fault.PeerFault.TheVariants as peers
use Rattle.dc_frame.specs.declared.fault.FrameKind.TheVariants as frames
use Rattle.dc_cli.specs.Forms.{is_form, longest_begun}
use Rattle.dc_cli.specs.Lines.{fault_line}
use Rattle.dc_cli.specs.Outcomes.{status_of}
use Rattle.dc_cli.specs.declared.outcome.FileFault.TheVariants.{Transcript, Keys, Manifest, Stream, Script, List as Listed}
use Rattle.dc_cli.specs.declared.outcome.CommandFault.TheVariants.{Twin, Steer}
use Rattle.dc_cli.specs.declared.outcome.Outcome.TheVariants.{Done, Usage, Missing, TooLong, Malformed, Disagree, Refused, ShelfFault, SinkFault, WireFault, Peer, NoMemory}

-- the most bytes of each file
limit-transcript : transcript_limit ≡ 134217728
limit-transcript = refl

limit-manifest : manifest_limit ≡ 1048576
limit-manifest = refl

limit-key_file : key_file_limit ≡ 269484032
limit-key_file = refl

limit-permutation : permutation_limit ≡ 4096
limit-permutation = refl

limit-wanted_words : wanted_words_limit ≡ 1048576
limit-wanted_words = refl

-- ---- statuses

status-Done : status_of Done ≡ 0
status-Done = refl

status-Usage : status_of (Usage 7) ≡ 2
status-Usage = refl

status-Missing : status_of (Missing (codes "t.bin")) ≡ 3
status-Missing = refl

status-TooLong : status_of (TooLong (codes "t.bin")) ≡ 4
status-TooLong = refl

status-Malformed : status_of (Malformed (codes "t.bin") (Transcript Magic)) ≡ 5
status-Malformed = refl

status-ShelfFault : status_of ShelfFault ≡ 8
status-ShelfFault = refl

status-SinkFault : status_of SinkFault ≡ 9
status-SinkFault = refl

status-NoMemory : status_of NoMemory ≡ 12
status-NoMemory = refl

-- ---- lines; 10 is the line feed

line-Done : fault_line Done ≡ []
line-Done = refl

line-Usage : fault_line (Usage 12) ≡ codes "dcnet: usage: word 12" ++ 10 ∷ []
unfolding digits
line-Usage = refl

line-Missing : fault_line (Missing (codes "t.bin")) ≡ codes "dcnet: t.bin: missing" ++ 10 ∷ []
line-Missing = refl

line-TooLong : fault_line (TooLong (codes "t.bin")) ≡ codes "dcnet: t.bin: too long" ++ 10 ∷ []
line-TooLong = refl

line-ShelfFault : fault_line ShelfFault ≡ codes "dcnet: file fault" ++ 10 ∷ []
line-ShelfFault = refl

line-SinkFault : fault_line SinkFault ≡ codes "dcnet: output fault" ++ 10 ∷ []
line-SinkFault = refl

line-NoMemory : fault_line NoMemory ≡ codes "dcnet: no memory" ++ 10 ∷ []
line-NoMemory = refl

-- ---- the six faults of a transcript

line-Truncated : fault_line (Malformed (codes "t.bin") (Transcript (Truncated 135 136))) ≡ codes "dcnet: t.bin: malformed: truncated at=135 need=136" ++ 10 ∷ []
unfolding digits
line-Truncated = refl

line-Magic : fault_line (Malformed (codes "t.bin") (Transcript Magic)) ≡ codes "dcnet: t.bin: malformed: magic" ++ 10 ∷ []
line-Magic = refl

line-Stations : fault_line (Malformed (codes "t.bin") (Transcript (Stations 257))) ≡ codes "dcnet: t.bin: malformed: stations seen=257" ++ 10 ∷ []
unfolding digits
line-Stations = refl

line-Words : fault_line (Malformed (codes "t.bin") (Transcript (Words 0))) ≡ codes "dcnet: t.bin: malformed: words seen=0" ++ 10 ∷ []
unfolding digits
line-Words = refl

line-Symbol : fault_line (Malformed (codes "t.bin") (Transcript (Symbol 8 65537))) ≡ codes "dcnet: t.bin: malformed: symbol at=8 seen=65537" ++ 10 ∷ []
unfolding digits
line-Symbol = refl

line-Rest : fault_line (Malformed (codes "t.bin") (Transcript (Rest 136))) ≡ codes "dcnet: t.bin: malformed: rest at=136" ++ 10 ∷ []
unfolding digits
line-Rest = refl

-- ---- the eleven faults of a key file

key-Truncated : fault_line (Malformed (codes "f") (Keys (key.Truncated 11 12))) ≡ codes "dcnet: f: malformed: truncated at=11 need=12" ++ 10 ∷ []
unfolding digits
key-Truncated = refl

key-Magic : fault_line (Malformed (codes "f") (Keys key.Magic)) ≡ codes "dcnet: f: malformed: magic" ++ 10 ∷ []
key-Magic = refl

key-Version : fault_line (Malformed (codes "f") (Keys (key.Version 3))) ≡ codes "dcnet: f: malformed: version seen=3" ++ 10 ∷ []
unfolding digits
key-Version = refl

key-Stations : fault_line (Malformed (codes "f") (Keys (key.Stations 0))) ≡ codes "dcnet: f: malformed: stations seen=0" ++ 10 ∷ []
unfolding digits
key-Stations = refl

key-Words : fault_line (Malformed (codes "f") (Keys (key.Words 4097))) ≡ codes "dcnet: f: malformed: words seen=4097" ++ 10 ∷ []
unfolding digits
key-Words = refl

key-TooLarge : fault_line (Malformed (codes "f") (Keys (key.TooLarge 67108896))) ≡ codes "dcnet: f: malformed: too-large symbols=67108896" ++ 10 ∷ []
unfolding digits
key-TooLarge = refl

key-Pair : fault_line (Malformed (codes "f") (Keys (key.Pair 2))) ≡ codes "dcnet: f: malformed: pair place=2" ++ 10 ∷ []
unfolding digits
key-Pair = refl

key-Order : fault_line (Malformed (codes "f") (Keys (key.Order 1))) ≡ codes "dcnet: f: malformed: order place=1" ++ 10 ∷ []
unfolding digits
key-Order = refl

key-Symbol : fault_line (Malformed (codes "f") (Keys (key.Symbol 0 17 65537))) ≡ codes "dcnet: f: malformed: symbol pair=0 index=17 seen=65537" ++ 10 ∷ []
unfolding digits
key-Symbol = refl

key-FirstSecondPad : fault_line (Malformed (codes "f") (Keys (key.FirstSecondPad 3))) ≡ codes "dcnet: f: malformed: first-second-pad pair=3" ++ 10 ∷ []
unfolding digits
key-FirstSecondPad = refl

key-Rest : fault_line (Malformed (codes "f") (Keys (key.Rest 1944))) ≡ codes "dcnet: f: malformed: rest at=1944" ++ 10 ∷ []
unfolding digits
key-Rest = refl

-- ---- the eight faults of a manifest, and the three of its key graph; the name of a field is written as it is

manifest-Toml : fault_line (Malformed (codes "f") (Manifest manifest.Toml)) ≡ codes "dcnet: f: malformed: toml" ++ 10 ∷ []
manifest-Toml = refl

manifest-Unknown : fault_line (Malformed (codes "f") (Manifest (manifest.Unknown (codes "pads")))) ≡ codes "dcnet: f: malformed: unknown name=pads" ++ 10 ∷ []
manifest-Unknown = refl

manifest-Unknown-empty : fault_line (Malformed (codes "f") (Manifest (manifest.Unknown []))) ≡ codes "dcnet: f: malformed: unknown name=" ++ 10 ∷ []
manifest-Unknown-empty = refl

manifest-Field : fault_line (Malformed (codes "f") (Manifest (manifest.Field (codes "edges")))) ≡ codes "dcnet: f: malformed: field name=edges" ++ 10 ∷ []
manifest-Field = refl

manifest-Kind : fault_line (Malformed (codes "f") (Manifest (manifest.Kind (codes "words")))) ≡ codes "dcnet: f: malformed: kind name=words" ++ 10 ∷ []
manifest-Kind = refl

manifest-Range : fault_line (Malformed (codes "f") (Manifest (manifest.Range (codes "words") (pos 0)))) ≡ codes "dcnet: f: malformed: range name=words seen=0" ++ 10 ∷ []
unfolding digits
manifest-Range = refl

manifest-Range-negative : fault_line (Malformed (codes "f") (Manifest (manifest.Range (codes "stations") (negsuc 11)))) ≡ codes "dcnet: f: malformed: range name=stations seen=-12" ++ 10 ∷ []
unfolding digits
manifest-Range-negative = refl

manifest-Graph-Stations : fault_line (Malformed (codes "f") (Manifest (manifest.Graph (graph.Stations 257)))) ≡ codes "dcnet: f: malformed: graph stations seen=257" ++ 10 ∷ []
unfolding digits
manifest-Graph-Stations = refl

manifest-Graph-Ends : fault_line (Malformed (codes "f") (Manifest (manifest.Graph (graph.Ends 4)))) ≡ codes "dcnet: f: malformed: graph ends place=4" ++ 10 ∷ []
unfolding digits
manifest-Graph-Ends = refl

manifest-Graph-Repeated : fault_line (Malformed (codes "f") (Manifest (manifest.Graph (graph.Repeated 3)))) ≡ codes "dcnet: f: malformed: graph repeated place=3" ++ 10 ∷ []
unfolding digits
manifest-Graph-Repeated = refl

manifest-Member : fault_line (Malformed (codes "f") (Manifest (manifest.Member 1))) ≡ codes "dcnet: f: malformed: member place=1" ++ 10 ∷ []
unfolding digits
manifest-Member = refl

manifest-TooLarge : fault_line (Malformed (codes "f") (Manifest (manifest.TooLarge 67112960))) ≡ codes "dcnet: f: malformed: too-large symbols=67112960" ++ 10 ∷ []
unfolding digits
manifest-TooLarge = refl

-- ---- refused twins and steerings, and lists

status-Refused : status_of (Refused (Steer steerings.NeverDiffered)) ≡ 7
status-Refused = refl

line-List : fault_line (Malformed (codes "p.txt") (Listed (record { line = 3; kind = line_kinds.Number }))) ≡ codes "dcnet: p.txt: malformed: line=3 number" ++ 10 ∷ []
unfolding digits
line-List = refl

line-PermCount : fault_line (Refused (Twin (twins.PermCount 3 4))) ≡ codes "dcnet: refused: perm-count have=3 need=4" ++ 10 ∷ []
unfolding digits
line-PermCount = refl

line-Perm : fault_line (Refused (Twin (twins.Perm 1))) ≡ codes "dcnet: refused: perm place=1" ++ 10 ∷ []
unfolding digits
line-Perm = refl

line-NotJoined : fault_line (Refused (Twin (twins.NotJoined 0 2))) ≡ codes "dcnet: refused: not-joined station=0 image=2" ++ 10 ∷ []
unfolding digits
line-NotJoined = refl

line-NotAlike : fault_line (Refused (Twin (twins.NotAlike 3 0 2))) ≡ codes "dcnet: refused: not-alike round=3 first=0 second=2" ++ 10 ∷ []
unfolding digits
line-NotAlike = refl

line-NotNeighbours : fault_line (Refused (Steer (steerings.NotNeighbours 1 0))) ≡ codes "dcnet: refused: not-neighbours u=1 v=0" ++ 10 ∷ []
unfolding digits
line-NotNeighbours = refl

line-NotHonest : fault_line (Refused (Steer (steerings.NotHonest 2))) ≡ codes "dcnet: refused: not-honest station=2" ++ 10 ∷ []
unfolding digits
line-NotHonest = refl

line-NeverDiffered : fault_line (Refused (Steer steerings.NeverDiffered)) ≡ codes "dcnet: refused: never-differed" ++ 10 ∷ []
unfolding digits
line-NeverDiffered = refl

line-SumDelivery : fault_line (Refused (Steer (steerings.SumDelivery 1))) ≡ codes "dcnet: refused: sum-delivery round=1" ++ 10 ∷ []
unfolding digits
line-SumDelivery = refl

line-RuledRound : fault_line (Refused (Steer (steerings.RuledRound 1))) ≡ codes "dcnet: refused: ruled-round round=1" ++ 10 ∷ []
unfolding digits
line-RuledRound = refl

line-WantedWords : fault_line (Refused (Steer (steerings.WantedWords 0 1))) ≡ codes "dcnet: refused: wanted-words have=0 need=1" ++ 10 ∷ []
unfolding digits
line-WantedWords = refl

-- ---- nets

status-Disagree : status_of (Disagree (net.KeyMissing 0 2)) ≡ 6
status-Disagree = refl

line-Disagree : fault_line (Disagree (net.KeyMissing 0 2)) ≡ codes "dcnet: files disagree: key-missing u=0 v=2" ++ 10 ∷ []
unfolding digits
line-Disagree = refl

line-ScriptStation : fault_line (Disagree (net.ScriptStation 3 12)) ≡ codes "dcnet: files disagree: script-station round=3 station=12" ++ 10 ∷ []
unfolding digits
line-ScriptStation = refl

line-Stream : fault_line (Malformed (codes "a.txt") (Stream (record { line = 1; kind = stream.Length 3839 }))) ≡ codes "dcnet: a.txt: malformed: line=1 length seen=3839" ++ 10 ∷ []
unfolding digits
line-Stream = refl

line-Script : fault_line (Malformed (codes "s.txt") (Script (record { line = 4; kind = script.Late 2 1 }))) ≡ codes "dcnet: s.txt: malformed: line=4 late told=2 round=1" ++ 10 ∷ []
unfolding digits
line-Script = refl

-- ---- the words of `replay`

replay-alone : is_form (codes "replay" ∷ codes "net.toml" ∷ []) ≡ true
replay-alone = refl

replay-workers : is_form (codes "replay" ∷ codes "net.toml" ∷ codes "--workers" ∷ codes "64" ∷ []) ≡ true
unfolding digits
replay-workers = refl

replay-too_many : longest_begun (codes "replay" ∷ codes "net.toml" ∷ codes "--workers" ∷ codes "65" ∷ []) ≡ 3
unfolding digits
replay-too_many = refl

-- ---- the words of `logs`

logs-form : is_form (codes "logs" ∷ codes "net.toml" ∷ []) ≡ true
logs-form = refl

logs-alone : (is_form (codes "logs" ∷ []) ≡ false) × (longest_begun (codes "logs" ∷ []) ≡ 1)
logs-alone = (refl, refl)

logs-two : (is_form (codes "logs" ∷ codes "a" ∷ codes "b" ∷ []) ≡ false) × (longest_begun (codes "logs" ∷ codes "a" ∷ codes "b" ∷ []) ≡ 2)
logs-two = (refl, refl)

-- ---- the command line of `trial`: its most words depend on its number of stations

trial-form : is_form (codes "trial" ∷ codes "7" ∷ codes "256" ∷ codes "2048" ∷ []) ≡ true
unfolding digits
trial-form = refl

trial-workers : is_form (codes "trial" ∷ codes "0" ∷ codes "1" ∷ codes "4096" ∷ codes "--workers" ∷ codes "8" ∷ []) ≡ true
unfolding digits
trial-workers = refl

-- above 524288 words of all stations
trial-large : longest_begun (codes "trial" ∷ codes "7" ∷ codes "256" ∷ codes "2049" ∷ []) ≡ 3
unfolding digits
trial-large = refl

trial-no_form : is_form (codes "trial" ∷ codes "7" ∷ codes "256" ∷ codes "2049" ∷ []) ≡ false
unfolding digits
trial-no_form = refl

-- 129 stations have at most 4064 words each
trial-129 : longest_begun (codes "trial" ∷ codes "7" ∷ codes "129" ∷ codes "4065" ∷ []) ≡ 3
unfolding digits
trial-129 = refl

-- above the words of a session
trial-long : longest_begun (codes "trial" ∷ codes "7" ∷ codes "1" ∷ codes "4097" ∷ []) ≡ 3
unfolding digits
trial-long = refl

-- no station, and no seed
trial-none : longest_begun (codes "trial" ∷ codes "7" ∷ codes "0" ∷ codes "5" ∷ []) ≡ 2
unfolding digits
trial-none = refl

trial-seed : longest_begun (codes "trial" ∷ codes "4294967296" ∷ codes "1" ∷ codes "1" ∷ []) ≡ 1
unfolding digits
trial-seed = refl

-- a further word
trial-more : longest_begun (codes "trial" ∷ codes "7" ∷ codes "1" ∷ codes "1" ∷ codes "--workers" ∷ codes "1" ∷ codes "1" ∷ []) ≡ 6
unfolding digits
trial-more = refl

-- `twin` has three names, and `steer` two stations from 0 to 255 and three names
form-twin : is_form (codes "twin" ∷ codes "n" ∷ codes "p" ∷ codes "o" ∷ []) ≡ true
form-twin = refl

form-twin_more : longest_begun (codes "twin" ∷ codes "n" ∷ codes "p" ∷ codes "o" ∷ codes "x" ∷ []) ≡ 4
form-twin_more = refl

form-steer : is_form (codes "steer" ∷ codes "n" ∷ codes "0" ∷ codes "255" ∷ codes "w" ∷ codes "o" ∷ []) ≡ true
unfolding digits
form-steer = refl

form-steer_256 : longest_begun (codes "steer" ∷ codes "n" ∷ codes "0" ∷ codes "256" ∷ codes "w" ∷ codes "o" ∷ []) ≡ 3
unfolding digits
form-steer_256 = refl

-- ---- faults of the wire and of peers

status-WireFault : status_of WireFault ≡ 10
status-WireFault = refl

status-Peer : status_of (Peer 0 (peers.Ended 79)) ≡ 11
status-Peer = refl

line-WireFault : fault_line WireFault ≡ codes "dcnet: wire fault" ++ 10 ∷ []
line-WireFault = refl

line-Ended : fault_line (Peer 0 (peers.Ended 79)) ≡ codes "dcnet: peer 0: ended at=79" ++ 10 ∷ []
unfolding digits
line-Ended = refl

line-Unexpected : fault_line (Peer 0 (peers.Unexpected 2)) ≡ codes "dcnet: peer 0: unexpected tag=2" ++ 10 ∷ []
unfolding digits
line-Unexpected = refl

line-Hello : fault_line (Peer 1 (peers.Hello 0 2 1)) ≡ codes "dcnet: peer 1: hello station=0 stations=2 words=1" ++ 10 ∷ []
unfolding digits
line-Hello = refl

line-Round : fault_line (Peer 0 (peers.Round 1 0)) ≡ codes "dcnet: peer 0: round told=1 now=0" ++ 10 ∷ []
unfolding digits
line-Round = refl

line-Tag : fault_line (Peer 0 (peers.Frame (record { at = 9; kind = frames.Tag 9 }))) ≡ codes "dcnet: peer 0: frame at=9 tag seen=9" ++ 10 ∷ []
unfolding digits
line-Tag = refl

line-Length : fault_line (Peer 0 (peers.Frame (record { at = 10; kind = frames.Length 65 }))) ≡ codes "dcnet: peer 0: frame at=10 length seen=65" ++ 10 ∷ []
unfolding digits
line-Length = refl

line-FrameSymbol : fault_line (Peer 0 (peers.Frame (record { at = 14; kind = frames.Symbol 65537 }))) ≡ codes "dcnet: peer 0: frame at=14 symbol seen=65537" ++ 10 ∷ []
unfolding digits
line-FrameSymbol = refl

-- ---- the forms of the sessions

form-station : is_form (codes "station" ∷ codes "x:1" ∷ codes "0" ∷ codes "k.bin" ∷ codes "s.txt" ∷ []) ≡ true
unfolding digits
form-station = refl

form-hub : is_form (codes "hub" ∷ codes "x:1" ∷ codes "256" ∷ codes "4096" ∷ codes "o.bin" ∷ []) ≡ true
unfolding digits
form-hub = refl

form-station-256 : longest_begun (codes "station" ∷ codes "x:1" ∷ codes "256" ∷ codes "k.bin" ∷ codes "s.txt" ∷ []) ≡ 2
unfolding digits
form-station-256 = refl

form-hub-257 : longest_begun (codes "hub" ∷ codes "x:1" ∷ codes "257" ∷ codes "1" ∷ codes "o.bin" ∷ []) ≡ 2
unfolding digits
form-hub-257 = refl
