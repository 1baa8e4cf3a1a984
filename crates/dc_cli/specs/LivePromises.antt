-- The promises of the commands that hold a session.
use Rattle.std.specs.Prelude.{ℕ, ◌<◌, ◌≤◌, ◌≡◌, ◌⊎◌, List, [], ◌∷◌, length, All, false, Some, Result, Ok, Err}
use Rattle.dc_spec.specs.Outside.{ShelfState, WireState, Rose, Tells, IsFront, grown}
use Rattle.dc_spec.specs.Net.{Net}
use Rattle.dc_spec.specs.Recorded.{Recorded, IsRecorded, transcript_bytes, superposed}
use Rattle.dc_spec.specs.Text.{words_text}
use Rattle.dc_edge.specs.Shelf.{rewritten}
use Rattle.dc_field.specs.declared.refusal.Refusal.TheVariants as refusals
use Rattle.dc_net_rules.specs.Runs.{run_of}
use Rattle.dc_live_rules.specs.LiveRuns.{IsLiveRun}
use Rattle.dc_superpose.specs.HubCore.{HubState, IsRecordOf}
use Rattle.dc_live.specs.Serving.{Served, Serves, GiveAll, asked_for}
use Rattle.dc_net_files.specs.Steps.{File, makes, bytes_of}
use Rattle.dc_net_files.specs.Station.{station_step}
use Rattle.dc_net_files.specs.Reading.{AreNeeded}
use Rattle.dc_net_files.specs.Settled.{AreHeld}
use Rattle.dc_net_files.specs.declared.station.StationParts.{StationParts}
use Rattle.dc_live.specs.Hearing.{heard}
use Rattle.dc_live.specs.declared.fault.LiveFault.{LiveFault}
use Rattle.dc_live.specs.declared.fault.LiveFault.TheVariants as lives
use Rattle.dc_net.specs.declared.fault.NetFault.TheVariants.{NoStation}
use Rattle.dc_cli.specs.Forms.{is_form}
use Rattle.dc_cli.specs.Commands.{Task, station, hub, Spells}
use Rattle.dc_cli.specs.Playing.{PlayedAs, log_text}
use Rattle.dc_cli.specs.Promises.{Call}
use Rattle.dc_cli.specs.declared.outcome.Outcome.{Outcome}
use Rattle.dc_cli.specs.declared.outcome.Outcome.TheVariants.{Done, Disagree, ShelfFault, SinkFault, WireFault, Peer, NoMemory}

-- what a command asks the wire for, in order: an address, and by a hub each of its peers, by the empty text
abbrev pub wire_asks : Task → List (List ℕ)
wire_asks (station addr id keys stream) = addr ∷ []
wire_asks (hub addr stations count target) = asked_for addr stations
wire_asks _ = []

-- the wire was asked for a front of what the command asks for, and for all of it where all was done; a command that asks for nothing
-- leaves the wire as it was
pub record AsksWire (c : Call) : Type 0 where
  pub front : (command : Task) → Spells c.words command → (names : List (List ℕ)) × IsFront names (wire_asks command) × (c.wire'.asked ≡ grown c.wire.asked names)
  pub whole : (command : Task) → Spells c.words command → c.outcome ≡ Done → c.wire'.asked ≡ grown c.wire.asked (wire_asks command)
  pub still : (command : Task) → Spells c.words command → wire_asks command ≡ [] → c.wire' ≡ c.wire
  pub none : is_form c.words ≡ false → c.wire' ≡ c.wire

-- the keys and the stream that the files of a station make: each file is needed after those before it, and has the bytes that the
-- shelf reports
pub record StationRead (keys stream : List ℕ) (shelf : ShelfState) (parts : StationParts) : Type 0 where
  pub files : List File
  pub needed : AreNeeded (station_step keys stream) files
  pub told : All (λ file. Tells (shelf.holds file.name) file.bytes) files
  pub made : station_step keys stream (bytes_of files) ≡ makes parts []

-- a session of the station of these files, by what its hub gave
pub record SpokeAs (c : Call) (addr : List ℕ) (id : ℕ) (keys stream : List ℕ) (result : Result Unit LiveFault) : Type 0 where
  pub parts : StationParts
  pub read : StationRead keys stream c.shelf parts
  pub session : PlayedAs addr id parts c.wire c.wire' result

-- nothing was sent to anyone
abbrev pub SentNothing : Call → Type 0
SentNothing c = (p : ℕ) → c.wire'.sent p ≡ c.wire.sent p

-- What `station` sent, by the outcome. After a session, and after a fault of its peer, all that the station says by the words that it
-- heard; where the wire failed, a front of this or nothing; else nothing. Where all is done, the log of the station was printed.
abbrev pub StationAnswer : Call → List ℕ → ℕ → List ℕ → List ℕ → Outcome → Type 0
StationAnswer c addr id keys stream Done =
    (s : SpokeAs c addr id keys stream (Ok tt))
    × (c.out'.written ≡ grown c.out.written (log_text id s.parts.stream (heard s.parts.keys.words s.session.taken)))
StationAnswer c addr id keys stream SinkFault = SpokeAs c addr id keys stream (Ok tt)
StationAnswer c addr id keys stream (Peer who fault) = SpokeAs c addr id keys stream (Err (lives.Peer who fault))
StationAnswer c addr id keys stream WireFault = SentNothing c ⊎ SpokeAs c addr id keys stream (Err lives.Wire)
StationAnswer c addr id keys stream _ = SentNothing c

abbrev pub PlaysStations : Call → Type 0
PlaysStations c = (addr : List ℕ) (id : ℕ) (keys stream : List ℕ) → Spells c.words (station addr id keys stream) → StationAnswer c addr id keys stream c.outcome

-- the shelf holds the files of a station
pub record HoldsStation (keys stream : List ℕ) (shelf : ShelfState) (parts : StationParts) : Type 0 where
  pub files : List File
  pub needed : AreNeeded (station_step keys stream) files
  pub held_files : AreHeld shelf.holds files
  pub made : station_step keys stream (bytes_of files) ≡ makes parts []

-- it is known what the next peer gives, and that begins with the sums of so many rounds
pub record GivesSums (words : ℕ) (wire : WireState) : Type 0 where
  pub bytes : List ℕ
  pub known : wire.left wire.peers ≡ Some bytes
  pub sums : length (heard words bytes) ≡ words

-- Where the shelf holds the files of a station, and no count of faults rose:
--   complete: where the station exists, and its hub gives the sums of all rounds, all is done, or memory ran out;
--   refused: where there is no such station, this is the outcome, or memory ran out.
pub record CompletesStation (c : Call) (id : ℕ) (keys stream : List ℕ) : Type 0 where
  pub complete : (parts : StationParts) → HoldsStation keys stream c.shelf parts → id < parts.keys.stations → GivesSums parts.keys.words c.wire →
      (Rose c.shelf.faults c.shelf'.faults → ⊥) → (Rose c.out.faults c.out'.faults → ⊥) → (Rose c.wire.faults c.wire'.faults → ⊥) → (c.outcome ≡ Done) ⊎ (c.outcome ≡ NoMemory)
  pub refused : (parts : StationParts) → HoldsStation keys stream c.shelf parts → parts.keys.stations ≤ id →
      (Rose c.shelf.faults c.shelf'.faults → ⊥) → (c.outcome ≡ Disagree (NoStation id parts.keys.stations)) ⊎ (c.outcome ≡ NoMemory)

abbrev pub CompletesStations : Call → Type 0
CompletesStations c = (addr : List ℕ) (id : ℕ) (keys stream : List ℕ) → Spells c.words (station addr id keys stream) → CompletesStation c id keys stream

-- A hub held a session to its end: it greeted all peers, took their words and sent them the sums. The session that is kept has the
-- accepted words.
pub record SessionHeld (c : Call) (addr : List ℕ) (stations words : ℕ) : Type 0 where
  pub core : HubState
  pub served : Served addr stations words core c.wire c.wire' (Ok tt)
  pub session : Recorded
  pub recorded : IsRecorded session
  pub accepted : IsRecordOf stations words served.runs.arrivals session

-- the target holds the transcript of the session, unless nothing was known of it
abbrev pub HoldsTranscript : Call → List ℕ → Recorded → Type 0
HoldsTranscript c target session = c.shelf'.holds target ≡ rewritten (c.shelf.holds target) (transcript_bytes session)

-- What `hub` did, by the outcome. Where all is done, the session was held, written, and its superposed words were printed; at a fault
-- of the output it was held and written. At a fault of the shelf it was held. Where memory ran out, nothing was sent, or it was held.
-- At a fault of the wire or of a peer it ended as `serve` did.
abbrev pub HubAnswer : Call → List ℕ → ℕ → ℕ → List ℕ → Outcome → Type 0
HubAnswer c addr stations words target Done =
    (h : SessionHeld c addr stations words) × HoldsTranscript c target h.session × (c.out'.written ≡ grown c.out.written (words_text (superposed h.session)))
HubAnswer c addr stations words target SinkFault = (h : SessionHeld c addr stations words) × HoldsTranscript c target h.session
HubAnswer c addr stations words target ShelfFault = SessionHeld c addr stations words
HubAnswer c addr stations words target NoMemory = SentNothing c ⊎ SessionHeld c addr stations words
HubAnswer c addr stations words target WireFault = Serves addr stations words c.wire c.wire' (Err (refusals.Bad lives.Wire))
HubAnswer c addr stations words target (Peer who fault) = Serves addr stations words c.wire c.wire' (Err (refusals.Bad (lives.Peer who fault)))
HubAnswer c addr stations words target _ = ⊥

abbrev pub HostsSessions : Call → Type 0
HostsSessions c = (addr : List ℕ) (stations words : ℕ) (target : List ℕ) → Spells c.words (hub addr stations words target) → HubAnswer c addr stations words target c.outcome

-- where all peers give what they should and no count of faults rose, the session is held, written and printed, or memory ran out
abbrev pub CompletesHubs : Call → Type 0
CompletesHubs c = (addr : List ℕ) (stations words : ℕ) (target : List ℕ) → Spells c.words (hub addr stations words target) → GiveAll stations words c.wire c.wire' →
    (Rose c.shelf.faults c.shelf'.faults → ⊥) → (Rose c.out.faults c.out'.faults → ⊥) → (c.outcome ≡ Done) ⊎ (c.outcome ≡ NoMemory)

-- a session of a net in which every delivery is the sum
abbrev pub session_of : Net → Recorded
session_of net = record { stations = net.stations; rounds = net.words; words = (run_of net).words }

-- The session that was held is a run of every net of so many stations and words whose stations gave their words: its honest stations
-- by their streams and keys, its members by the script. The transcript has the words of that run, and its superposed words were
-- printed.
pub record RunsAsNets (c : Call) (addr : List ℕ) (stations words : ℕ) (target : List ℕ) : Type 0 where
  pub held : SessionHeld c addr stations words
  pub transcript : (net : Net) → net.stations ≡ stations → net.words ≡ words → IsLiveRun net held.served.runs.arrivals → HoldsTranscript c target (session_of net)
  pub printed : (net : Net) → net.stations ≡ stations → net.words ≡ words → IsLiveRun net held.served.runs.arrivals
      → c.out'.written ≡ grown c.out.written (words_text (run_of net).sums)

abbrev pub SessionsAreRuns : Call → Type 0
SessionsAreRuns c = c.outcome ≡ Done → (addr : List ℕ) (stations words : ℕ) (target : List ℕ) → Spells c.words (hub addr stations words target) → RunsAsNets c addr stations words target
