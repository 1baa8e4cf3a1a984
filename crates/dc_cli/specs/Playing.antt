-- The command `station`: its files are read, the hub is dialled, the session is played, and the station's log is put.
use Rattle.std.specs.Prelude.{ℕ, ◌<◌, ◌≤◌, ◌≡◌, ◌⊎◌, List, [], Result, Ok, Err, IsOk}
use Rattle.dc_spec.specs.Outside.{ShelfState, SinkState, WireState}
use Rattle.dc_spec.specs.Entries.{Stream}
use Rattle.dc_spec.specs.Pads.{Keys}
use Rattle.dc_formats.specs.Frames.{frames_bytes}
use Rattle.dc_formats.specs.KeyFile.{IsKeys}
use Rattle.dc_station_rules.specs.Stations.{log_of, sent_of, pending_counts}
use Rattle.dc_net_rules.specs.SessionTexts.{says}
use Rattle.dc_run_texts.specs.Logs.{station_text}
use Rattle.dc_edge.specs.Sink.{Puts}
use Rattle.dc_edge.specs.Wire.{Dials}
use Rattle.dc_edge.specs.declared.fault.Failed.{Failed}
use Rattle.dc_edge.specs.declared.fault.LinkFault.TheVariants as links
use Rattle.dc_keys.specs.StationPads.{station_pads}
use Rattle.dc_conv.specs.Mask.{MaskState, StandsFor as mask_stands_for}
use Rattle.dc_station.specs.State.{State}
use Rattle.dc_station.specs.StandsFor.{StandsFor as station_stands_for}
use Rattle.dc_live.specs.Hearing.{heard}
use Rattle.dc_live.specs.StationSession.{Greeting, IsBefore, StationEnds, RunsStation, HearsAll}
use Rattle.dc_live.specs.Talking.{Talks, Spoke}
use Rattle.dc_live.specs.declared.fault.LiveFault.{LiveFault}
use Rattle.dc_live.specs.declared.fault.LiveFault.TheVariants as lives
use Rattle.dc_net.specs.declared.fault.NetFault.TheVariants.{NoStation}
use Rattle.dc_net_files.specs.Station.{station_step}
use Rattle.dc_net_files.specs.Reading.{Ended}
use Rattle.dc_net_files.specs.Settled.{SettledByHeld}
use Rattle.dc_net_files.specs.declared.fault.NotRead.{NotRead}
use Rattle.dc_net_files.specs.declared.station.StationParts.{StationParts}
use Rattle.dc_cli.specs.Replaying.{outcome_of}
use Rattle.dc_cli.specs.declared.playing.Player.{Player}
use Rattle.dc_cli.specs.declared.outcome.Outcome.{Outcome}
use Rattle.dc_cli.specs.declared.outcome.Outcome.TheVariants.{Done, Disagree, SinkFault, WireFault, Peer, NoMemory}

-- a player is the station of this number with these keys and this stream, and nothing was received yet
pub record IsPlayerOf (id : ℕ) (keys : Keys) (stream : Stream) (p : Player) : Type 0 where
  pub id_is : p.id ≡ id
  pub stations_are : p.stations ≡ keys.stations
  pub words_are : p.words ≡ keys.words
  pub station : station_stands_for p.station stream keys.words []
  pub mask : mask_stands_for p.mask (station_pads keys id) []
  pub before : IsBefore p.words p.station p.mask

-- nothing was received yet
abbrev pub IsPlayer : Player → Type 0
IsPlayer p = IsBefore p.words p.station p.mask

abbrev pub greeting_by : Player → Greeting
greeting_by p = record { station = p.id; stations = p.stations; words = p.words }

-- the hub was dialled, and a player ran its session with it
pub record Played (addr : List ℕ) (p : Player) (before after : WireState) (result : Result Unit LiveFault) : Type 0 where
  pub peer : ℕ
  pub middle : WireState
  pub dials : Dials addr before middle (Ok peer)
  pub station : State
  pub mask : MaskState
  pub session : RunsStation peer (greeting_by p) p.station station p.mask mask middle after result
  pub complete : HearsAll peer p.words middle after → IsOk result

-- the log of a station that has received these words
abbrev pub log_text : ℕ → Stream → List (List ℕ) → List ℕ
log_text id stream words = station_text id (log_of words) (sent_of stream words) (pending_counts stream words)

-- the log was put, for every stream and all words that the station stands for
abbrev pub PutsLog : ℕ → State → SinkState → SinkState → Result Unit Failed → Type 0
PutsLog id station out out' ended =
    (stream : Stream) (total : ℕ) (words : List (List ℕ)) → station_stands_for station stream total words → Puts (log_text id stream words) out out' ended

-- what a player did, by the outcome
abbrev pub Plays : List ℕ → Player → SinkState → SinkState → WireState → WireState → Outcome → Type 0
Plays addr p out out' before after Done = (played : Played addr p before after (Ok tt)) × PutsLog p.id played.station out out' (Ok tt)
Plays addr p out out' before after SinkFault = (failed : Failed) × ((played : Played addr p before after (Ok tt)) × PutsLog p.id played.station out out' (Err failed))
Plays addr p out out' before after WireFault = (out' ≡ out) × (Dials addr before after (Err links.Failed) ⊎ Played addr p before after (Err lives.Wire))
Plays addr p out out' before after (Peer who fault) = (out' ≡ out) × Played addr p before after (Err (lives.Peer who fault))
Plays addr p out out' before after NoMemory = (out' ≡ out) × (after ≡ before)
Plays addr p out out' before after _ = ⊥

-- The hub was dialled, and a session with it ended by the bytes that it gave. What was sent is what station `id` with these keys and
-- this stream says after the words that it heard.
pub record PlayedAs (addr : List ℕ) (id : ℕ) (parts : StationParts) (before after : WireState) (result : Result Unit LiveFault) : Type 0 where
  pub is_keys : IsKeys parts.keys
  pub exists : id < parts.keys.stations
  pub peer : ℕ
  pub middle : WireState
  pub dials : Dials addr before middle (Ok peer)
  pub taken : List ℕ
  pub given : List ℕ
  pub talks : Talks peer taken given middle after
  pub ends : StationEnds peer parts.keys.words taken middle after result
  pub spoke : Spoke (frames_bytes (says id parts.keys.stations parts.keys.words parts.keys.pairs parts.stream (heard parts.keys.words taken))) given result
  pub complete : HearsAll peer parts.keys.words middle after → IsOk result

-- the log of the station after what it heard was put, and this is how the put ended
pub record LogPut (addr : List ℕ) (id : ℕ) (parts : StationParts) (out out' : SinkState) (before after : WireState) (ended : Result Unit Failed) : Type 0 where
  pub played : PlayedAs addr id parts before after (Ok tt)
  pub put : Puts (log_text id parts.stream (heard parts.keys.words played.taken)) out out' ended

-- there is no station of this number
pub record HasNoStation (id stations : ℕ) (seen told : ℕ) : Type 0 where
  pub above : stations ≤ id
  pub seen_is : seen ≡ id
  pub told_is : told ≡ stations

-- what was done with the files of a station, by the outcome
abbrev pub PlaysAs : List ℕ → ℕ → StationParts → SinkState → SinkState → WireState → WireState → Outcome → Type 0
PlaysAs addr id parts out out' before after Done = LogPut addr id parts out out' before after (Ok tt)
PlaysAs addr id parts out out' before after SinkFault = (failed : Failed) × LogPut addr id parts out out' before after (Err failed)
PlaysAs addr id parts out out' before after WireFault =
    (out' ≡ out) × (Dials addr before after (Err links.Failed) ⊎ PlayedAs addr id parts before after (Err lives.Wire)) × (id < parts.keys.stations)
PlaysAs addr id parts out out' before after (Peer who fault) = (out' ≡ out) × PlayedAs addr id parts before after (Err (lives.Peer who fault))
PlaysAs addr id parts out out' before after (Disagree (NoStation seen told)) = (out' ≡ out) × (after ≡ before) × HasNoStation id parts.keys.stations seen told
PlaysAs addr id parts out out' before after NoMemory = (out' ≡ out) × (after ≡ before)
PlaysAs addr id parts out out' before after _ = ⊥

-- the files of the station were not read, and nothing was dialled
pub record BeforePlaying (keys stream : List ℕ) (shelf shelf' : ShelfState) (out out' : SinkState) (before after : WireState) (outcome : Outcome) : Type 0 where
  pub silent : out' ≡ out
  pub still : after ≡ before
  pub refusal : NotRead
  pub read : Ended (station_step keys stream) shelf shelf' (Err refusal)
  pub settled : SettledByHeld (station_step keys stream) shelf shelf' (Err refusal)
  pub outcome_is : outcome ≡ outcome_of refusal

-- the files of the station were read, and this is what was done with them
pub record AfterReading (addr : List ℕ) (id : ℕ) (keys stream : List ℕ) (shelf shelf' : ShelfState) (out out' : SinkState) (before after : WireState) (outcome : Outcome) : Type 0 where
  pub parts : StationParts
  pub read : Ended (station_step keys stream) shelf shelf' (Ok parts)
  pub settled : SettledByHeld (station_step keys stream) shelf shelf' (Ok parts)
  pub plays : PlaysAs addr id parts out out' before after outcome

-- what `station` did
abbrev pub StationRan : List ℕ → ℕ → List ℕ → List ℕ → ShelfState → ShelfState → SinkState → SinkState → WireState → WireState → Outcome → Type 0
StationRan addr id keys stream shelf shelf' out out' before after outcome =
    BeforePlaying keys stream shelf shelf' out out' before after outcome ⊎ AfterReading addr id keys stream shelf shelf' out out' before after outcome
