-- What follows from what `station` did.
use Rattle.std.proofs.Common.{◌≡◌, ◌≤◌, ◌<◌, ◌⊎◌, ℕ, true, false, List, [], ◌∷◌, Option, Result, Ok, Err, inl, inr, refl, sym, ap, ◌∙◌, subst, append-nil, arith}
use Rattle.std.specs.Prelude.{IsOk}
use Rattle.dc_spec.specs.Outside.{ShelfState, SinkState, WireState, absent, Rose, IsFront, grown}
use Rattle.dc_edge.specs.Shelf.{IsHeldAbove, FailsUntold}
use Rattle.dc_edge.specs.Wire.{Dials}
use Rattle.dc_edge.specs.Sink.{Puts}
use Rattle.dc_edge.specs.declared.fault.Failed.{Failed}
use Rattle.dc_edge.specs.declared.fault.ShelfFault.TheVariants as causes
use Rattle.dc_edge.proofs.PutLemmas.{grown-nothing, Rose-earlier}
use Rattle.dc_superpose.specs.declared.fault.TranscriptFault.{TranscriptFault}
use Rattle.dc_formats.specs.KeyFile.{IsKeys}
use Rattle.dc_conv.specs.Mask.{MaskState}
use Rattle.dc_station.specs.State.{State}
use Rattle.dc_live.specs.Hearing.{heard}
use Rattle.dc_live.specs.StationSession.{Greeting, RunsStation, HearsAll}
use Rattle.dc_live.specs.declared.fault.LiveFault.{LiveFault}
use Rattle.dc_live.specs.declared.fault.LiveFault.TheVariants as lives
use Rattle.dc_net.specs.declared.fault.NetFault.TheVariants.{NoStation}
use Rattle.dc_net_files.specs.Steps.{Step, makes, names_of, bytes_of}
use Rattle.dc_net_files.specs.Station.{station_step}
use Rattle.dc_net_files.specs.Reading.{Ended}
use Rattle.dc_net_files.specs.Settled.{Settles}
use Rattle.dc_net_files.specs.declared.fault.NotRead.{NotRead}
use Rattle.dc_net_files.specs.declared.fault.NotRead.TheVariants as refusals
use Rattle.dc_net_files.specs.declared.station.StationParts.{StationParts}
use Rattle.dc_cli.specs.Replaying.{outcome_of}
use Rattle.dc_cli.specs.Sessions.{outcome_of_session}
use Rattle.dc_cli.specs.Playing.{IsPlayerOf, greeting_by, Played, PutsLog, Plays, PlayedAs, LogPut, PlaysAs, AfterReading, StationRan, log_text}
use Rattle.dc_cli.specs.declared.playing.Player.{Player}
use Rattle.dc_cli.specs.Promises.{Call, TellsName, NamesOfStation, NeedsOfStation}
use Rattle.dc_cli.specs.LivePromises.{StationRead, SpokeAs, SentNothing, StationAnswer, GivesSums, CompletesStation}
use Rattle.dc_cli.specs.declared.outcome.FileFault.{FileFault}
use Rattle.dc_cli.specs.declared.outcome.FileFault.TheVariants.{Transcript}
use Rattle.dc_cli.specs.declared.outcome.Outcome.{Outcome}
use Rattle.dc_cli.specs.declared.outcome.Outcome.TheVariants.{Done, Usage, Missing, TooLong, Malformed, Disagree, ShelfFault, SinkFault, WireFault, Peer, NoMemory}
use Rattle.dc_cli.proofs.ShelfLemmas.{LastAsked}
use Rattle.dc_cli.proofs.ReplayLemmas.{Ended-kept, Stops-last, Stops-missing, Stops-long, missing_of, long_of, fault_last, rose_of, refusal_not, transcript_of_none, settles_made, AsksNames, read_names}
use Rattle.dc_cli.proofs.AlteringLemmas.{ends_before, ends_by}

-- the files were read
after_reading : (addr : List ℕ) (id : ℕ) (keys stream : List ℕ) (s s' : ShelfState) (o o' : SinkState) (w w' : WireState) (outcome : Outcome) → ends_before outcome ≡ false
    → StationRan addr id keys stream s s' o o' w w' outcome → AfterReading addr id keys stream s s' o o' w w' outcome
after_reading addr id keys stream s s' o o' w w' outcome late p = elim p [
  | inl b ↦ absurd (let e : ends_before outcome ≡ true = ap ends_before b.outcome_is ∙ ends_by b.refusal in cc)
  | inr a ↦ a
]

pub StationRan-usage : (addr : List ℕ) (id : ℕ) (keys stream : List ℕ) (s s' : ShelfState) (o o' : SinkState) (w w' : WireState) (place : ℕ)
    → StationRan addr id keys stream s s' o o' w w' (Usage place) → ⊥
StationRan-usage addr id keys stream s s' o o' w w' place p = elim p [ inl b ↦ refusal_not b.refusal place b.outcome_is | inr a ↦ a.plays ]

-- all files stay
pub StationRan-kept : (addr : List ℕ) (id : ℕ) (keys stream : List ℕ) (s s' : ShelfState) (o o' : SinkState) (w w' : WireState) (outcome : Outcome)
    → StationRan addr id keys stream s s' o o' w w' outcome → s'.holds ≡ s.holds
StationRan-kept addr id keys stream s s' o o' w w' outcome p = elim p [
  | inl b ↦ Ended-kept (station_step keys stream) s s' (Err b.refusal) b.read
  | inr a ↦ Ended-kept (station_step keys stream) s s' (Ok a.parts) a.read
]

-- a front of the files was asked for
pub StationRan-asked : (addr : List ℕ) (id : ℕ) (keys stream : List ℕ) (s s' : ShelfState) (o o' : SinkState) (w w' : WireState) (outcome : Outcome)
    → StationRan addr id keys stream s s' o o' w w' outcome → AsksNames (station_step keys stream) s s'
StationRan-asked addr id keys stream s s' o o' w w' outcome p = elim p [
  | inl b ↦ read_names (station_step keys stream) s s' (Err b.refusal) b.read
  | inr a ↦ read_names (station_step keys stream) s s' (Ok a.parts) a.read
]

-- the files that were read make these parts
parts_made : (keys stream : List ℕ) (s s' : ShelfState) (parts : StationParts) (p : Ended (station_step keys stream) s s' (Ok parts)) → station_step keys stream (bytes_of p.files) ≡ makes parts []
parts_made keys stream s s' parts p = ap (station_step keys stream) (sym (append-nil (bytes_of p.files))) ∙ p.goes_on []

StationRead-read : (keys stream : List ℕ) (s s' : ShelfState) (parts : StationParts) → Ended (station_step keys stream) s s' (Ok parts) → StationRead keys stream s parts
StationRead-read keys stream s s' parts p = record { files = p.files; needed = p.gave.needed; told = p.gave.bytes; made = parts_made keys stream s s' parts p }

-- both were asked for, where all was done
pub StationRan-asked_all : (addr : List ℕ) (id : ℕ) (keys stream : List ℕ) (s s' : ShelfState) (o o' : SinkState) (w w' : WireState)
    → StationRan addr id keys stream s s' o o' w w' Done → (names : List (List ℕ)) × NamesOfStation keys stream s names × (s'.asked ≡ grown s.asked names)
unfolding ends_before
StationRan-asked_all addr id keys stream s s' o o' w w' p =
    let a = after_reading addr id keys stream s s' o o' w w' Done refl p in
    let files = a.read.files in (
      names_of files,
      record { files = files; needed = a.read.gave.needed; told = a.read.gave.bytes; names_are = rw (parts_made keys stream s s' a.parts a.read) (sym (append-nil (names_of files))) },
      a.read.gave.asked,
    )

-- where neither all was done nor the output failed, nothing was printed
PlaysAs-silent : (addr : List ℕ) (id : ℕ) (parts : StationParts) (o o' : SinkState) (w w' : WireState) (outcome : Outcome) → (outcome ≡ Done → ⊥) → (outcome ≡ SinkFault → ⊥)
    → PlaysAs addr id parts o o' w w' outcome → o' ≡ o
PlaysAs-silent addr id parts o o' w w' Done not_done not_sink p = absurd (not_done refl)
PlaysAs-silent addr id parts o o' w w' SinkFault not_done not_sink p = absurd (not_sink refl)
PlaysAs-silent addr id parts o o' w w' WireFault not_done not_sink p = p.0
PlaysAs-silent addr id parts o o' w w' (Peer who fault) not_done not_sink p = p.0
PlaysAs-silent addr id parts o o' w w' (Disagree (NoStation seen told)) not_done not_sink p = p.0
PlaysAs-silent addr id parts o o' w w' NoMemory not_done not_sink p = p.0
PlaysAs-silent addr id parts o o' w w' _ not_done not_sink p = absurd p

pub StationRan-silent : (addr : List ℕ) (id : ℕ) (keys stream : List ℕ) (s s' : ShelfState) (o o' : SinkState) (w w' : WireState) (outcome : Outcome) → (outcome ≡ Done → ⊥) → (outcome ≡ SinkFault → ⊥)
    → StationRan addr id keys stream s s' o o' w w' outcome → o' ≡ o
StationRan-silent addr id keys stream s s' o o' w w' outcome not_done not_sink p = elim p [
  | inl b ↦ b.silent
  | inr a ↦ PlaysAs-silent addr id a.parts o o' w w' outcome not_done not_sink a.plays
]

-- a reported file was needed, and not given
pub StationRan-missing : (addr : List ℕ) (id : ℕ) (keys stream seen : List ℕ) (s s' : ShelfState) (o o' : SinkState) (w w' : WireState)
    → StationRan addr id keys stream s s' o o' w w' (Missing seen) → (s.holds seen ≡ absent) ⊎ FailsUntold (s.holds seen) s.faults s'.faults
StationRan-missing addr id keys stream seen s s' o o' w w' p = elim p [
  | inl b ↦ Stops-missing (station_step keys stream) seen s s' (missing_of (station_step keys stream) seen s s' b.refusal b.outcome_is b.read)
  | inr a ↦ absurd a.plays
]

pub StationRan-long : (addr : List ℕ) (id : ℕ) (keys stream seen : List ℕ) (s s' : ShelfState) (o o' : SinkState) (w w' : WireState)
    → StationRan addr id keys stream s s' o o' w w' (TooLong seen)
    → (limit : ℕ) × NeedsOfStation keys stream s seen limit × (IsHeldAbove (s.holds seen) limit ⊎ FailsUntold (s.holds seen) s.faults s'.faults)
StationRan-long addr id keys stream seen s s' o o' w w' p = elim p [
  | inl b ↦ let q = long_of (station_step keys stream) seen s s' b.refusal b.outcome_is b.read in
      (q.limit, record { files = q.files; needed = q.gave.needed; told = q.gave.bytes; next = q.needed }, Stops-long (station_step keys stream) seen s s' q)
  | inr a ↦ absurd a.plays
]

pub StationRan-transcript : (addr : List ℕ) (id : ℕ) (keys stream seen : List ℕ) (fault : TranscriptFault) (s s' : ShelfState) (o o' : SinkState) (w w' : WireState)
    → StationRan addr id keys stream s s' o o' w w' (Malformed seen (Transcript fault)) → ⊥
StationRan-transcript addr id keys stream seen fault s s' o o' w w' p = elim p [ inl b ↦ transcript_of_none seen fault b.refusal b.outcome_is | inr a ↦ a.plays ]

-- it is the last that was asked for
StationRan-last_missing : (addr : List ℕ) (id : ℕ) (keys stream seen : List ℕ) (s s' : ShelfState) (o o' : SinkState) (w w' : WireState)
    → StationRan addr id keys stream s s' o o' w w' (Missing seen) → LastAsked seen s s'
StationRan-last_missing addr id keys stream seen s s' o o' w w' p = elim p [
  | inl b ↦ Stops-last (station_step keys stream) seen causes.Missing s s' (λ e. absurd cc) (missing_of (station_step keys stream) seen s s' b.refusal b.outcome_is b.read)
  | inr a ↦ absurd a.plays
]

StationRan-last_long : (addr : List ℕ) (id : ℕ) (keys stream seen : List ℕ) (s s' : ShelfState) (o o' : SinkState) (w w' : WireState)
    → StationRan addr id keys stream s s' o o' w w' (TooLong seen) → LastAsked seen s s'
StationRan-last_long addr id keys stream seen s s' o o' w w' p = elim p [
  | inl b ↦ Stops-last (station_step keys stream) seen causes.TooLong s s' (λ e. absurd cc) (long_of (station_step keys stream) seen s s' b.refusal b.outcome_is b.read)
  | inr a ↦ absurd a.plays
]

StationRan-last_fault : (addr : List ℕ) (id : ℕ) (keys stream seen : List ℕ) (fault : FileFault) (s s' : ShelfState) (o o' : SinkState) (w w' : WireState)
    → StationRan addr id keys stream s s' o o' w w' (Malformed seen fault) → LastAsked seen s s'
StationRan-last_fault addr id keys stream seen fault s s' o o' w w' p = elim p [
  | inl b ↦ fault_last (station_step keys stream) seen fault s s' b.refusal b.outcome_is b.read
  | inr a ↦ absurd a.plays
]

pub StationRan-last : (addr : List ℕ) (id : ℕ) (keys stream : List ℕ) (s s' : ShelfState) (o o' : SinkState) (w w' : WireState) (outcome : Outcome) (seen : List ℕ) → TellsName outcome seen
    → StationRan addr id keys stream s s' o o' w w' outcome → LastAsked seen s s'
StationRan-last addr id keys stream s s' o o' w w' outcome seen tells p =
    let P : Outcome → Type 0 = λ x. StationRan addr id keys stream s s' o o' w w' x in
    elim tells [
      | inl e ↦ StationRan-last_missing addr id keys stream seen s s' o o' w w' (subst P e p)
      | inr other ↦ elim other [
        | inl e ↦ StationRan-last_long addr id keys stream seen s s' o o' w w' (subst P e p)
        | inr f ↦ StationRan-last_fault addr id keys stream seen f.0 s s' o o' w w' (subst P f.1 p)
      ]
    ]

-- faults of the outside have their causes
pub StationRan-shelf_rose : (addr : List ℕ) (id : ℕ) (keys stream : List ℕ) (s s' : ShelfState) (o o' : SinkState) (w w' : WireState)
    → StationRan addr id keys stream s s' o o' w w' ShelfFault → Rose s.faults s'.faults
StationRan-shelf_rose addr id keys stream s s' o o' w w' p = elim p [ inl b ↦ rose_of (station_step keys stream) s s' b.refusal b.outcome_is b.read | inr a ↦ absurd a.plays ]

pub StationRan-sink_rose : (addr : List ℕ) (id : ℕ) (keys stream : List ℕ) (s s' : ShelfState) (o o' : SinkState) (w w' : WireState)
    → StationRan addr id keys stream s s' o o' w w' SinkFault → Rose o.faults o'.faults
unfolding ends_before
StationRan-sink_rose addr id keys stream s s' o o' w w' p = (after_reading addr id keys stream s s' o o' w w' SinkFault refl p).plays.1.put.answer.1

PlaysAs-wire_rose : (addr : List ℕ) (id : ℕ) (parts : StationParts) (o o' : SinkState) (w w' : WireState) → PlaysAs addr id parts o o' w w' WireFault → Rose w.faults w'.faults
PlaysAs-wire_rose addr id parts o o' w w' p = elim p.1 [
  | inl d ↦ d.answer.1
  | inr q ↦ Rose-earlier w.faults q.middle.faults w'.faults q.dials.counted q.ends.1
]

pub StationRan-wire_rose : (addr : List ℕ) (id : ℕ) (keys stream : List ℕ) (s s' : ShelfState) (o o' : SinkState) (w w' : WireState)
    → StationRan addr id keys stream s s' o o' w w' WireFault → Rose w.faults w'.faults
unfolding ends_before
StationRan-wire_rose addr id keys stream s s' o o' w w' p =
    let a = after_reading addr id keys stream s s' o o' w w' WireFault refl p in PlaysAs-wire_rose addr id a.parts o o' w w' a.plays

-- the wire was asked for nothing, or for the address
abbrev pub AskedWire : List (List ℕ) → WireState → WireState → Type 0
AskedWire all w w' = (names : List (List ℕ)) × IsFront names all × (w'.asked ≡ grown w.asked names)

pub unasked_wire : (all : List (List ℕ)) (w w' : WireState) → w' ≡ w → AskedWire all w w'
unasked_wire all w w' e = ([], (all, refl), ap (λ (x : WireState). x.asked) e ∙ grown-nothing w.asked)

pub asked_wire : (all : List (List ℕ)) (w w' : WireState) → w'.asked ≡ grown w.asked all → AskedWire all w w'
asked_wire all w w' e = (all, ([], sym (append-nil all)), e)

played_asked : (addr : List ℕ) (id : ℕ) (parts : StationParts) (w w' : WireState) (r : Result Unit LiveFault) → PlayedAs addr id parts w w' r → w'.asked ≡ grown w.asked (addr ∷ [])
played_asked addr id parts w w' r p = p.talks.asked ∙ p.dials.asked

PlaysAs-wire : (addr : List ℕ) (id : ℕ) (parts : StationParts) (o o' : SinkState) (w w' : WireState) (outcome : Outcome) → PlaysAs addr id parts o o' w w' outcome → AskedWire (addr ∷ []) w w'
PlaysAs-wire addr id parts o o' w w' Done p = asked_wire (addr ∷ []) w w' (played_asked addr id parts w w' (Ok tt) p.played)
PlaysAs-wire addr id parts o o' w w' SinkFault p = asked_wire (addr ∷ []) w w' (played_asked addr id parts w w' (Ok tt) p.1.played)
PlaysAs-wire addr id parts o o' w w' WireFault p = elim p.1 [
  | inl d ↦ asked_wire (addr ∷ []) w w' d.asked
  | inr q ↦ asked_wire (addr ∷ []) w w' (played_asked addr id parts w w' (Err lives.Wire) q)
]
PlaysAs-wire addr id parts o o' w w' (Peer who fault) p = asked_wire (addr ∷ []) w w' (played_asked addr id parts w w' (Err (lives.Peer who fault)) p.1)
PlaysAs-wire addr id parts o o' w w' (Disagree (NoStation seen told)) p = unasked_wire (addr ∷ []) w w' p.1
PlaysAs-wire addr id parts o o' w w' NoMemory p = unasked_wire (addr ∷ []) w w' p.1
PlaysAs-wire addr id parts o o' w w' _ p = absurd p

pub StationRan-wire : (addr : List ℕ) (id : ℕ) (keys stream : List ℕ) (s s' : ShelfState) (o o' : SinkState) (w w' : WireState) (outcome : Outcome)
    → StationRan addr id keys stream s s' o o' w w' outcome → AskedWire (addr ∷ []) w w'
StationRan-wire addr id keys stream s s' o o' w w' outcome p = elim p [
  | inl b ↦ unasked_wire (addr ∷ []) w w' b.still
  | inr a ↦ PlaysAs-wire addr id a.parts o o' w w' outcome a.plays
]

pub StationRan-wire_all : (addr : List ℕ) (id : ℕ) (keys stream : List ℕ) (s s' : ShelfState) (o o' : SinkState) (w w' : WireState)
    → StationRan addr id keys stream s s' o o' w w' Done → w'.asked ≡ grown w.asked (addr ∷ [])
unfolding ends_before
StationRan-wire_all addr id keys stream s s' o o' w w' p =
    let a = after_reading addr id keys stream s s' o o' w w' Done refl p in played_asked addr id a.parts w w' (Ok tt) a.plays.played

-- what the station sent, by the outcome
unsent : (c : Call) (addr : List ℕ) (id : ℕ) (keys stream : List ℕ) (refusal : NotRead) → SentNothing c → StationAnswer c addr id keys stream (outcome_of refusal)
unsent c addr id keys stream (refusals.Missing name) e = e
unsent c addr id keys stream (refusals.TooLong name) e = e
unsent c addr id keys stream (refusals.Malformed name fault) e = e
unsent c addr id keys stream (refusals.Disagree fault) e = e
unsent c addr id keys stream refusals.ShelfFault e = e
unsent c addr id keys stream refusals.NoMemory e = e

spoke_as : (c : Call) (addr : List ℕ) (id : ℕ) (keys stream : List ℕ) (parts : StationParts) (r : Result Unit LiveFault) → StationRead keys stream c.shelf parts
    → PlayedAs addr id parts c.wire c.wire' r → SpokeAs c addr id keys stream r
spoke_as c addr id keys stream parts r read p = record { parts = parts; read = read; session = p }

sent_stays : (w w' : WireState) → w' ≡ w → (p : ℕ) → w'.sent p ≡ w.sent p
sent_stays w w' e p = ap (λ (x : WireState). x.sent p) e

StationAnswer-after : (c : Call) (addr : List ℕ) (id : ℕ) (keys stream : List ℕ) (parts : StationParts) (outcome : Outcome) → StationRead keys stream c.shelf parts
    → PlaysAs addr id parts c.out c.out' c.wire c.wire' outcome → StationAnswer c addr id keys stream outcome
unfolding spoke_as
StationAnswer-after c addr id keys stream parts Done read p = (spoke_as c addr id keys stream parts (Ok tt) read p.played, p.put.answer)
StationAnswer-after c addr id keys stream parts SinkFault read p = spoke_as c addr id keys stream parts (Ok tt) read p.1.played
StationAnswer-after c addr id keys stream parts WireFault read p = elim p.1 [
  | inl d ↦ inl (λ p. ap (λ (sent : ℕ → Option (List ℕ)). sent p) d.sent)
  | inr q ↦ inr (spoke_as c addr id keys stream parts (Err lives.Wire) read q)
]
StationAnswer-after c addr id keys stream parts (Peer who fault) read p = spoke_as c addr id keys stream parts (Err (lives.Peer who fault)) read p.1
StationAnswer-after c addr id keys stream parts (Disagree (NoStation seen told)) read p = sent_stays c.wire c.wire' p.1
StationAnswer-after c addr id keys stream parts NoMemory read p = sent_stays c.wire c.wire' p.1
StationAnswer-after c addr id keys stream parts _ read p = absurd p

pub StationAnswer-ran : (c : Call) (addr : List ℕ) (id : ℕ) (keys stream : List ℕ) → StationRan addr id keys stream c.shelf c.shelf' c.out c.out' c.wire c.wire' c.outcome
    → StationAnswer c addr id keys stream c.outcome
StationAnswer-ran c addr id keys stream p = elim p [
  | inl b ↦ let P : Outcome → Type 0 = λ x. StationAnswer c addr id keys stream x in
      subst P (sym b.outcome_is) (unsent c addr id keys stream b.refusal (sent_stays c.wire c.wire' b.still))
  | inr a ↦ StationAnswer-after c addr id keys stream a.parts c.outcome (StationRead-read keys stream c.shelf c.shelf' a.parts a.read) a.plays
]

-- a fault is no good end
not_ok : {A : Type 0} (fault : LiveFault) → IsOk {T = Unit {0}} {E = LiveFault} (Err fault) → A
not_ok fault ok = absurd cc

-- where the hub gives all sums, a session ends well
hears_all : (words : ℕ) (addr : List ℕ) (peer : ℕ) (w middle w' : WireState) → GivesSums words w → (Rose w.faults w'.faults → ⊥) → Dials addr w middle (Ok peer) → HearsAll peer words middle w'
hears_all words addr peer w middle w' gives calm d = record {
  bytes = gives.bytes;
  known = ap (λ (left : ℕ → Option (List ℕ)). left peer) d.left ∙ ap w.left d.answer.0 ∙ gives.known;
  words = gives.sums;
  counted = λ rose. calm (Rose-earlier w.faults middle.faults w'.faults d.counted rose);
}

PlaysAs-complete : (addr : List ℕ) (id : ℕ) (parts : StationParts) (o o' : SinkState) (w w' : WireState) (outcome : Outcome) → id < parts.keys.stations → GivesSums parts.keys.words w
    → (Rose o.faults o'.faults → ⊥) → (Rose w.faults w'.faults → ⊥) → PlaysAs addr id parts o o' w w' outcome → (outcome ≡ Done) ⊎ (outcome ≡ NoMemory)
PlaysAs-complete addr id parts o o' w w' Done lt gives calm_sink calm_wire p = inl refl
PlaysAs-complete addr id parts o o' w w' NoMemory lt gives calm_sink calm_wire p = inr refl
PlaysAs-complete addr id parts o o' w w' SinkFault lt gives calm_sink calm_wire p = absurd (calm_sink p.1.put.answer.1)
PlaysAs-complete addr id parts o o' w w' WireFault lt gives calm_sink calm_wire p = absurd (calm_wire (PlaysAs-wire_rose addr id parts o o' w w' p))
PlaysAs-complete addr id parts o o' w w' (Peer who fault) lt gives calm_sink calm_wire p =
    not_ok (lives.Peer who fault) (p.1.complete (hears_all parts.keys.words addr p.1.peer w p.1.middle w' gives calm_wire p.1.dials))
PlaysAs-complete addr id parts o o' w w' (Disagree (NoStation seen told)) lt gives calm_sink calm_wire p = let above = p.2.above in absurd (omega (arith, lt, above))
PlaysAs-complete addr id parts o o' w w' _ lt gives calm_sink calm_wire p = absurd p

-- where there is no such station, this is the outcome
PlaysAs-refused : (addr : List ℕ) (id : ℕ) (parts : StationParts) (o o' : SinkState) (w w' : WireState) (outcome : Outcome) → parts.keys.stations ≤ id
    → PlaysAs addr id parts o o' w w' outcome → (outcome ≡ Disagree (NoStation id parts.keys.stations)) ⊎ (outcome ≡ NoMemory)
PlaysAs-refused addr id parts o o' w w' Done le p = let lt = p.played.exists in absurd (omega (arith, lt, le))
PlaysAs-refused addr id parts o o' w w' SinkFault le p = let lt = p.1.played.exists in absurd (omega (arith, lt, le))
PlaysAs-refused addr id parts o o' w w' (Peer who fault) le p = let lt = p.1.exists in absurd (omega (arith, lt, le))
PlaysAs-refused addr id parts o o' w w' (Disagree (NoStation seen told)) le p = inl (rw (p.2.seen_is, p.2.told_is) refl)
PlaysAs-refused addr id parts o o' w w' NoMemory le p = inr refl
PlaysAs-refused addr id parts o o' w w' WireFault le p = let lt = p.2 in absurd (omega (arith, lt, le))
PlaysAs-refused addr id parts o o' w w' _ le p = absurd p

-- the parts are those of the held files
settled_parts : (parts made : StationParts) (step : Step StationParts) → step ≡ makes parts [] → Settles step (Ok made) → made ≡ parts
settled_parts parts made step e p = let P : Step StationParts → Type 0 = λ x. Settles x (Ok made) in subst P e p

pub CompletesStation-ran : (c : Call) (addr : List ℕ) (id : ℕ) (keys stream : List ℕ) → StationRan addr id keys stream c.shelf c.shelf' c.out c.out' c.wire c.wire' c.outcome
    → CompletesStation c id keys stream
CompletesStation-ran c addr id keys stream p = record {
  complete = λ parts holds lt gives calm_shelf calm_sink calm_wire. elim p [
    | inl b ↦ inr (b.outcome_is ∙ ap outcome_of (settles_made parts [] (station_step keys stream (bytes_of holds.files)) b.refusal holds.made (b.settled holds.files holds.needed holds.held_files calm_shelf)))
    | inr a ↦ let same : a.parts ≡ parts = settled_parts parts a.parts (station_step keys stream (bytes_of holds.files)) holds.made (a.settled holds.files holds.needed holds.held_files calm_shelf) in
        PlaysAs-complete addr id parts c.out c.out' c.wire c.wire' c.outcome lt gives calm_sink calm_wire (let P : StationParts → Type 0 = λ x. PlaysAs addr id x c.out c.out' c.wire c.wire' c.outcome in subst P same a.plays)
  ];
  refused = λ parts holds le calm_shelf. elim p [
    | inl b ↦ inr (b.outcome_is ∙ ap outcome_of (settles_made parts [] (station_step keys stream (bytes_of holds.files)) b.refusal holds.made (b.settled holds.files holds.needed holds.held_files calm_shelf)))
    | inr a ↦ let same : a.parts ≡ parts = settled_parts parts a.parts (station_step keys stream (bytes_of holds.files)) holds.made (a.settled holds.files holds.needed holds.held_files calm_shelf) in
        PlaysAs-refused addr id parts c.out c.out' c.wire c.wire' c.outcome le (let P : StationParts → Type 0 = λ x. PlaysAs addr id x c.out c.out' c.wire c.wire' c.outcome in subst P same a.plays)
  ];
}

-- ---- steps of the code

-- a session that was played after the hub was dialled
pub played : (addr : List ℕ) (p : Player) (before middle after : WireState) (peer : ℕ) (station : State) (mask : MaskState) (r : Result Unit LiveFault) → Dials addr before middle (Ok peer)
    → RunsStation peer (greeting_by p) p.station station p.mask mask middle after r → (HearsAll peer p.words middle after → IsOk r) → Played addr p before after r
played addr p before middle after peer station mask r dials session complete =
    record { peer = peer; middle = middle; dials = dials; station = station; mask = mask; session = session; complete = complete }

pub plays_done : (addr : List ℕ) (p : Player) (o o' : SinkState) (before middle after : WireState) (peer : ℕ) (station : State) (mask : MaskState) → Dials addr before middle (Ok peer)
    → RunsStation peer (greeting_by p) p.station station p.mask mask middle after (Ok tt) → (HearsAll peer p.words middle after → IsOk {T = Unit {0}} {E = LiveFault} (Ok tt))
    → PutsLog p.id station o o' (Ok tt) → Plays addr p o o' before after Done
unfolding played
plays_done addr p o o' before middle after peer station mask dials session complete put = (played addr p before middle after peer station mask (Ok tt) dials session complete, put)

pub plays_failed : (addr : List ℕ) (p : Player) (o o' : SinkState) (before middle after : WireState) (peer : ℕ) (station : State) (mask : MaskState) (failed : Failed) → Dials addr before middle (Ok peer)
    → RunsStation peer (greeting_by p) p.station station p.mask mask middle after (Ok tt) → (HearsAll peer p.words middle after → IsOk {T = Unit {0}} {E = LiveFault} (Ok tt))
    → PutsLog p.id station o o' (Err failed) → Plays addr p o o' before after SinkFault
unfolding played
plays_failed addr p o o' before middle after peer station mask failed dials session complete put =
    (failed, (played addr p before middle after peer station mask (Ok tt) dials session complete, put))

-- the outcome of a fault of the session
pub plays_fault : (addr : List ℕ) (p : Player) (o : SinkState) (before after : WireState) (fault : LiveFault) → Played addr p before after (Err fault)
    → Plays addr p o o before after (outcome_of_session fault)
plays_fault addr p o before after lives.Wire played = (refl, inr played)
plays_fault addr p o before after (lives.Peer who fault) played = (refl, played)

-- a player of these keys and this stream
played_as : (addr : List ℕ) (id : ℕ) (parts : StationParts) (p : Player) (before after : WireState) (r : Result Unit LiveFault) → IsKeys parts.keys → id < parts.keys.stations
    → IsPlayerOf id parts.keys parts.stream p → Played addr p before after r → PlayedAs addr id parts before after r
played_as addr id parts p before after r keys exists is q =
    let greeting : greeting_by p ≡ record { station = id; stations = parts.keys.stations; words = parts.keys.words } =
    λ i. record { station = is.id_is i; stations = is.stations_are i; words = is.words_are i } in
    let Runs : Greeting → Type 0 = λ g. RunsStation q.peer g p.station q.station p.mask q.mask q.middle after r in
    let session = subst Runs greeting q.session in
    let Hears : ℕ → Type 0 = λ words. HearsAll q.peer words q.middle after → IsOk r in
    record {
      is_keys = keys;
      exists = exists;
      peer = q.peer;
      middle = q.middle;
      dials = q.dials;
      taken = session.taken;
      given = session.given;
      talks = session.talks;
      ends = session.ends;
      spoke = session.spoke parts.stream parts.keys keys is.station is.mask;
      complete = subst Hears is.words_are q.complete;
    }

log_put : (addr : List ℕ) (id : ℕ) (parts : StationParts) (p : Player) (o o' : SinkState) (before after : WireState) (ended : Result Unit Failed) → IsKeys parts.keys → id < parts.keys.stations
    → IsPlayerOf id parts.keys parts.stream p → (q : Played addr p before after (Ok tt)) → PutsLog p.id q.station o o' ended → LogPut addr id parts o o' before after ended
unfolding played_as
log_put addr id parts p o o' before after ended keys exists is q put =
    let greeting : greeting_by p ≡ record { station = id; stations = parts.keys.stations; words = parts.keys.words } =
    λ i. record { station = is.id_is i; stations = is.stations_are i; words = is.words_are i } in
    let Runs : Greeting → Type 0 = λ g. RunsStation q.peer g p.station q.station p.mask q.mask q.middle after (Ok tt) in
    let session = subst Runs greeting q.session in
    let words = heard parts.keys.words session.taken in
    let stands = session.received parts.stream is.station in
    let Texts : ℕ → Type 0 = λ i. Puts (log_text i parts.stream words) o o' ended in
    record {
      played = played_as addr id parts p before after (Ok tt) keys exists is q;
      put = subst Texts is.id_is (put parts.stream parts.keys.words words stands);
    }

pub plays_as : (addr : List ℕ) (id : ℕ) (parts : StationParts) (p : Player) (o o' : SinkState) (before after : WireState) (outcome : Outcome) → IsKeys parts.keys → id < parts.keys.stations
    → IsPlayerOf id parts.keys parts.stream p → Plays addr p o o' before after outcome → PlaysAs addr id parts o o' before after outcome
plays_as addr id parts p o o' before after Done keys exists is q = log_put addr id parts p o o' before after (Ok tt) keys exists is q.0 q.1
plays_as addr id parts p o o' before after SinkFault keys exists is q = (q.0, log_put addr id parts p o o' before after (Err q.0) keys exists is q.1.0 q.1.1)
plays_as addr id parts p o o' before after WireFault keys exists is q = (
  q.0,
  elim q.1 [ inl d ↦ inl d | inr r ↦ inr (played_as addr id parts p before after (Err lives.Wire) keys exists is r) ],
  exists,
)
plays_as addr id parts p o o' before after (Peer who fault) keys exists is q = (q.0, played_as addr id parts p before after (Err (lives.Peer who fault)) keys exists is q.1)
plays_as addr id parts p o o' before after NoMemory keys exists is q = q
plays_as addr id parts p o o' before after _ keys exists is q = absurd q
