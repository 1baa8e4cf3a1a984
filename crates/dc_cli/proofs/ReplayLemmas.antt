-- What follows from what `replay` or `logs` did.
use Rattle.std.proofs.Common.{◌≡◌, ◌⊎◌, ℕ, List, [], ◌∷◌, ◌++◌, Option, Result, Ok, Err, inl, inr, refl, sym, ap, ◌∙◌, subst, append-nil}
use Rattle.std.proofs.lemmas.List.{map-append}
use Rattle.dc_spec.specs.Outside.{ShelfState, SinkState, Holding, absent, Rose, grown}
use Rattle.dc_spec.specs.Net.{Net, Run}
use Rattle.dc_edge.specs.Shelf.{IsHeldAbove, FailsUntold}
use Rattle.dc_edge.specs.declared.fault.ShelfFault.{ShelfFault}
use Rattle.dc_edge.specs.declared.fault.ShelfFault.TheVariants as causes
use Rattle.dc_edge.proofs.PutLemmas.{grown-grown, Rose-earlier}
use Rattle.dc_superpose.specs.declared.fault.TranscriptFault.{TranscriptFault}
use Rattle.dc_net_files.specs.Steps.{File, Step, makes, Reader, names_of, bytes_of}
use Rattle.dc_net_files.specs.Parts.{net_step}
use Rattle.dc_net_files.specs.Reading.{AreNeeded, Gave, Stops, Refuses, Ended}
use Rattle.dc_net_files.specs.Settled.{AreHeld, Settles}
use Rattle.dc_net_files.specs.declared.fault.NetFileFault.{NetFileFault}
use Rattle.dc_net_files.specs.declared.fault.NetFileFault.TheVariants as files
use Rattle.dc_net_files.specs.declared.fault.NotRead.{NotRead}
use Rattle.dc_net_files.specs.declared.fault.NotRead.TheVariants as refusals
use Rattle.dc_cli.specs.Replaying.{file_fault_of, outcome_of, RefusesNet, NetRan, RunPrinted}
use Rattle.dc_cli.specs.declared.outcome.FileFault.{FileFault}
use Rattle.dc_cli.specs.declared.outcome.FileFault.TheVariants.{Transcript}
use Rattle.dc_cli.specs.declared.outcome.Outcome.{Outcome}
use Rattle.dc_cli.specs.declared.outcome.Outcome.TheVariants.{Done, Usage, Missing, TooLong, Malformed, ShelfFault as ShelfFailed, SinkFault, WireFault, NoMemory}
use Rattle.dc_cli.specs.Promises.{TellsName, NamesOf, NamesOfNet, NeedsOfNet, next_name}
use Rattle.dc_cli.proofs.ShelfLemmas.{LastAsked, AskedUpTo}

-- all files stay, whatever the answer
pub Ended-kept : {A : Type 0} (reader : Reader A) (s s' : ShelfState) (r : Result A NotRead) → Ended reader s s' r → s'.holds ≡ s.holds
Ended-kept reader s s' (Ok x) p = p.gave.kept
Ended-kept reader s s' (Err (refusals.Missing name)) p = p.read.kept ∙ p.gave.kept
Ended-kept reader s s' (Err (refusals.TooLong name)) p = p.read.kept ∙ p.gave.kept
Ended-kept reader s s' (Err (refusals.Malformed name fault)) p = p.gave.kept
Ended-kept reader s s' (Err (refusals.Disagree fault)) p = p.gave.kept
Ended-kept reader s s' (Err refusals.ShelfFault) p = p.1.read.kept ∙ p.1.gave.kept
Ended-kept reader s s' (Err refusals.NoMemory) p = p.1.kept

-- the name that was needed and not given is the last that was asked for
pub Stops-last : {A : Type 0} (reader : Reader A) (name : List ℕ) (cause : ShelfFault) (s s' : ShelfState) → (cause ≡ causes.NoMemory → ⊥)
    → Stops reader name cause s s' → LastAsked name s s'
Stops-last reader name causes.Missing s s' is p =
    (names_of p.files, p.read.asked ∙ ap (λ (t : Option (List (List ℕ))). grown t (name ∷ [])) p.gave.asked ∙ grown-grown s.asked (names_of p.files) (name ∷ []))
Stops-last reader name causes.TooLong s s' is p =
    (names_of p.files, p.read.asked ∙ ap (λ (t : Option (List (List ℕ))). grown t (name ∷ [])) p.gave.asked ∙ grown-grown s.asked (names_of p.files) (name ∷ []))
Stops-last reader name causes.Failed s s' is p =
    (names_of p.files, p.read.asked ∙ ap (λ (t : Option (List (List ℕ))). grown t (name ∷ [])) p.gave.asked ∙ grown-grown s.asked (names_of p.files) (name ∷ []))
Stops-last reader name causes.NoMemory s s' is p = absurd (is refl)

-- the file that has a fault is the last that was asked for
Refuses-last : {A : Type 0} (reader : Reader A) (name : List ℕ) (fault : NetFileFault) (s s' : ShelfState)
    → Refuses reader name fault s s' → LastAsked name s s'
Refuses-last reader name fault s s' p = (
  names_of p.front,
  p.gave.asked ∙ ap (λ (ns : List (List ℕ)). grown s.asked ns)
      (map-append (λ (file : File). file.name) p.front (p.last ∷ []) ∙ ap (λ (n : List ℕ). names_of p.front ++ n ∷ []) p.named),
)

-- a file that is missing is absent, or unknown where the count of faults rose
pub Stops-missing : {A : Type 0} (reader : Reader A) (name : List ℕ) (s s' : ShelfState) → Stops reader name causes.Missing s s'
    → (s.holds name ≡ absent) ⊎ FailsUntold (s.holds name) s.faults s'.faults
Stops-missing reader name s s' p =
    let same : p.middle.holds name ≡ s.holds name = ap (λ (hs : List ℕ → Holding). hs name) p.gave.kept in
    elim p.read.answer [
      | inl gone ↦ inl (sym same ∙ gone)
      | inr fails ↦ inr (sym same ∙ fails.0, Rose-earlier s.faults p.middle.faults s'.faults p.gave.counted fails.1)
    ]

-- a file that is too long is longer than the limit within which it was needed, or unknown where the count rose
pub Stops-long : {A : Type 0} (reader : Reader A) (name : List ℕ) (s s' : ShelfState) (p : Stops reader name causes.TooLong s s')
    → IsHeldAbove (s.holds name) p.limit ⊎ FailsUntold (s.holds name) s.faults s'.faults
Stops-long reader name s s' p =
    let same : p.middle.holds name ≡ s.holds name = ap (λ (hs : List ℕ → Holding). hs name) p.gave.kept in
    elim p.read.answer [
      | inl above ↦ inl (above.0, sym same ∙ above.1, above.2)
      | inr fails ↦ inr (sym same ∙ fails.0, Rose-earlier s.faults p.middle.faults s'.faults p.gave.counted fails.1)
    ]

Stops-rose : {A : Type 0} (reader : Reader A) (name : List ℕ) (s s' : ShelfState) → Stops reader name causes.Failed s s' → Rose s.faults s'.faults
Stops-rose reader name s s' p = Rose-earlier s.faults p.middle.faults s'.faults p.gave.counted p.read.answer

-- all files stay
pub NetRan-kept : (text : Net → Run → List ℕ) (name : List ℕ) (s s' : ShelfState) (o o' : SinkState) (outcome : Outcome) → NetRan text name s s' o o' outcome → s'.holds ≡ s.holds
NetRan-kept text name s s' o o' Done p = Ended-kept (net_step name) s s' (Ok p.net) p.reads.read
NetRan-kept text name s s' o o' SinkFault p = Ended-kept (net_step name) s s' (Ok p.1.net) p.1.reads.read
NetRan-kept text name s s' o o' NoMemory p = Ended-kept (net_step name) s s' p.1.0 p.1.1.read
NetRan-kept text name s s' o o' _ p = Ended-kept (net_step name) s s' (Err p.1.refusal) p.1.reads.read

-- no refusal is a command line that is not a form, or an end
pub refusal_not : (refusal : NotRead) (place : ℕ) → Usage place ≡ outcome_of refusal → ⊥
refusal_not (refusals.Missing name) place e = absurd cc
refusal_not (refusals.TooLong name) place e = absurd cc
refusal_not (refusals.Malformed name fault) place e = absurd cc
refusal_not (refusals.Disagree fault) place e = absurd cc
refusal_not refusals.ShelfFault place e = absurd cc
refusal_not refusals.NoMemory place e = absurd cc

pub NetRan-usage : (text : Net → Run → List ℕ) (name : List ℕ) (s s' : ShelfState) (o o' : SinkState) (place : ℕ) → NetRan text name s s' o o' (Usage place) → ⊥
NetRan-usage text name s s' o o' place p = refusal_not p.1.refusal place p.1.outcome_is

-- no refusal is a fault of the wire
pub refusal_no_wire : (refusal : NotRead) → WireFault ≡ outcome_of refusal → ⊥
refusal_no_wire (refusals.Missing name) e = absurd cc
refusal_no_wire (refusals.TooLong name) e = absurd cc
refusal_no_wire (refusals.Malformed name fault) e = absurd cc
refusal_no_wire (refusals.Disagree fault) e = absurd cc
refusal_no_wire refusals.ShelfFault e = absurd cc
refusal_no_wire refusals.NoMemory e = absurd cc

pub NetRan-no_wire : (text : Net → Run → List ℕ) (name : List ℕ) (s s' : ShelfState) (o o' : SinkState) → NetRan text name s s' o o' WireFault → ⊥
NetRan-no_wire text name s s' o o' p = refusal_no_wire p.1.refusal p.1.outcome_is

-- a file that is told as missing was needed, and was not given
pub missing_of : {A : Type 0} (reader : Reader A) (seen : List ℕ) (s s' : ShelfState) (refusal : NotRead) → Missing seen ≡ outcome_of refusal → Ended reader s s' (Err refusal)
    → Stops reader seen causes.Missing s s'
missing_of reader seen s s' (refusals.Missing told) e p = let P : List ℕ → Type 0 = λ n. Stops reader n causes.Missing s s' in let same : told ≡ seen = cc in subst P same p
missing_of reader seen s s' (refusals.TooLong told) e p = absurd cc
missing_of reader seen s s' (refusals.Malformed told fault) e p = absurd cc
missing_of reader seen s s' (refusals.Disagree fault) e p = absurd cc
missing_of reader seen s s' refusals.ShelfFault e p = absurd cc
missing_of reader seen s s' refusals.NoMemory e p = absurd cc

pub NetRan-missing : (text : Net → Run → List ℕ) (name seen : List ℕ) (s s' : ShelfState) (o o' : SinkState) → NetRan text name s s' o o' (Missing seen)
    → (s.holds seen ≡ absent) ⊎ FailsUntold (s.holds seen) s.faults s'.faults
NetRan-missing text name seen s s' o o' p = Stops-missing (net_step name) seen s s' (missing_of (net_step name) seen s s' p.1.refusal p.1.outcome_is p.1.reads.read)

-- and so for a file that is told as too long
pub long_of : {A : Type 0} (reader : Reader A) (seen : List ℕ) (s s' : ShelfState) (refusal : NotRead) → TooLong seen ≡ outcome_of refusal → Ended reader s s' (Err refusal)
    → Stops reader seen causes.TooLong s s'
long_of reader seen s s' (refusals.TooLong told) e p = let P : List ℕ → Type 0 = λ n. Stops reader n causes.TooLong s s' in let same : told ≡ seen = cc in subst P same p
long_of reader seen s s' (refusals.Missing told) e p = absurd cc
long_of reader seen s s' (refusals.Malformed told fault) e p = absurd cc
long_of reader seen s s' (refusals.Disagree fault) e p = absurd cc
long_of reader seen s s' refusals.ShelfFault e p = absurd cc
long_of reader seen s s' refusals.NoMemory e p = absurd cc

-- a reported fault is that of the last file
pub fault_last : {A : Type 0} (reader : Reader A) (seen : List ℕ) (fault : FileFault) (s s' : ShelfState) (refusal : NotRead) → Malformed seen fault ≡ outcome_of refusal → Ended reader s s' (Err refusal)
    → LastAsked seen s s'
fault_last reader seen fault s s' (refusals.Malformed told found) e p =
    let P : List ℕ → Type 0 = λ n. LastAsked n s s' in let same : told ≡ seen = cc in subst P same (Refuses-last reader told found s s' p)
fault_last reader seen fault s s' (refusals.Missing told) e p = absurd cc
fault_last reader seen fault s s' (refusals.TooLong told) e p = absurd cc
fault_last reader seen fault s s' (refusals.Disagree found) e p = absurd cc
fault_last reader seen fault s s' refusals.ShelfFault e p = absurd cc
fault_last reader seen fault s s' refusals.NoMemory e p = absurd cc

pub NetRan-last_missing : (text : Net → Run → List ℕ) (name seen : List ℕ) (s s' : ShelfState) (o o' : SinkState) → NetRan text name s s' o o' (Missing seen) → LastAsked seen s s'
NetRan-last_missing text name seen s s' o o' p =
    Stops-last (net_step name) seen causes.Missing s s' (λ e. absurd cc) (missing_of (net_step name) seen s s' p.1.refusal p.1.outcome_is p.1.reads.read)

pub NetRan-last_long : (text : Net → Run → List ℕ) (name seen : List ℕ) (s s' : ShelfState) (o o' : SinkState) → NetRan text name s s' o o' (TooLong seen) → LastAsked seen s s'
NetRan-last_long text name seen s s' o o' p =
    Stops-last (net_step name) seen causes.TooLong s s' (λ e. absurd cc) (long_of (net_step name) seen s s' p.1.refusal p.1.outcome_is p.1.reads.read)

pub NetRan-last_fault : (text : Net → Run → List ℕ) (name seen : List ℕ) (fault : FileFault) (s s' : ShelfState) (o o' : SinkState) → NetRan text name s s' o o' (Malformed seen fault) → LastAsked seen s s'
NetRan-last_fault text name seen fault s s' o o' p = fault_last (net_step name) seen fault s s' p.1.refusal p.1.outcome_is p.1.reads.read

-- the shelf's fault and the output's fault have their causes
pub rose_of : {A : Type 0} (reader : Reader A) (s s' : ShelfState) (refusal : NotRead) → ShelfFailed ≡ outcome_of refusal → Ended reader s s' (Err refusal) → Rose s.faults s'.faults
rose_of reader s s' refusals.ShelfFault e p = Stops-rose reader p.0 s s' p.1
rose_of reader s s' (refusals.Missing told) e p = absurd cc
rose_of reader s s' (refusals.TooLong told) e p = absurd cc
rose_of reader s s' (refusals.Malformed told fault) e p = absurd cc
rose_of reader s s' (refusals.Disagree fault) e p = absurd cc
rose_of reader s s' refusals.NoMemory e p = absurd cc

pub NetRan-shelf_rose : (text : Net → Run → List ℕ) (name : List ℕ) (s s' : ShelfState) (o o' : SinkState) → NetRan text name s s' o o' ShelfFailed → Rose s.faults s'.faults
NetRan-shelf_rose text name s s' o o' p = rose_of (net_step name) s s' p.1.refusal p.1.outcome_is p.1.reads.read

pub NetRan-sink_rose : (text : Net → Run → List ℕ) (name : List ℕ) (s s' : ShelfState) (o o' : SinkState) → NetRan text name s s' o o' SinkFault → Rose o.faults o'.faults
NetRan-sink_rose text name s s' o o' p = p.1.put.answer.1

-- no file of a net is a transcript
no_transcript : (fault : TranscriptFault) (found : NetFileFault) → Transcript fault ≡ file_fault_of found → ⊥
no_transcript fault (files.Manifest found) e = absurd cc
no_transcript fault (files.Keys found) e = absurd cc
no_transcript fault (files.Stream found) e = absurd cc
no_transcript fault (files.Script found) e = absurd cc

-- where neither all was done nor the output failed, nothing was printed
pub NetRan-silent : (text : Net → Run → List ℕ) (name : List ℕ) (s s' : ShelfState) (o o' : SinkState) (outcome : Outcome) → (outcome ≡ Done → ⊥) → (outcome ≡ SinkFault → ⊥)
    → NetRan text name s s' o o' outcome → o' ≡ o
NetRan-silent text name s s' o o' Done not_done not_sink p = absurd (not_done refl)
NetRan-silent text name s s' o o' SinkFault not_done not_sink p = absurd (not_sink refl)
NetRan-silent text name s s' o o' NoMemory not_done not_sink p = p.0
NetRan-silent text name s s' o o' _ not_done not_sink p = p.0

-- what was printed where all was done
pub NetRan-prints : (text : Net → Run → List ℕ) (name : List ℕ) (s s' : ShelfState) (o o' : SinkState) → NetRan text name s s' o o' Done → RunPrinted text name s s' o o'
NetRan-prints text name s s' o o' p = record {
  files = p.reads.read.files;
  needed = p.reads.read.gave.needed;
  told = p.reads.read.gave.bytes;
  net = p.net;
  is_net = p.is_net;
  made = ap (net_step name) (sym (append-nil (bytes_of p.reads.read.files))) ∙ p.reads.read.goes_on [];
  asked = p.reads.read.gave.asked;
  written = p.put.answer;
}

pub settles_made : {A : Type 0} (net : A) (left : List (List ℕ)) (step : Step A) (refusal : NotRead) → step ≡ makes net left → Settles step (Err refusal) → refusal ≡ refusals.NoMemory
settles_made {A} net left step refusal e p = let P : Step A → Type 0 = λ x. Settles x (Err refusal) in settled net left refusal (subst P e p)
  where
    settled : {A : Type 0} (net : A) (left : List (List ℕ)) (refusal : NotRead) → Settles (makes net left) (Err refusal) → refusal ≡ refusals.NoMemory
    settled net left refusals.NoMemory p = refl
    settled net left (refusals.Missing told) p = absurd p
    settled net left (refusals.TooLong told) p = absurd p
    settled net left (refusals.Malformed told fault) p = absurd p
    settled net left (refusals.Disagree fault) p = absurd p
    settled net left refusals.ShelfFault p = absurd p

pub refuses_not : (name : List ℕ) (s s' : ShelfState) (outcome : Outcome) (files : List File) (net : Net) → AreNeeded (net_step name) files → AreHeld s.holds files
    → net_step name (bytes_of files) ≡ makes net [] → (Rose s.faults s'.faults → ⊥) → RefusesNet name s s' outcome → outcome ≡ NoMemory
refuses_not name s s' outcome files net needed holds made calm p =
    p.outcome_is ∙ ap outcome_of (settles_made net [] (net_step name (bytes_of files)) p.refusal made (p.reads.settled files needed holds calm))

-- where the files are held and make a net, all is done, or memory ran out
pub NetRan-completes : (text : Net → Run → List ℕ) (name : List ℕ) (s s' : ShelfState) (o o' : SinkState) (outcome : Outcome) (files : List File) (net : Net)
    → AreNeeded (net_step name) files → AreHeld s.holds files → net_step name (bytes_of files) ≡ makes net []
    → (Rose s.faults s'.faults → ⊥) → (Rose o.faults o'.faults → ⊥) → NetRan text name s s' o o' outcome → (outcome ≡ Done) ⊎ (outcome ≡ NoMemory)
NetRan-completes text name s s' o o' Done files net needed holds made calm_shelf calm_sink p = inl refl
NetRan-completes text name s s' o o' SinkFault files net needed holds made calm_shelf calm_sink p = absurd (calm_sink p.1.put.answer.1)
NetRan-completes text name s s' o o' NoMemory files net needed holds made calm_shelf calm_sink p = inr refl
NetRan-completes text name s s' o o' other files net needed holds made calm_shelf calm_sink p =
    inr (refuses_not name s s' other files net needed holds made calm_shelf p.1)

-- a name that the outcome reports is the last that was asked for
pub NetRan-last : (text : Net → Run → List ℕ) (name : List ℕ) (s s' : ShelfState) (o o' : SinkState) (outcome : Outcome) (seen : List ℕ) → TellsName outcome seen
    → NetRan text name s s' o o' outcome → LastAsked seen s s'
NetRan-last text name s s' o o' outcome seen tells p =
    let P : Outcome → Type 0 = λ x. NetRan text name s s' o o' x in
    elim tells [
      | inl e ↦ NetRan-last_missing text name seen s s' o o' (subst P e p)
      | inr other ↦ elim other [
        | inl e ↦ NetRan-last_long text name seen s s' o o' (subst P e p)
        | inr f ↦ NetRan-last_fault text name seen f.0 s s' o o' (subst P f.1 p)
      ]
    ]

pub NetRan-long : (text : Net → Run → List ℕ) (name seen : List ℕ) (s s' : ShelfState) (o o' : SinkState) → NetRan text name s s' o o' (TooLong seen)
    → (limit : ℕ) × NeedsOfNet name s seen limit × (IsHeldAbove (s.holds seen) limit ⊎ FailsUntold (s.holds seen) s.faults s'.faults)
NetRan-long text name seen s s' o o' p =
    let q = long_of (net_step name) seen s s' p.1.refusal p.1.outcome_is p.1.reads.read in
    (q.limit, record { files = q.files; needed = q.gave.needed; told = q.gave.bytes; next = q.needed }, Stops-long (net_step name) seen s s' q)

pub transcript_of_none : (seen : List ℕ) (fault : TranscriptFault) (refusal : NotRead) → Malformed seen (Transcript fault) ≡ outcome_of refusal → ⊥
transcript_of_none seen fault (refusals.Malformed told found) e = no_transcript fault found cc
transcript_of_none seen fault (refusals.Missing told) e = absurd cc
transcript_of_none seen fault (refusals.TooLong told) e = absurd cc
transcript_of_none seen fault (refusals.Disagree found) e = absurd cc
transcript_of_none seen fault refusals.ShelfFault e = absurd cc
transcript_of_none seen fault refusals.NoMemory e = absurd cc

pub NetRan-transcript : (text : Net → Run → List ℕ) (name seen : List ℕ) (fault : TranscriptFault) (s s' : ShelfState) (o o' : SinkState)
    → NetRan text name s s' o o' (Malformed seen (Transcript fault)) → ⊥
NetRan-transcript text name seen fault s s' o o' p = transcript_of_none seen fault p.1.refusal p.1.outcome_is

-- a front of the names of the net was asked for
abbrev pub AsksNames : {A : Type 0} → Reader A → ShelfState → ShelfState → Type 0
AsksNames reader s s' = (names : List (List ℕ)) × NamesOf reader s names × AskedUpTo names s s'

pub gave_names : {A : Type 0} (reader : Reader A) (files : List File) (s s' : ShelfState) → Gave reader files s s' → AsksNames reader s s'
gave_names reader files s s' p =
    let next = next_name (reader (bytes_of files)) in
    (names_of files ++ next, record { files = files; needed = p.needed; told = p.bytes; names_are = refl }, (names_of files, (next, refl), p.asked))

pub stops_names : {A : Type 0} (reader : Reader A) (seen : List ℕ) (cause : ShelfFault) (s s' : ShelfState) (p : Stops reader seen cause s s') → (cause ≡ causes.NoMemory → ⊥)
    → AsksNames reader s s'
stops_names reader seen cause s s' p is =
    let names = names_of p.files ++ seen ∷ [] in
    (names, record { files = p.files; needed = p.gave.needed; told = p.gave.bytes; names_are = rw p.needed refl }, (names, ([], sym (append-nil names)), (stops_asked reader seen cause s s' p is)))
  where
    stops_asked : {A : Type 0} (reader : Reader A) (seen : List ℕ) (cause : ShelfFault) (s s' : ShelfState) (p : Stops reader seen cause s s') → (cause ≡ causes.NoMemory → ⊥)
        → s'.asked ≡ grown s.asked (names_of p.files ++ seen ∷ [])
    stops_asked reader seen causes.Missing s s' p is = p.read.asked ∙ ap (λ (t : Option (List (List ℕ))). grown t (seen ∷ [])) p.gave.asked ∙ grown-grown s.asked (names_of p.files) (seen ∷ [])
    stops_asked reader seen causes.TooLong s s' p is = p.read.asked ∙ ap (λ (t : Option (List (List ℕ))). grown t (seen ∷ [])) p.gave.asked ∙ grown-grown s.asked (names_of p.files) (seen ∷ [])
    stops_asked reader seen causes.Failed s s' p is = p.read.asked ∙ ap (λ (t : Option (List (List ℕ))). grown t (seen ∷ [])) p.gave.asked ∙ grown-grown s.asked (names_of p.files) (seen ∷ [])
    stops_asked reader seen causes.NoMemory s s' p is = absurd (is refl)

pub read_names : {A : Type 0} (reader : Reader A) (s s' : ShelfState) (r : Result A NotRead) → Ended reader s s' r → AsksNames reader s s'
read_names reader s s' (Ok net) p = gave_names reader p.files s s' p.gave
read_names reader s s' (Err (refusals.Missing seen)) p = stops_names reader seen causes.Missing s s' p (λ e. absurd cc)
read_names reader s s' (Err (refusals.TooLong seen)) p = stops_names reader seen causes.TooLong s s' p (λ e. absurd cc)
read_names reader s s' (Err (refusals.Malformed seen fault)) p = gave_names reader (p.front ++ p.last ∷ []) s s' p.gave
read_names reader s s' (Err (refusals.Disagree fault)) p = gave_names reader p.files s s' p.gave
read_names reader s s' (Err refusals.ShelfFault) p = stops_names reader p.0 causes.Failed s s' p.1 (λ e. absurd cc)
read_names reader s s' (Err refusals.NoMemory) p = gave_names reader p.0 s s' p.1

pub NetRan-asked : (text : Net → Run → List ℕ) (name : List ℕ) (s s' : ShelfState) (o o' : SinkState) (outcome : Outcome) → NetRan text name s s' o o' outcome → AsksNames (net_step name) s s'
NetRan-asked text name s s' o o' Done p = read_names (net_step name) s s' (Ok p.net) p.reads.read
NetRan-asked text name s s' o o' SinkFault p = read_names (net_step name) s s' (Ok p.1.net) p.1.reads.read
NetRan-asked text name s s' o o' NoMemory p = read_names (net_step name) s s' p.1.0 p.1.1.read
NetRan-asked text name s s' o o' _ p = read_names (net_step name) s s' (Err p.1.refusal) p.1.reads.read

-- all names of the net, where all was done
pub NetRan-asked_all : (text : Net → Run → List ℕ) (name : List ℕ) (s s' : ShelfState) (o o' : SinkState) → NetRan text name s s' o o' Done
    → (names : List (List ℕ)) × NamesOfNet name s names × (s'.asked ≡ grown s.asked names)
NetRan-asked_all text name s s' o o' p =
    let v = NetRan-prints text name s s' o o' p in
    (names_of v.files, record { files = v.files; needed = v.needed; told = v.told; names_are = rw v.made (sym (append-nil (names_of v.files))) }, v.asked)
