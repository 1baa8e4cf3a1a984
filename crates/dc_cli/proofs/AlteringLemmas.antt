-- What follows from what a command did that alters the pads of a net.
use Rattle.std.proofs.Common.{◌≡◌, ◌≤◌, ◌⊎◌, ℕ, Bool, true, false, List, [], ◌∷◌, ◌++◌, length, Option, Result, Ok, Err, inl, inr, refl, sym, ap, ◌∙◌, subst, append-nil, append_assoc, arith}
use Rattle.std.proofs.Math.Nat.{le_trans}
use Rattle.dc_spec.specs.Outside.{ShelfState, SinkState, Holding, absent, held, Rose, Tells, grown}
use Rattle.dc_spec.specs.Net.{Net}
use Rattle.dc_edge.specs.Shelf.{Reads, IsHeldAbove, FailsUntold, rewritten}
use Rattle.dc_edge.specs.declared.fault.WriteFault.{WriteFault}
use Rattle.dc_edge.specs.declared.fault.WriteFault.TheVariants as writes
use Rattle.dc_edge.proofs.PutLemmas.{grown-grown, Rose-earlier}
use Rattle.dc_field.specs.declared.list_fault.ListFault.{ListFault}
use Rattle.dc_run_texts.specs.View.{view_text}
use Rattle.dc_superpose.specs.declared.fault.TranscriptFault.{TranscriptFault}
use Rattle.dc_net_rules.specs.Nets.{IsNet}
use Rattle.dc_net_files.specs.Steps.{Step, needs, refuses, differs, makes, names_of, bytes_of}
use Rattle.dc_net_files.specs.Parts.{net_step}
use Rattle.dc_net_files.specs.Settled.{Settles}
use Rattle.dc_net_files.specs.declared.fault.NotRead.{NotRead}
use Rattle.dc_net_files.specs.declared.fault.NotRead.TheVariants as refusals
use Rattle.dc_net_files.specs.declared.fault.NetFileFault.{NetFileFault}
use Rattle.dc_net_files.specs.declared.fault.NetFileFault.TheVariants as sources
use Rattle.dc_cli.specs.Replaying.{ReadsNet, NetRan, outcome_of, file_fault_of}
use Rattle.dc_cli.specs.Altering.{Altered, misread, refused, altered, Alteration, ListMakes, KeysWritten, WritesThenPuts, AltersNet, AfterNet, BeforeNet, AltersOf}
use Rattle.dc_cli.specs.Alterations.{Makes, WroteKeys, HoldsAll, AltersPads}
use Rattle.dc_cli.specs.Promises.{Call, TellsName, NeedsOfNet, NamesOfNet, NamesOfAlteration, next_name, names_after, LeavesAltered}
use Rattle.dc_cli.specs.declared.outcome.CommandFault.{CommandFault}
use Rattle.dc_cli.specs.declared.outcome.FileFault.{FileFault}
use Rattle.dc_cli.specs.declared.outcome.FileFault.TheVariants as kinds
use Rattle.dc_cli.specs.declared.outcome.Outcome.{Outcome}
use Rattle.dc_cli.specs.declared.outcome.Outcome.TheVariants.{Done, Usage, Missing, TooLong, Malformed, Refused, ShelfFault, SinkFault, WireFault, Peer, NoMemory}
use Rattle.dc_cli.proofs.ShelfLemmas.{told_bytes, held_is_there, held_within, others_since, others_of_all, AskedUpTo, asked_first, asked_none, asked_whole, asked_two, LastAsked}
use Rattle.dc_cli.proofs.ReplayLemmas.{Ended-kept, NetRan-kept, NetRan-usage, NetRan-missing, NetRan-long, NetRan-last, NetRan-transcript, NetRan-shelf_rose, NetRan-asked, refuses_not, refusal_no_wire}

-- a net that was not read, as at a command that prints the view of its run
refused_ran : (source : List ℕ) (s s' : ShelfState) (o o' : SinkState) (refusal : NotRead) → o' ≡ o → ReadsNet source s s' (Err refusal)
    → NetRan view_text source s s' o o' (outcome_of refusal)
refused_ran source s s' o o' (refusals.Missing name) silent p = (silent, record { refusal = refusals.Missing name; reads = p; outcome_is = refl })
refused_ran source s s' o o' (refusals.TooLong name) silent p = (silent, record { refusal = refusals.TooLong name; reads = p; outcome_is = refl })
refused_ran source s s' o o' (refusals.Malformed name fault) silent p = (silent, record { refusal = refusals.Malformed name fault; reads = p; outcome_is = refl })
refused_ran source s s' o o' (refusals.Disagree fault) silent p = (silent, record { refusal = refusals.Disagree fault; reads = p; outcome_is = refl })
refused_ran source s s' o o' refusals.ShelfFault silent p = (silent, record { refusal = refusals.ShelfFault; reads = p; outcome_is = refl })
refused_ran source s s' o o' refusals.NoMemory silent p = (silent, (Err refusals.NoMemory, p))

BeforeNet-ran : (source : List ℕ) (s s' : ShelfState) (o o' : SinkState) (outcome : Outcome) → BeforeNet source s s' o o' outcome → NetRan view_text source s s' o o' outcome
BeforeNet-ran source s s' o o' outcome p =
    let P : Outcome → Type 0 = λ x. NetRan view_text source s s' o o' x in
    subst P (sym p.refuses.outcome_is) (refused_ran source s s' o o' p.refuses.refusal p.silent p.refuses.reads)

-- whether an outcome may be that of a net that was not read
unfoldable pub ends_before : Outcome → Bool
ends_before Done = false
ends_before (Usage place) = false
ends_before (Malformed name (kinds.List fault)) = false
ends_before (Refused fault) = false
ends_before SinkFault = false
ends_before WireFault = false
ends_before (Peer who fault) = false
ends_before _ = true

ends_by_file : (name : List ℕ) (fault : NetFileFault) → ends_before (Malformed name (file_fault_of fault)) ≡ true
unfolding ends_before
ends_by_file name (sources.Manifest fault) = refl
ends_by_file name (sources.Keys fault) = refl
ends_by_file name (sources.Stream fault) = refl
ends_by_file name (sources.Script fault) = refl

pub ends_by : (refusal : NotRead) → ends_before (outcome_of refusal) ≡ true
unfolding ends_before
ends_by (refusals.Missing name) = refl
ends_by (refusals.TooLong name) = refl
ends_by (refusals.Malformed name fault) = ends_by_file name fault
ends_by (refusals.Disagree fault) = refl
ends_by refusals.ShelfFault = refl
ends_by refusals.NoMemory = refl

-- such a command did something with the net
after_net : (source : List ℕ) (m : Alteration) (s s' : ShelfState) (o o' : SinkState) (outcome : Outcome) → ends_before outcome ≡ false → AltersOf source m s s' o o' outcome
    → AfterNet source m s s' o o' outcome
after_net source m s s' o o' outcome late p = elim p [
  | inl b ↦ absurd (let e : ends_before outcome ≡ true = ap ends_before b.refuses.outcome_is ∙ ends_by b.refuses.refusal in cc)
  | inr a ↦ a
]

pub AltersOf-usage : (source : List ℕ) (m : Alteration) (s s' : ShelfState) (o o' : SinkState) (place : ℕ) → AltersOf source m s s' o o' (Usage place) → ⊥
AltersOf-usage source m s s' o o' place p = elim p [
  | inl b ↦ NetRan-usage view_text source s s' o o' place (BeforeNet-ran source s s' o o' (Usage place) b)
  | inr a ↦ a.alters
]

pub AltersOf-no_wire : (source : List ℕ) (m : Alteration) (s s' : ShelfState) (o o' : SinkState) → AltersOf source m s s' o o' WireFault → ⊥
AltersOf-no_wire source m s s' o o' p = elim p [
  | inl b ↦ refusal_no_wire b.refuses.refusal b.refuses.outcome_is
  | inr a ↦ a.alters
]

-- the names that are written may change, no other name does
AltersNet-leaves : (m : Alteration) (net : Net) (s s' : ShelfState) (o o' : SinkState) (outcome : Outcome) → AltersNet m net s s' o o' outcome → LeavesAltered m.target outcome s s'
AltersNet-leaves m net s s' o o' Done p = others_since m.target s p.written.between s' p.written.list.read.kept p.written.write.others
AltersNet-leaves m net s s' o o' SinkFault p = others_since m.target s p.1.written.between s' p.1.written.list.read.kept p.1.written.write.others
AltersNet-leaves m net s s' o o' ShelfFault p = elim p.1 [ inl r ↦ others_of_all m.target s s' r.kept | inr w ↦ others_since m.target s w.between s' w.list.read.kept w.write.others ]
AltersNet-leaves m net s s' o o' (Missing name) p = p.2.kept
AltersNet-leaves m net s s' o o' (TooLong name) p = p.2.kept
AltersNet-leaves m net s s' o o' (Malformed name (kinds.List fault)) p = p.2.read.kept
AltersNet-leaves m net s s' o o' (Refused fault) p = p.1.read.kept
AltersNet-leaves m net s s' o o' NoMemory p = elim p.1 [ inl u ↦ u.0 | inr g ↦ g.read.kept ]
AltersNet-leaves m net s s' o o' _ p = absurd p

LeavesAltered-since : (target : List ℕ) (outcome : Outcome) (s0 s1 s2 : ShelfState) → s1.holds ≡ s0.holds → LeavesAltered target outcome s1 s2 → LeavesAltered target outcome s0 s2
LeavesAltered-since target Done s0 s1 s2 kept p = others_since target s0 s1 s2 kept p
LeavesAltered-since target SinkFault s0 s1 s2 kept p = others_since target s0 s1 s2 kept p
LeavesAltered-since target ShelfFault s0 s1 s2 kept p = others_since target s0 s1 s2 kept p
LeavesAltered-since target _ s0 s1 s2 kept p = p ∙ kept

pub LeavesAltered-all : (target : List ℕ) (outcome : Outcome) (s s' : ShelfState) → s'.holds ≡ s.holds → LeavesAltered target outcome s s'
LeavesAltered-all target Done s s' kept = others_of_all target s s' kept
LeavesAltered-all target SinkFault s s' kept = others_of_all target s s' kept
LeavesAltered-all target ShelfFault s s' kept = others_of_all target s s' kept
LeavesAltered-all target _ s s' kept = kept

-- the files stay while the net is read
kept_net : (source : List ℕ) (net : Net) (s s' : ShelfState) → ReadsNet source s s' (Ok net) → s'.holds ≡ s.holds
kept_net source net s s' p = Ended-kept (net_step source) s s' (Ok net) p.read

pub AltersOf-leaves : (source : List ℕ) (m : Alteration) (s s' : ShelfState) (o o' : SinkState) (outcome : Outcome) → AltersOf source m s s' o o' outcome → LeavesAltered m.target outcome s s'
AltersOf-leaves source m s s' o o' outcome p = elim p [
  | inl b ↦ LeavesAltered-all m.target outcome s s' (NetRan-kept view_text source s s' o o' outcome (BeforeNet-ran source s s' o o' outcome b))
  | inr a ↦ LeavesAltered-since m.target outcome s a.between s' (kept_net source a.net s a.between a.reads) (AltersNet-leaves m a.net a.between s' o o' outcome a.alters)
]

-- the list was asked for, then the name that is written
KeysWritten-asked : (m : Alteration) (net : Net) (s s' : ShelfState) (ended : Result Unit WriteFault) (w : KeysWritten m net s s' ended) → s'.asked ≡ grown w.between.asked (m.target ∷ [])
    → s'.asked ≡ grown s.asked (m.list ∷ m.target ∷ [])
KeysWritten-asked m net s s' ended w asked = asked_two m.list m.target s w.between s' w.list.read.asked asked

AltersNet-asked : (m : Alteration) (net : Net) (s s' : ShelfState) (o o' : SinkState) (outcome : Outcome) → AltersNet m net s s' o o' outcome → AskedUpTo (m.list ∷ m.target ∷ []) s s'
AltersNet-asked m net s s' o o' Done p = asked_whole (m.list ∷ m.target ∷ []) s s' (KeysWritten-asked m net s s' (Ok tt) p.written p.written.write.asked)
AltersNet-asked m net s s' o o' SinkFault p = asked_whole (m.list ∷ m.target ∷ []) s s' (KeysWritten-asked m net s s' (Ok tt) p.1.written p.1.written.write.asked)
AltersNet-asked m net s s' o o' ShelfFault p = elim p.1 [
  | inl r ↦ asked_first m.list (m.target ∷ []) s s' r.asked
  | inr w ↦ asked_whole (m.list ∷ m.target ∷ []) s s' (KeysWritten-asked m net s s' (Err writes.Failed) w w.write.asked)
]
AltersNet-asked m net s s' o o' (Missing name) p = asked_first m.list (m.target ∷ []) s s' p.2.asked
AltersNet-asked m net s s' o o' (TooLong name) p = asked_first m.list (m.target ∷ []) s s' p.2.asked
AltersNet-asked m net s s' o o' (Malformed name (kinds.List fault)) p = asked_first m.list (m.target ∷ []) s s' p.2.read.asked
AltersNet-asked m net s s' o o' (Refused fault) p = asked_first m.list (m.target ∷ []) s s' p.1.read.asked
AltersNet-asked m net s s' o o' NoMemory p = elim p.1 [ inl u ↦ asked_none (m.list ∷ m.target ∷ []) s s' u.1 | inr g ↦ asked_first m.list (m.target ∷ []) s s' g.read.asked ]
AltersNet-asked m net s s' o o' _ p = absurd p

-- names that were asked for, then others
asked_more : (names more : List (List ℕ)) (s0 s1 s2 : ShelfState) → s1.asked ≡ grown s0.asked names → s2.asked ≡ grown s1.asked more → s2.asked ≡ grown s0.asked (names ++ more)
asked_more names more s0 s1 s2 a b = b ∙ ap (λ (told : Option (List (List ℕ))). grown told more) a ∙ grown-grown s0.asked names more

AskedUpTo-more : (names more : List (List ℕ)) (s0 s1 s2 : ShelfState) → s1.asked ≡ grown s0.asked names → AskedUpTo more s1 s2 → AskedUpTo (names ++ more) s0 s2
AskedUpTo-more names more s0 s1 s2 a p =
    (names ++ p.0, (p.1.0, ap (λ (ns : List (List ℕ)). names ++ ns) p.1.1 ∙ sym (append_assoc names p.0 p.1.0)), asked_more names p.0 s0 s1 s2 a p.2)

AskedUpTo-longer : (names more : List (List ℕ)) (s s' : ShelfState) → AskedUpTo names s s' → AskedUpTo (names ++ more) s s'
AskedUpTo-longer names more s s' p = (p.0, (p.1.0 ++ more, ap (λ (ns : List (List ℕ)). ns ++ more) p.1.1 ∙ append_assoc p.0 p.1.0 more), p.2)

-- what a net that was read says of its files
made_net : (source : List ℕ) (net : Net) (s s' : ShelfState) (p : ReadsNet source s s' (Ok net)) → net_step source (bytes_of p.read.files) ≡ makes net []
made_net source net s s' p = ap (net_step source) (sym (append-nil (bytes_of p.read.files))) ∙ p.read.goes_on []

net_names : (source list target : List ℕ) (net : Net) (s s' : ShelfState) (p : ReadsNet source s s' (Ok net))
    → NamesOfAlteration source list target s (names_of p.read.files ++ list ∷ target ∷ [])
net_names source list target net s s' p = record {
  files = p.read.files;
  needed = p.read.gave.needed;
  told = p.read.gave.bytes;
  names_are = rw (made_net source net s s' p) refl;
}

-- the next name of a net is the first of these
after_front : (more : List (List ℕ)) (step : Step Net) → (rest : List (List ℕ)) × (names_after more step ≡ next_name step ++ rest)
after_front more (needs name limit) = ([], refl)
after_front more (makes net left) = (more, refl)
after_front more (refuses name fault) = ([], refl)
after_front more (differs found) = ([], refl)

-- a front of the names of the net is one of the names of the alteration
AskedUpTo-net : (source list target : List ℕ) (s s' : ShelfState) (names : List (List ℕ)) → NamesOfNet source s names → AskedUpTo names s s'
    → (all : List (List ℕ)) × NamesOfAlteration source list target s all × AskedUpTo all s s'
AskedUpTo-net source list target s s' names n p =
    let more = list ∷ target ∷ [] in
    let step = net_step source (bytes_of n.files) in
    let rest = after_front more step in
    let same : names ++ rest.0 ≡ names_of n.files ++ names_after more step =
    ap (λ (ns : List (List ℕ)). ns ++ rest.0) n.names_are ∙ append_assoc (names_of n.files) (next_name step) rest.0
    ∙ ap (λ (ns : List (List ℕ)). names_of n.files ++ ns) (sym rest.1) in (
      names ++ rest.0,
      record { files = n.files; needed = n.needed; told = n.told; names_are = same },
      AskedUpTo-longer names rest.0 s s' p,
    )

pub AltersOf-asked : (source : List ℕ) (m : Alteration) (s s' : ShelfState) (o o' : SinkState) (outcome : Outcome) → AltersOf source m s s' o o' outcome
    → (names : List (List ℕ)) × NamesOfAlteration source m.list m.target s names × AskedUpTo names s s'
AltersOf-asked source m s s' o o' outcome p = elim p [
  | inl b ↦ let q = NetRan-asked view_text source s s' o o' outcome (BeforeNet-ran source s s' o o' outcome b) in
      AskedUpTo-net source m.list m.target s s' q.0 q.1 q.2
  | inr a ↦ (
    names_of a.reads.read.files ++ m.list ∷ m.target ∷ [],
    net_names source m.list m.target a.net s a.between a.reads,
    AskedUpTo-more (names_of a.reads.read.files) (m.list ∷ m.target ∷ []) s a.between s' a.reads.read.gave.asked (AltersNet-asked m a.net a.between s' o o' outcome a.alters),
  )
]

pub AltersOf-asked_all : (source : List ℕ) (m : Alteration) (s s' : ShelfState) (o o' : SinkState) → AltersOf source m s s' o o' Done
    → (names : List (List ℕ)) × NamesOfAlteration source m.list m.target s names × (s'.asked ≡ grown s.asked names)
unfolding ends_before
AltersOf-asked_all source m s s' o o' p =
    let a = after_net source m s s' o o' Done refl p in
    let w = a.alters.written in (
      names_of a.reads.read.files ++ m.list ∷ m.target ∷ [],
      net_names source m.list m.target a.net s a.between a.reads,
      asked_more (names_of a.reads.read.files) (m.list ∷ m.target ∷ []) s a.between s' a.reads.read.gave.asked (KeysWritten-asked m a.net a.between s' (Ok tt) w w.write.asked),
    )

-- where neither all was done nor the output failed, nothing was printed
AltersNet-silent : (m : Alteration) (net : Net) (s s' : ShelfState) (o o' : SinkState) (outcome : Outcome) → (outcome ≡ Done → ⊥) → (outcome ≡ SinkFault → ⊥)
    → AltersNet m net s s' o o' outcome → o' ≡ o
AltersNet-silent m net s s' o o' Done not_done not_sink p = absurd (not_done refl)
AltersNet-silent m net s s' o o' SinkFault not_done not_sink p = absurd (not_sink refl)
AltersNet-silent m net s s' o o' ShelfFault not_done not_sink p = p.0
AltersNet-silent m net s s' o o' (Missing name) not_done not_sink p = p.0
AltersNet-silent m net s s' o o' (TooLong name) not_done not_sink p = p.0
AltersNet-silent m net s s' o o' (Malformed name (kinds.List fault)) not_done not_sink p = p.0
AltersNet-silent m net s s' o o' (Refused fault) not_done not_sink p = p.0
AltersNet-silent m net s s' o o' NoMemory not_done not_sink p = p.0
AltersNet-silent m net s s' o o' _ not_done not_sink p = absurd p

pub AltersOf-silent : (source : List ℕ) (m : Alteration) (s s' : ShelfState) (o o' : SinkState) (outcome : Outcome) → (outcome ≡ Done → ⊥) → (outcome ≡ SinkFault → ⊥)
    → AltersOf source m s s' o o' outcome → o' ≡ o
AltersOf-silent source m s s' o o' outcome not_done not_sink p = elim p [
  | inl b ↦ b.silent
  | inr a ↦ AltersNet-silent m a.net a.between s' o o' outcome not_done not_sink a.alters
]

-- a list that is missing is absent, or unknown where the count of faults rose
pub AltersOf-missing : (source : List ℕ) (m : Alteration) (name : List ℕ) (s s' : ShelfState) (o o' : SinkState) → AltersOf source m s s' o o' (Missing name)
    → (s.holds name ≡ absent) ⊎ FailsUntold (s.holds name) s.faults s'.faults
AltersOf-missing source m name s s' o o' p = elim p [
  | inl b ↦ NetRan-missing view_text source name s s' o o' (BeforeNet-ran source s s' o o' (Missing name) b)
  | inr a ↦
      let same : a.between.holds m.list ≡ s.holds name =
      ap (λ (hs : List ℕ → Holding). hs m.list) (kept_net source a.net s a.between a.reads) ∙ ap s.holds (sym a.alters.1) in
      elim a.alters.2.answer [
        | inl gone ↦ inl (sym same ∙ gone)
        | inr fails ↦ inr (sym same ∙ fails.0, Rose-earlier s.faults a.between.faults s'.faults a.reads.read.gave.counted fails.1)
      ]
]

-- a list that is too long is longer than its limit, or unknown where the count rose
pub AltersOf-long : (source : List ℕ) (m : Alteration) (name : List ℕ) (s s' : ShelfState) (o o' : SinkState) → AltersOf source m s s' o o' (TooLong name)
    → (limit : ℕ) × (NeedsOfNet source s name limit ⊎ ((name ≡ m.list) × (limit ≡ m.limit)))
    × (IsHeldAbove (s.holds name) limit ⊎ FailsUntold (s.holds name) s.faults s'.faults)
AltersOf-long source m name s s' o o' p = elim p [
  | inl b ↦ let q = NetRan-long view_text source name s s' o o' (BeforeNet-ran source s s' o o' (TooLong name) b) in (q.0, inl q.1, q.2)
  | inr a ↦
      let same : a.between.holds m.list ≡ s.holds name =
      ap (λ (hs : List ℕ → Holding). hs m.list) (kept_net source a.net s a.between a.reads) ∙ ap s.holds (sym a.alters.1) in (
        m.limit,
        inr (a.alters.1, refl),
        elim a.alters.2.answer [
          | inl above ↦ inl (above.0, sym same ∙ above.1, above.2)
          | inr fails ↦ inr (sym same ∙ fails.0, Rose-earlier s.faults a.between.faults s'.faults a.reads.read.gave.counted fails.1)
        ],
      )
]

-- no fault of a transcript is reported
pub AltersOf-transcript : (source : List ℕ) (m : Alteration) (name : List ℕ) (fault : TranscriptFault) (s s' : ShelfState) (o o' : SinkState)
    → AltersOf source m s s' o o' (Malformed name (kinds.Transcript fault)) → ⊥
AltersOf-transcript source m name fault s s' o o' p = elim p [
  | inl b ↦ NetRan-transcript view_text source name fault s s' o o' (BeforeNet-ran source s s' o o' (Malformed name (kinds.Transcript fault)) b)
  | inr a ↦ a.alters
]

-- a name that the outcome reports is the last that was asked for
last_list : (m : Alteration) (names : List (List ℕ)) (name : List ℕ) (s0 s1 s2 : ShelfState) → name ≡ m.list → s1.asked ≡ grown s0.asked names → s2.asked ≡ grown s1.asked (m.list ∷ [])
    → LastAsked name s0 s2
last_list m names name s0 s1 s2 e a b = (names, asked_more names (m.list ∷ []) s0 s1 s2 a b ∙ ap (λ (n : List ℕ). grown s0.asked (names ++ n ∷ [])) (sym e))

AltersNet-fault : (m : Alteration) (net : Net) (names : List (List ℕ)) (name : List ℕ) (fault : FileFault) (s0 s s' : ShelfState) (o o' : SinkState) → s.asked ≡ grown s0.asked names
    → AltersNet m net s s' o o' (Malformed name fault) → LastAsked name s0 s'
AltersNet-fault m net names name (kinds.List fault) s0 s s' o o' a p = last_list m names name s0 s s' p.1 a p.2.read.asked
AltersNet-fault m net names name (kinds.Transcript fault) s0 s s' o o' a p = absurd p
AltersNet-fault m net names name (kinds.Keys fault) s0 s s' o o' a p = absurd p
AltersNet-fault m net names name (kinds.Manifest fault) s0 s s' o o' a p = absurd p
AltersNet-fault m net names name (kinds.Stream fault) s0 s s' o o' a p = absurd p
AltersNet-fault m net names name (kinds.Script fault) s0 s s' o o' a p = absurd p

AltersNet-last : (m : Alteration) (net : Net) (names : List (List ℕ)) (s0 s s' : ShelfState) (o o' : SinkState) (outcome : Outcome) (name : List ℕ) → s.asked ≡ grown s0.asked names
    → TellsName outcome name → AltersNet m net s s' o o' outcome → LastAsked name s0 s'
AltersNet-last m net names s0 s s' o o' outcome name a tells p =
    let P : Outcome → Type 0 = λ x. AltersNet m net s s' o o' x in
    elim tells [
      | inl e ↦ let q : P (Missing name) = subst P e p in last_list m names name s0 s s' q.1 a q.2.asked
      | inr other ↦ elim other [
        | inl e ↦ let q : P (TooLong name) = subst P e p in last_list m names name s0 s s' q.1 a q.2.asked
        | inr f ↦ AltersNet-fault m net names name f.0 s0 s s' o o' a (subst P f.1 p)
      ]
    ]

pub AltersOf-last : (source : List ℕ) (m : Alteration) (s s' : ShelfState) (o o' : SinkState) (outcome : Outcome) (name : List ℕ) → TellsName outcome name
    → AltersOf source m s s' o o' outcome → LastAsked name s s'
AltersOf-last source m s s' o o' outcome name tells p = elim p [
  | inl b ↦ NetRan-last view_text source s s' o o' outcome name tells (BeforeNet-ran source s s' o o' outcome b)
  | inr a ↦ AltersNet-last m a.net (names_of a.reads.read.files) s a.between s' o o' outcome name a.reads.read.gave.asked tells a.alters
]

-- faults of the shelf and of the output have their causes
pub AltersOf-shelf_rose : (source : List ℕ) (m : Alteration) (s s' : ShelfState) (o o' : SinkState) → AltersOf source m s s' o o' ShelfFault → Rose s.faults s'.faults
AltersOf-shelf_rose source m s s' o o' p = elim p [
  | inl b ↦ NetRan-shelf_rose view_text source s s' o o' (BeforeNet-ran source s s' o o' ShelfFault b)
  | inr a ↦ elim a.alters.1 [
    | inl r ↦ Rose-earlier s.faults a.between.faults s'.faults a.reads.read.gave.counted r.answer
    | inr w ↦ Rose-earlier s.faults w.between.faults s'.faults (le_trans a.reads.read.gave.counted w.list.read.counted) w.write.answer
  ]
]

pub AltersOf-sink_rose : (source : List ℕ) (m : Alteration) (s s' : ShelfState) (o o' : SinkState) → AltersOf source m s s' o o' SinkFault → Rose o.faults o'.faults
unfolding ends_before
AltersOf-sink_rose source m s s' o o' p = (after_net source m s s' o o' SinkFault refl p).alters.1.put.answer.1

-- what a list that was read makes of the net of files
made_by : (source : List ℕ) (m : Alteration) (net : Net) (s s1 s2 : ShelfState) (due : Altered) → IsNet net → ReadsNet source s s1 (Ok net) → ListMakes m net due s1 s2 → Makes source m s due
made_by source m net s s1 s2 due is p g =
    let T : (List ℕ → Holding) → Type 0 = λ hs. Tells (hs m.list) g.bytes in
    record {
      files = p.read.files;
      needed = p.read.gave.needed;
      told = p.read.gave.bytes;
      net = net;
      is_net = is;
      made = made_net source net s s1 p;
      bytes = g.bytes;
      listed = subst T (kept_net source net s s1 p) g.read.answer.1;
      due_is = g.holds;
    }

-- the key file that was written
wrote_by : (source : List ℕ) (m : Alteration) (net : Net) (s s1 s2 : ShelfState) → IsNet net → ReadsNet source s s1 (Ok net) → KeysWritten m net s1 s2 (Ok tt) → WroteKeys source m s s2
unfolding made_by
wrote_by source m net s s1 s2 is p w =
    let kept : w.between.holds m.target ≡ s.holds m.target =
    ap (λ (hs : List ℕ → Holding). hs m.target) w.list.read.kept ∙ ap (λ (hs : List ℕ → Holding). hs m.target) (kept_net source net s s1 p) in
    record {
      keys = w.keys;
      text = w.text;
      made = made_by source m net s s1 w.between (altered w.keys w.text) is p w.list;
      asked = asked_more (names_of p.read.files) (m.list ∷ m.target ∷ []) s s1 s2 p.read.gave.asked (KeysWritten-asked m net s1 s2 (Ok tt) w w.write.asked);
      holds = w.write.answer ∙ ap (λ (h : Holding). rewritten h w.keys) kept;
    }

-- the list was read, and then the key file was written and the text was put
pub AltersNet-writes : (m : Alteration) (net : Net) (keys text : List ℕ) (s0 s1 s2 : ShelfState) (o o' : SinkState) (outcome : Outcome)
    → ListMakes m net (altered keys text) s0 s1 → WritesThenPuts m.target keys text s1 s2 o o' outcome → AltersNet m net s0 s2 o o' outcome
AltersNet-writes m net keys text s0 s1 s2 o o' Done list p =
    record { written = record { keys = keys; text = text; between = s1; list = list; write = p.0 }; put = p.1 }
AltersNet-writes m net keys text s0 s1 s2 o o' SinkFault list p =
    (p.1.0, record { written = record { keys = keys; text = text; between = s1; list = list; write = p.0 }; put = p.1.1 })
AltersNet-writes m net keys text s0 s1 s2 o o' ShelfFault list p =
    (p.0, inr (record { keys = keys; text = text; between = s1; list = list; write = p.1 }))
AltersNet-writes m net keys text s0 s1 s2 o o' NoMemory list p =
    let R : ShelfState → Type 0 = λ s. Reads m.list m.limit s0 s (Ok list.bytes) in
    (p.0, inr (record { bytes = list.bytes; read = subst R (sym p.1) list.read; holds = tt }))
AltersNet-writes m net keys text s0 s1 s2 o o' _ list p = absurd p

-- how such a command ends with a list that is held
abbrev EndsBy : Alteration → Net → List ℕ → Outcome → Type 0
EndsBy m net bytes Done = (keys : List ℕ) × ((text : List ℕ) × (m.alter net bytes ≡ altered keys text))
EndsBy m net bytes SinkFault = (keys : List ℕ) × ((text : List ℕ) × (m.alter net bytes ≡ altered keys text))
EndsBy m net bytes (Refused fault) = m.alter net bytes ≡ refused fault
EndsBy m net bytes (Malformed name (kinds.List fault)) = (name ≡ m.list) × (m.alter net bytes ≡ misread fault)
EndsBy m net bytes NoMemory = Unit {0}
EndsBy m net bytes _ = ⊥

-- what a list that is held makes
made_held : (m : Alteration) (net : Net) (s s' : ShelfState) (bytes : List ℕ) (due : Altered) → s.holds m.list ≡ held bytes → ListMakes m net due s s' → m.alter net bytes ≡ due
made_held m net s s' bytes due told g =
    let same : g.bytes ≡ bytes = told_bytes (s.holds m.list) bytes g.bytes told g.read.answer.1 in
    ap (m.alter net) (sym same) ∙ g.holds

AltersNet-ends : (m : Alteration) (net : Net) (s s' : ShelfState) (o o' : SinkState) (outcome : Outcome) (bytes : List ℕ) → s.holds m.list ≡ held bytes → length bytes ≤ m.limit
    → (Rose s.faults s'.faults → ⊥) → AltersNet m net s s' o o' outcome → EndsBy m net bytes outcome
AltersNet-ends m net s s' o o' Done bytes told le calm p =
    let w = p.written in (w.keys, (w.text, made_held m net s w.between bytes (altered w.keys w.text) told w.list))
AltersNet-ends m net s s' o o' SinkFault bytes told le calm p =
    let w = p.1.written in (w.keys, (w.text, made_held m net s w.between bytes (altered w.keys w.text) told w.list))
AltersNet-ends m net s s' o o' (Refused fault) bytes told le calm p = made_held m net s s' bytes (refused fault) told p.1
AltersNet-ends m net s s' o o' (Malformed name (kinds.List fault)) bytes told le calm p = (p.1, made_held m net s s' bytes (misread fault) told p.2)
AltersNet-ends m net s s' o o' NoMemory bytes told le calm p = tt
AltersNet-ends m net s s' o o' ShelfFault bytes told le calm p = absurd (elim p.1 [
  | inl r ↦ calm r.answer
  | inr w ↦ calm (Rose-earlier s.faults w.between.faults s'.faults w.list.read.counted w.write.answer)
])
AltersNet-ends m net s s' o o' (Missing name) bytes told le calm p =
    absurd (elim p.2.answer [ inl gone ↦ held_is_there (s.holds m.list) bytes told gone | inr rose ↦ calm rose.1 ])
AltersNet-ends m net s s' o o' (TooLong name) bytes told le calm p =
    absurd (elim p.2.answer [ inl above ↦ held_within (s.holds m.list) bytes m.limit told le above | inr rose ↦ calm rose.1 ])
AltersNet-ends m net s s' o o' _ bytes told le calm p = absurd p

-- the count of faults never falls
AltersNet-counted : (m : Alteration) (net : Net) (s s' : ShelfState) (o o' : SinkState) (outcome : Outcome) → AltersNet m net s s' o o' outcome → s.faults ≤ s'.faults
AltersNet-counted m net s s' o o' Done p = le_trans p.written.list.read.counted p.written.write.counted
AltersNet-counted m net s s' o o' SinkFault p = le_trans p.1.written.list.read.counted p.1.written.write.counted
AltersNet-counted m net s s' o o' ShelfFault p = elim p.1 [ inl r ↦ r.counted | inr w ↦ le_trans w.list.read.counted w.write.counted ]
AltersNet-counted m net s s' o o' (Missing name) p = p.2.counted
AltersNet-counted m net s s' o o' (TooLong name) p = p.2.counted
AltersNet-counted m net s s' o o' (Malformed name (kinds.List fault)) p = p.2.read.counted
AltersNet-counted m net s s' o o' (Refused fault) p = p.1.read.counted
AltersNet-counted m net s s' o o' NoMemory p = elim p.1 [ inl u ↦ let e = u.2 in omega (arith, e) | inr g ↦ g.read.counted ]
AltersNet-counted m net s s' o o' _ p = absurd p

Rose-later : (n0 n1 n2 : ℕ) → n1 ≤ n2 → Rose n0 n1 → Rose n0 n2
Rose-later n0 n1 n2 le rose = le_trans rose le

-- the net that is read of held files is the one that they make
same_net : (net made : Net) (step : Step Net) → step ≡ makes made [] → Settles step (Ok net) → net ≡ made
same_net net made step e p = let P : Step Net → Type 0 = λ x. Settles x (Ok net) in subst P e p

AltersOf-ends : (source : List ℕ) (m : Alteration) (s s' : ShelfState) (o o' : SinkState) (outcome : Outcome) (net : Net) (bytes : List ℕ) → HoldsAll source m s net bytes
    → (Rose s.faults s'.faults → ⊥) → AltersOf source m s s' o o' outcome → EndsBy m net bytes outcome
AltersOf-ends source m s s' o o' outcome net bytes h calm p =
    let E : Outcome → Type 0 = λ x. EndsBy m net bytes x in
    elim p [
      | inl b ↦ subst E (sym (refuses_not source s s' outcome h.files net h.needed h.held_files h.made calm b.refuses)) tt
      | inr a ↦
          let later = AltersNet-counted m a.net a.between s' o o' outcome a.alters in
          let calm_net : Rose s.faults a.between.faults → ⊥ = λ rose. calm (Rose-later s.faults a.between.faults s'.faults later rose) in
          let same : a.net ≡ net = same_net a.net net (net_step source (bytes_of h.files)) h.made (a.reads.settled h.files h.needed h.held_files calm_net) in
          let there : a.between.holds m.list ≡ held bytes = ap (λ (hs : List ℕ → Holding). hs m.list) (kept_net source a.net s a.between a.reads) ∙ h.listed in
          let N : Net → Type 0 = λ n. EndsBy m n bytes outcome in
          let calm_list : Rose a.between.faults s'.faults → ⊥ = λ rose. calm (Rose-earlier s.faults a.between.faults s'.faults a.reads.read.gave.counted rose) in
          subst N same (AltersNet-ends m a.net a.between s' o o' outcome bytes there h.within calm_list a.alters)
    ]

ends_done : (m : Alteration) (net : Net) (bytes keys text : List ℕ) (outcome : Outcome) → (outcome ≡ SinkFault → ⊥) → m.alter net bytes ≡ altered keys text → EndsBy m net bytes outcome
    → (outcome ≡ Done) ⊎ (outcome ≡ NoMemory)
ends_done m net bytes keys text Done calm e p = inl refl
ends_done m net bytes keys text NoMemory calm e p = inr refl
ends_done m net bytes keys text SinkFault calm e p = absurd (calm refl)
ends_done m net bytes keys text (Refused fault) calm e p = absurd cc
ends_done m net bytes keys text (Malformed name (kinds.List fault)) calm e p = let seen = p.1 in absurd cc
ends_done m net bytes keys text _ calm e p = absurd p

ends_refused : (m : Alteration) (net : Net) (bytes : List ℕ) (fault : CommandFault) (outcome : Outcome) → m.alter net bytes ≡ refused fault → EndsBy m net bytes outcome
    → (outcome ≡ Refused fault) ⊎ (outcome ≡ NoMemory)
ends_refused m net bytes fault Done e p = let seen = p.1.1 in absurd cc
ends_refused m net bytes fault NoMemory e p = inr refl
ends_refused m net bytes fault SinkFault e p = let seen = p.1.1 in absurd cc
ends_refused m net bytes fault (Refused other) e p = let same : other ≡ fault = cc in inl (ap Refused same)
ends_refused m net bytes fault (Malformed name (kinds.List other)) e p = let seen = p.1 in absurd cc
ends_refused m net bytes fault _ e p = absurd p

ends_misread : (m : Alteration) (net : Net) (bytes : List ℕ) (fault : ListFault) (outcome : Outcome) → m.alter net bytes ≡ misread fault → EndsBy m net bytes outcome
    → (outcome ≡ Malformed m.list (kinds.List fault)) ⊎ (outcome ≡ NoMemory)
ends_misread m net bytes fault Done e p = let seen = p.1.1 in absurd cc
ends_misread m net bytes fault NoMemory e p = inr refl
ends_misread m net bytes fault SinkFault e p = let seen = p.1.1 in absurd cc
ends_misread m net bytes fault (Refused other) e p = absurd cc
ends_misread m net bytes fault (Malformed name (kinds.List other)) e p =
    let seen = p.1 in
    let same : other ≡ fault = cc in
    inl (ap (λ (n : List ℕ). Malformed n (kinds.List other)) p.0 ∙ ap (λ (f : ListFault). Malformed m.list (kinds.List f)) same)
ends_misread m net bytes fault _ e p = absurd p

-- all of this for a call
pub AltersPads-ran : (c : Call) (source : List ℕ) (m : Alteration) → AltersOf source m c.shelf c.shelf' c.out c.out' c.outcome → AltersPads c source m
unfolding ends_before wrote_by after_net
AltersPads-ran c source m ran =
    let P : Outcome → Type 0 = λ x. AltersOf source m c.shelf c.shelf' c.out c.out' x in
    record {
      wrote = λ ended. elim ended [
        | inl e ↦
            let a = after_net source m c.shelf c.shelf' c.out c.out' Done refl (subst P e ran) in
            wrote_by source m a.net c.shelf a.between c.shelf' a.is_net a.reads a.alters.written
        | inr e ↦
            let a = after_net source m c.shelf c.shelf' c.out c.out' SinkFault refl (subst P e ran) in
            wrote_by source m a.net c.shelf a.between c.shelf' a.is_net a.reads a.alters.1.written
      ];
      printed = λ e.
          let a = after_net source m c.shelf c.shelf' c.out c.out' Done refl (subst P e ran) in
          (wrote_by source m a.net c.shelf a.between c.shelf' a.is_net a.reads a.alters.written, a.alters.put.answer);
      refuses = λ fault e.
          let a = after_net source m c.shelf c.shelf' c.out c.out' (Refused fault) refl (subst P e ran) in
          made_by source m a.net c.shelf a.between c.shelf' (refused fault) a.is_net a.reads a.alters.1;
      misreads = λ name fault e.
          let a = after_net source m c.shelf c.shelf' c.out c.out' (Malformed name (kinds.List fault)) refl (subst P e ran) in
          (a.alters.1, made_by source m a.net c.shelf a.between c.shelf' (misread fault) a.is_net a.reads a.alters.2);
      complete = λ net bytes keys text h e calm_shelf calm_sink.
          ends_done m net bytes keys text c.outcome
          (λ sink. calm_sink (AltersOf-sink_rose source m c.shelf c.shelf' c.out c.out' (subst P sink ran))) e
          (AltersOf-ends source m c.shelf c.shelf' c.out c.out' c.outcome net bytes h calm_shelf ran);
      refusal = λ net bytes fault h e calm_shelf.
          ends_refused m net bytes fault c.outcome e (AltersOf-ends source m c.shelf c.shelf' c.out c.out' c.outcome net bytes h calm_shelf ran);
      malformed = λ net bytes fault h e calm_shelf.
          ends_misread m net bytes fault c.outcome e (AltersOf-ends source m c.shelf c.shelf' c.out c.out' c.outcome net bytes h calm_shelf ran);
    }
