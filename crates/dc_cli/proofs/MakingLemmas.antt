-- What follows from what a command did that makes one file of another.
use Rattle.std.proofs.Common.{◌≡◌, ◌≤◌, ◌⊎◌, ℕ, List, [], ◌∷◌, length, Result, Ok, Err, inl, inr, refl, sym, ap, ◌∙◌, subst}
use Rattle.dc_spec.specs.Outside.{ShelfState, Holding, absent, held, Rose, grown}
use Rattle.dc_edge.specs.Shelf.{IsHeldAbove, FailsUntold, rewritten}
use Rattle.dc_cli.specs.Making.{Making, MadeOfFile, MakesOf}
use Rattle.dc_cli.specs.Promises.{LeavesOthers, TellsName}
use Rattle.dc_cli.specs.declared.outcome.FileFault.{FileFault}
use Rattle.dc_cli.specs.declared.outcome.Outcome.{Outcome}
use Rattle.dc_cli.specs.declared.outcome.Outcome.TheVariants.{Done, Usage, Missing, TooLong, Malformed, Disagree, Refused, ShelfFault, SinkFault, WireFault, Peer, NoMemory}
use Rattle.dc_edge.proofs.PutLemmas.{Rose-earlier}
use Rattle.dc_cli.proofs.ShelfLemmas.{told_bytes, held_is_there, held_within, others_since, others_of_all, AskedUpTo, asked_none, asked_first, asked_whole, asked_two, LastAsked, last_is}

MadeOfFile-kept : (m : Making) (s s' : ShelfState) (r : Result (List ℕ) Outcome) → MadeOfFile m.due m.source m.limit s s' r → s'.holds ≡ s.holds
MadeOfFile-kept m s s' (Ok bytes) p = p.read.kept
MadeOfFile-kept m s s' (Err (Missing name)) p = p.1.kept
MadeOfFile-kept m s s' (Err (TooLong name)) p = p.1.kept
MadeOfFile-kept m s s' (Err (Malformed name fault)) p = p.1.read.kept
MadeOfFile-kept m s s' (Err ShelfFault) p = p.kept
MadeOfFile-kept m s s' (Err NoMemory) p = elim p [ inl u ↦ u.0 | inr g ↦ g.read.kept ]
MadeOfFile-kept m s s' (Err Done) p = absurd p
MadeOfFile-kept m s s' (Err (Usage place)) p = absurd p
MadeOfFile-kept m s s' (Err (Disagree fault)) p = absurd p
MadeOfFile-kept m s s' (Err (Refused fault)) p = absurd p
MadeOfFile-kept m s s' (Err SinkFault) p = absurd p
MadeOfFile-kept m s s' (Err WireFault) p = absurd p
MadeOfFile-kept m s s' (Err (Peer who fault)) p = absurd p

-- the name that is written may change, no other name does
pub MakesOf-leaves : (m : Making) (s s' : ShelfState) (outcome : Outcome) → MakesOf m s s' outcome → LeavesOthers m.target outcome s s'
MakesOf-leaves m s s' Done p = others_since m.target s p.between s' p.made.read.kept p.write.others
MakesOf-leaves m s s' ShelfFault p = elim p [ inl r ↦ others_of_all m.target s s' r.kept | inr w ↦ others_since m.target s w.between s' w.made.read.kept w.write.others ]
MakesOf-leaves m s s' other p = MadeOfFile-kept m s s' (Err other) p

MadeOfFile-asked : (m : Making) (s s' : ShelfState) (r : Result (List ℕ) Outcome) → MadeOfFile m.due m.source m.limit s s' r → AskedUpTo (m.source ∷ m.target ∷ []) s s'
MadeOfFile-asked m s s' (Ok bytes) p = asked_first m.source (m.target ∷ []) s s' p.read.asked
MadeOfFile-asked m s s' (Err (Missing name)) p = asked_first m.source (m.target ∷ []) s s' p.1.asked
MadeOfFile-asked m s s' (Err (TooLong name)) p = asked_first m.source (m.target ∷ []) s s' p.1.asked
MadeOfFile-asked m s s' (Err (Malformed name fault)) p = asked_first m.source (m.target ∷ []) s s' p.1.read.asked
MadeOfFile-asked m s s' (Err ShelfFault) p = asked_first m.source (m.target ∷ []) s s' p.asked
MadeOfFile-asked m s s' (Err NoMemory) p = elim p [ inl u ↦ asked_none (m.source ∷ m.target ∷ []) s s' u.1 | inr g ↦ asked_first m.source (m.target ∷ []) s s' g.read.asked ]
MadeOfFile-asked m s s' (Err Done) p = absurd p
MadeOfFile-asked m s s' (Err (Usage place)) p = absurd p
MadeOfFile-asked m s s' (Err (Disagree fault)) p = absurd p
MadeOfFile-asked m s s' (Err (Refused fault)) p = absurd p
MadeOfFile-asked m s s' (Err SinkFault) p = absurd p
MadeOfFile-asked m s s' (Err WireFault) p = absurd p
MadeOfFile-asked m s s' (Err (Peer who fault)) p = absurd p

-- where all was done, the file was asked for, then the name that is written
pub MakesOf-asked_all : (m : Making) (s s' : ShelfState) → MakesOf m s s' Done → s'.asked ≡ grown s.asked (m.source ∷ m.target ∷ [])
MakesOf-asked_all m s s' p = asked_two m.source m.target s p.between s' p.made.read.asked p.write.asked

-- else a front of these
pub MakesOf-asked : (m : Making) (s s' : ShelfState) (outcome : Outcome) → MakesOf m s s' outcome → AskedUpTo (m.source ∷ m.target ∷ []) s s'
MakesOf-asked m s s' Done p = asked_whole (m.source ∷ m.target ∷ []) s s' (MakesOf-asked_all m s s' p)
MakesOf-asked m s s' ShelfFault p = elim p [
  | inl r ↦ asked_first m.source (m.target ∷ []) s s' r.asked
  | inr w ↦ asked_whole (m.source ∷ m.target ∷ []) s s' (asked_two m.source m.target s w.between s' w.made.read.asked w.write.asked)
]
MakesOf-asked m s s' other p = MadeOfFile-asked m s s' (Err other) p

-- a reported name is the last that was asked for
pub MakesOf-last : (m : Making) (s s' : ShelfState) (outcome : Outcome) (name : List ℕ) → TellsName outcome name → MakesOf m s s' outcome → LastAsked name s s'
MakesOf-last m s s' outcome name tells p =
    let P : Outcome → Type 0 = λ x. MakesOf m s s' x in
    elim tells [
      | inl e ↦ let q : MakesOf m s s' (Missing name) = subst P e p in last_is name m.source s s' q.0 q.1.asked
      | inr other ↦ elim other [
        | inl e ↦ let q : MakesOf m s s' (TooLong name) = subst P e p in last_is name m.source s s' q.0 q.1.asked
        | inr f ↦ let q : MakesOf m s s' (Malformed name f.0) = subst P f.1 p in last_is name m.source s s' q.0 q.1.read.asked
      ]
    ]

pub MakesOf-rose : (m : Making) (s s' : ShelfState) → MakesOf m s s' ShelfFault → Rose s.faults s'.faults
MakesOf-rose m s s' p = elim p [ inl r ↦ r.answer | inr w ↦ Rose-earlier s.faults w.between.faults s'.faults w.made.read.counted w.write.answer ]

pub MakesOf-missing : (m : Making) (s s' : ShelfState) (name : List ℕ) → MakesOf m s s' (Missing name) → (s.holds name ≡ absent) ⊎ FailsUntold (s.holds name) s.faults s'.faults
MakesOf-missing m s s' name p = rw p.0 p.1.answer

pub MakesOf-long : (m : Making) (s s' : ShelfState) (name : List ℕ) → MakesOf m s s' (TooLong name) → IsHeldAbove (s.holds name) m.limit ⊎ FailsUntold (s.holds name) s.faults s'.faults
MakesOf-long m s s' name p = rw p.0 p.1.answer

-- what a known file made
pub MakesOf-written : (m : Making) (s s' : ShelfState) (read : List ℕ) → s.holds m.source ≡ held read → MakesOf m s s' Done
    → (bytes : List ℕ) × (m.due read ≡ Ok bytes) × (s'.holds m.target ≡ rewritten (s.holds m.target) bytes)
MakesOf-written m s s' read told p =
    let same : p.made.bytes ≡ read = told_bytes (s.holds m.source) read p.made.bytes told p.made.read.answer.1 in
    let before : p.between.holds m.target ≡ s.holds m.target = ap (λ (holds : List ℕ → Holding). holds m.target) p.made.read.kept in
    (p.bytes, ap m.due (sym same) ∙ p.made.holds, p.write.answer ∙ ap (λ (h : Holding). rewritten h p.bytes) before)

-- a reported fault is that of the known file
pub MakesOf-fault : (m : Making) (s s' : ShelfState) (name read : List ℕ) (fault : FileFault) → s.holds m.source ≡ held read → MakesOf m s s' (Malformed name fault) → m.due read ≡ Err fault
MakesOf-fault m s s' name read fault told p =
    let same : p.1.bytes ≡ read = told_bytes (s.holds m.source) read p.1.bytes told p.1.read.answer.1 in
    ap m.due (sym same) ∙ p.1.holds

-- a known file within its limit ends the command by what it makes, or memory ran out
pub MakesOf-ends : (m : Making) (s s' : ShelfState) (outcome : Outcome) (read : List ℕ) → s.holds m.source ≡ held read → length read ≤ m.limit → (Rose s.faults s'.faults → ⊥)
    → MakesOf m s s' outcome → ((bytes : List ℕ) × (outcome ≡ Done) × (m.due read ≡ Ok bytes)) ⊎ (((fault : FileFault) × (outcome ≡ Malformed m.source fault) × (m.due read ≡ Err fault)) ⊎ (outcome ≡ NoMemory))
MakesOf-ends m s s' Done read told le calm p = let w = MakesOf-written m s s' read told p in inl (w.0, refl, w.1)
MakesOf-ends m s s' NoMemory read told le calm p = inr (inr refl)
MakesOf-ends m s s' ShelfFault read told le calm p = absurd (calm (MakesOf-rose m s s' p))
MakesOf-ends m s s' (Malformed name fault) read told le calm p = inr (inl (fault, ap (λ (n : List ℕ). Malformed n fault) p.0, MakesOf-fault m s s' name read fault told p))
MakesOf-ends m s s' (Missing name) read told le calm p = absurd (elim p.1.answer [ inl gone ↦ held_is_there (s.holds m.source) read told gone | inr rose ↦ calm rose.1 ])
MakesOf-ends m s s' (TooLong name) read told le calm p = absurd (elim p.1.answer [ inl above ↦ held_within (s.holds m.source) read m.limit told le above | inr rose ↦ calm rose.1 ])
MakesOf-ends m s s' (Usage place) read told le calm p = absurd p
MakesOf-ends m s s' (Disagree fault) read told le calm p = absurd p
MakesOf-ends m s s' (Refused fault) read told le calm p = absurd p
MakesOf-ends m s s' SinkFault read told le calm p = absurd p
MakesOf-ends m s s' WireFault read told le calm p = absurd p
MakesOf-ends m s s' (Peer who fault) read told le calm p = absurd p

pub MakesOf-completes : (m : Making) (s s' : ShelfState) (outcome : Outcome) (read bytes : List ℕ) → s.holds m.source ≡ held read → length read ≤ m.limit → m.due read ≡ Ok bytes
    → (Rose s.faults s'.faults → ⊥) → MakesOf m s s' outcome → (outcome ≡ Done) ⊎ (outcome ≡ NoMemory)
MakesOf-completes m s s' outcome read bytes told le good calm p = elim (MakesOf-ends m s s' outcome read told le calm p) [
  | inl done ↦ inl done.1
  | inr other ↦ elim other [ inl bad ↦ let e = bad.2 in absurd cc | inr none ↦ inr none ]
]

pub MakesOf-refuses : (m : Making) (s s' : ShelfState) (outcome : Outcome) (read : List ℕ) (fault : FileFault) → s.holds m.source ≡ held read → length read ≤ m.limit → m.due read ≡ Err fault
    → (Rose s.faults s'.faults → ⊥) → MakesOf m s s' outcome → (outcome ≡ Malformed m.source fault) ⊎ (outcome ≡ NoMemory)
MakesOf-refuses m s s' outcome read fault told le bad calm p = elim (MakesOf-ends m s s' outcome read told le calm p) [
  | inl done ↦ let e = done.2 in absurd cc
  | inr other ↦ elim other [
    | inl seen ↦ let e = seen.2 in let same : seen.0 ≡ fault = cc in inl (seen.1 ∙ ap (λ (f : FileFault). Malformed m.source f) same)
    | inr none ↦ inr none
  ]
]
