-- Files that are held decide how a reader ends.
use Rattle.std.proofs.Common.{◌≡◌, ℕ, ◌≤◌, inl, inr, List, [], ◌∷◌, ◌++◌, length, Result, Ok, Err, refl, sym, ap, ◌∙◌, subst, arith}
use Rattle.std.specs.Prelude.{All}
use Rattle.std.proofs.lemmas.List.{append-nil}
use Rattle.std.proofs.lemmas.List.Elements.{All-head, All-tail}
use Rattle.dc_spec.specs.Outside.{Holding, absent, held, ShelfState, Rose, Tells}
use Rattle.dc_edge.specs.Shelf.{Reads, IsHeldAbove, FailsUntold}
use Rattle.dc_edge.specs.declared.fault.ShelfFault.{ShelfFault}
use Rattle.dc_edge.specs.declared.fault.ShelfFault.TheVariants as causes
use Rattle.dc_net_files.specs.Steps.{File, Step, needs, refuses, differs, makes, Reader, bytes_of}
use Rattle.dc_net_files.specs.Reading.{Meets, AreNeeded, Gave, Stops, Ended}
use Rattle.dc_net_files.specs.Settled.{AreHeld, Settles, SettledByHeld}
use Rattle.dc_net_files.specs.declared.fault.NotRead.{NotRead}
use Rattle.dc_net_files.specs.declared.fault.NotRead.TheVariants.{Missing, TooLong, Malformed, Disagree, ShelfFault as ShelfFailed, NoMemory}

-- the bytes that a shelf gave of a file that it holds
held_bytes : (told : Holding) (bytes read : List ℕ) → told ≡ held bytes → Tells told read → read ≡ bytes
held_bytes told bytes read e t = let P : Holding → Type 0 = λ h. Tells h read in subst P e t

same_name : {A : Type 0} (step : Step A) (x y : File) → Meets step x → Meets step y → x.name ≡ y.name
same_name (needs name limit) x y p q = p.0 ∙ sym q.0
same_name (refuses name fault) x y p q = absurd p
same_name (differs found) x y p q = absurd p
same_name (makes z left) x y p q = absurd p

-- a file that was given is the held one
same_bytes : {A : Type 0} (step : Step A) (holds : List ℕ → Holding) (wanted given : File) → Meets step wanted → Meets step given
    → holds wanted.name ≡ held wanted.bytes → Tells (holds given.name) given.bytes → given.bytes ≡ wanted.bytes
same_bytes step holds wanted given p q e t =
    held_bytes (holds given.name) wanted.bytes given.bytes (ap holds (same_name step given wanted q p) ∙ e) t

-- how the held files go on after those that were given: all were given, or more are left, or too few
-- are held
pub data Left {A : Type 0} (reader : Reader A) (holds : List ℕ → Holding) (wanted given : List (List ℕ)) : Type 0 where
  none : wanted ≡ given → Left reader holds wanted given
  more : (rest : List (List ℕ)) (next : File) → wanted ≡ given ++ next.bytes ∷ rest → Meets (reader given) next
      → holds next.name ≡ held next.bytes → Left reader holds wanted given
  few : (name : List ℕ) (limit : ℕ) → reader wanted ≡ needs name limit → Left reader holds wanted given

meets_needs : {A : Type 0} (step : Step A) (file : File) → Meets step file → (name : List ℕ) × (limit : ℕ) × (step ≡ needs name limit)
meets_needs (needs name limit) file p = (name, limit, refl)
meets_needs (refuses name fault) file p = absurd p
meets_needs (differs found) file p = absurd p
meets_needs (makes z left) file p = absurd p

Left-cons : {A : Type 0} (reader : Reader A) (holds : List ℕ → Holding) (bytes : List ℕ) (wanted given : List (List ℕ))
    → Left (λ more. reader (bytes ∷ more)) holds wanted given → Left reader holds (bytes ∷ wanted) (bytes ∷ given)
Left-cons reader holds bytes wanted given (none e) = none (ap (λ (bs : List (List ℕ)). bytes ∷ bs) e)
Left-cons reader holds bytes wanted given (more rest next e m h) = more rest next (ap (λ (bs : List (List ℕ)). bytes ∷ bs) e) m h
Left-cons reader holds bytes wanted given (few name limit e) = few name limit e

left_of : {A : Type 0} (reader : Reader A) (holds : List ℕ → Holding) (wanted given : List File)
    → AreNeeded reader wanted → AreHeld holds wanted → AreNeeded reader given → All (λ file. Tells (holds file.name) file.bytes) given
    → Left reader holds (bytes_of wanted) (bytes_of given)
left_of reader holds [] [] p h q t = none refl
left_of reader holds [] (g ∷ given) p h q t = let m = meets_needs (reader []) g q.0 in few m.0 m.1 m.2
left_of reader holds (w ∷ wanted) [] p h q t =
    more (bytes_of wanted) w refl p.0 (All-head (λ (file : File). holds file.name ≡ held file.bytes) w wanted h)
left_of {A} reader holds (w ∷ wanted) (g ∷ given) p h q t =
    let same : g.bytes ≡ w.bytes = same_bytes (reader []) holds w g p.0 q.0 (All-head (λ (file : File). holds file.name ≡ held file.bytes) w wanted h)
    (All-head (λ (file : File). Tells (holds file.name) file.bytes) g given t) in
    let N : List ℕ → Type 0 = λ b. AreNeeded (λ more. reader (b ∷ more)) given in
    let P : List ℕ → Type 0 = λ b. Left reader holds (w.bytes ∷ bytes_of wanted) (b ∷ bytes_of given) in
    subst P (sym same)
    (Left-cons reader holds w.bytes (bytes_of wanted) (bytes_of given)
    (left_of (λ more. reader (w.bytes ∷ more)) holds wanted given p.1 (All-tail (λ (file : File). holds file.name ≡ held file.bytes) w wanted h)
    (subst N same q.1) (All-tail (λ (file : File). Tells (holds file.name) file.bytes) g given t)))

settles_as : {A : Type 0} (step other : Step A) (r : Result A NotRead) → step ≡ other → Settles other r → Settles step r
settles_as {A} step other r e p = let P : Step A → Type 0 = λ s. Settles s r in subst P (sym e) p

settles_no_memory : {A : Type 0} (step : Step A) → Settles step (Err NoMemory)
settles_no_memory (needs name limit) = tt
settles_no_memory (refuses name fault) = tt
settles_no_memory (differs found) = tt
settles_no_memory (makes x left) = tt

settles_needs : {A : Type 0} (step : Step A) (name : List ℕ) (limit : ℕ) (r : Result A NotRead) → step ≡ needs name limit → Settles step r
settles_needs step name limit r e = settles_as step (needs name limit) r e tt

meets_as : {A : Type 0} (step other : Step A) (file : File) → step ≡ other → Meets step file → Meets other file
meets_as {A} step other file e m = let P : Step A → Type 0 = λ s. Meets s file in subst P e m

held_untold : (told : Holding) (bytes : List ℕ) (n m : ℕ) → told ≡ held bytes → FailsUntold told n m → ⊥
held_untold told bytes n m e p = let a = p.0 in absurd cc

held_absent : (told : Holding) (bytes : List ℕ) → told ≡ held bytes → told ≡ absent → ⊥
held_absent told bytes e a = absurd cc

held_long : (told : Holding) (bytes : List ℕ) (limit : ℕ) → told ≡ held bytes → length bytes ≤ limit → IsHeldAbove told limit → ⊥
held_long told bytes limit e le above =
    let same : bytes ≡ above.0 = held_same bytes above.0 (sym e ∙ above.1) in
    omega (arith, ap length same, above.2)
  where
    held_same : (xs ys : List ℕ) → held xs ≡ held ys → xs ≡ ys
    held_same xs ys e = cc

-- a held file within its limit is given, where no fault of the shelf occurred
abbrev NotRefused : ShelfFault → Type 0
NotRefused causes.NoMemory = ⊥
NotRefused _ = Unit {0}

given_held : (cause : ShelfFault) (name bytes : List ℕ) (limit n : ℕ) (s s' : ShelfState) → NotRefused cause → s.holds name ≡ held bytes → length bytes ≤ limit
    → n ≤ s.faults → (Rose n s'.faults → ⊥) → Reads name limit s s' (Err cause) → ⊥
given_held causes.Missing name bytes limit n s s' is h le up calm p =
    elim p.answer [ inl gone ↦ held_absent (s.holds name) bytes h gone | inr fails ↦ held_untold (s.holds name) bytes s.faults s'.faults h fails ]
given_held causes.TooLong name bytes limit n s s' is h le up calm p =
    elim p.answer [ inl above ↦ held_long (s.holds name) bytes limit h le above | inr fails ↦ held_untold (s.holds name) bytes s.faults s'.faults h fails ]
given_held causes.Failed name bytes limit n s s' is h le up calm p = calm (omega (arith, p.answer))
given_held causes.NoMemory name bytes limit n s s' is h le up calm p = is

stops_settled : {A : Type 0} (reader : Reader A) (name : List ℕ) (cause : ShelfFault) (s0 s1 : ShelfState) (r : Result A NotRead) → NotRefused cause
    → Stops reader name cause s0 s1 → SettledByHeld reader s0 s1 r
stops_settled reader name cause s0 s1 r is p files needed holds calm = elim (left_of reader s0.holds files p.files needed holds p.gave.needed p.gave.bytes) [
  | none e ↦ settles_needs (reader (bytes_of files)) name p.limit r (ap reader e ∙ p.needed)
  | few other limit e ↦ settles_needs (reader (bytes_of files)) other limit r e
  | more rest next e m h ↦
      let due = meets_as (reader (bytes_of p.files)) (needs name p.limit) next p.needed m in
      let told = ap (λ (hs : List ℕ → Holding). hs name) p.gave.kept ∙ ap s0.holds (sym due.0) ∙ h in
      absurd (given_held cause name next.bytes p.limit s0.faults p.middle s1 is told due.1 p.gave.counted calm p.read)
]

-- where a step is not that of a file that is needed, all held files were given
ended_settled : {A : Type 0} (reader : Reader A) (given : List File) (step : Step A) (s0 s1 : ShelfState) (r : Result A NotRead)
    → ((file : File) → Meets step file → ⊥) → Gave reader given s0 s1 → reader (bytes_of given) ≡ step → Settles step r → SettledByHeld reader s0 s1 r
ended_settled reader given step s0 s1 r last gave is settles files needed holds calm = elim (left_of reader s0.holds files given needed holds gave.needed gave.bytes) [
  | none e ↦ settles_as (reader (bytes_of files)) step r (ap reader e ∙ is) settles
  | few other limit e ↦ settles_needs (reader (bytes_of files)) other limit r e
  | more rest next e m h ↦ absurd (last next (meets_as (reader (bytes_of given)) step next is m))
]

-- a reader ends as the files that are held decide
pub Ended-settled : {A : Type 0} (reader : Reader A) (s0 s1 : ShelfState) (r : Result A NotRead) → Ended reader s0 s1 r → SettledByHeld reader s0 s1 r
Ended-settled reader s0 s1 (Ok x) p =
    ended_settled reader p.files (makes x []) s0 s1 (Ok x) (λ file m. m) p.gave
    (ap reader (sym (append-nil (bytes_of p.files))) ∙ p.goes_on []) refl
Ended-settled reader s0 s1 (Err (Missing name)) p = stops_settled reader name causes.Missing s0 s1 _ tt p
Ended-settled reader s0 s1 (Err (TooLong name)) p = stops_settled reader name causes.TooLong s0 s1 _ tt p
Ended-settled reader s0 s1 (Err ShelfFailed) p = stops_settled reader p.0 causes.Failed s0 s1 _ tt p.1
Ended-settled reader s0 s1 (Err (Malformed name fault)) p =
    ended_settled reader (p.front ++ p.last ∷ []) (refuses name fault) s0 s1 _ (λ file m. m) p.gave p.refused (refl, refl)
Ended-settled reader s0 s1 (Err (Disagree fault)) p =
    ended_settled reader p.files (differs p.found) s0 s1 _ (λ file m. m) p.gave p.differ p.is
Ended-settled reader s0 s1 (Err NoMemory) p = λ files needed holds calm. settles_no_memory (reader (bytes_of files))
