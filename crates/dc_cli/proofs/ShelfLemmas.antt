-- What is known of a shelf's files, and of the names that it was asked for.
use Rattle.std.proofs.Common.{◌≡◌, ◌≤◌, ◌++◌, ℕ, List, [], ◌∷◌, length, Option, refl, sym, ap, ◌∙◌, subst, append-nil, arith}
use Rattle.dc_spec.specs.Outside.{ShelfState, Holding, absent, held, Tells, grown, IsFront}
use Rattle.dc_edge.specs.Shelf.{IsHeldAbove, OthersStay}
use Rattle.dc_edge.proofs.PutLemmas.{grown-grown, grown-nothing}

-- the bytes that are read of a known file
pub told_bytes : (told : Holding) (bytes read : List ℕ) → told ≡ held bytes → Tells told read → read ≡ bytes
told_bytes told bytes read e t = let P : Holding → Type 0 = λ h. Tells h read in subst P e t

-- a held name is not missing
pub held_is_there : (told : Holding) (bytes : List ℕ) → told ≡ held bytes → told ≡ absent → ⊥
held_is_there told bytes a b = cc

-- held bytes within the limit are not above it
pub held_within : (told : Holding) (bytes : List ℕ) (limit : ℕ) → told ≡ held bytes → length bytes ≤ limit → IsHeldAbove told limit → ⊥
held_within told bytes limit a le above =
    let same : bytes ≡ above.0 = held_same bytes above.0 (sym a ∙ above.1) in
    omega (arith, ap length same, above.2)
  where
    held_same : (xs ys : List ℕ) → held xs ≡ held ys → xs ≡ ys
    held_same xs ys e = cc

-- files that all stayed before another was written
pub others_since : (name : List ℕ) (s0 s1 s2 : ShelfState) → s1.holds ≡ s0.holds → OthersStay name s1 s2 → OthersStay name s0 s2
others_since name s0 s1 s2 kept others = λ other ne. others other ne ∙ ap (λ (holds : List ℕ → Holding). holds other) kept

-- files that all stayed
pub others_of_all : (name : List ℕ) (s0 s1 : ShelfState) → s1.holds ≡ s0.holds → OthersStay name s0 s1
others_of_all name s0 s1 kept = λ other ne. ap (λ (holds : List ℕ → Holding). holds other) kept

-- a front of these files was asked for
abbrev pub AskedUpTo : List (List ℕ) → ShelfState → ShelfState → Type 0
AskedUpTo files s s' = (names : List (List ℕ)) × IsFront names files × (s'.asked ≡ grown s.asked names)

pub asked_none : (files : List (List ℕ)) (s s' : ShelfState) → s'.asked ≡ s.asked → AskedUpTo files s s'
asked_none files s s' e = ([], (files, refl), e ∙ grown-nothing s.asked)

pub asked_first : (file : List ℕ) (files : List (List ℕ)) (s s' : ShelfState) → s'.asked ≡ grown s.asked (file ∷ []) → AskedUpTo (file ∷ files) s s'
asked_first file files s s' e = (file ∷ [], (files, refl), e)

pub asked_whole : (files : List (List ℕ)) (s s' : ShelfState) → s'.asked ≡ grown s.asked files → AskedUpTo files s s'
asked_whole [] s s' e = ([], ([], refl), e)
asked_whole (file ∷ files) s s' e = (file ∷ files, ([], sym (append-nil (file ∷ files))), e)

-- two names were asked for, one after the other
pub asked_two : (first second : List ℕ) (s0 s1 s2 : ShelfState) → s1.asked ≡ grown s0.asked (first ∷ []) → s2.asked ≡ grown s1.asked (second ∷ []) → s2.asked ≡ grown s0.asked (first ∷ second ∷ [])
asked_two first second s0 s1 s2 a b = b ∙ ap (λ (told : Option (List (List ℕ))). grown told (second ∷ [])) a ∙ grown-grown s0.asked (first ∷ []) (second ∷ [])

-- the last name asked for
abbrev pub LastAsked : List ℕ → ShelfState → ShelfState → Type 0
LastAsked name s s' = (front : List (List ℕ)) × (s'.asked ≡ grown s.asked (front ++ name ∷ []))

pub last_is : (name file : List ℕ) (s s' : ShelfState) → name ≡ file → s'.asked ≡ grown s.asked (file ∷ []) → LastAsked name s s'
last_is name file s s' e asked = ([], rw e asked)
