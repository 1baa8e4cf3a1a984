-- The outside as contracts see it: a state, which an object may report or not, and a count of its
-- faults.
use Rattle.std.specs.Prelude.{ℕ, ◌+◌, ◌-◌, ◌^◌, ◌≤◌, ◌≡◌, min, List, [], ◌++◌, Option, option_map, IfSome}

-- what a shelf reports of a file name: nothing, that there is no such file, or the file's bytes
pub data Holding : Type 0 where
  untold : Holding
  absent : Holding
  held : List ℕ → Holding

-- a shelf: what it reports of each name, the names asked for so far where they are known, and the
-- count of faults
pub record ShelfState : Type 0 where
  pub holds : List ℕ → Holding
  pub asked : Option (List (List ℕ))
  pub faults : ℕ

-- a sink: what was written so far where it is known, and the count of faults
pub record SinkState : Type 0 where
  pub written : Option (List ℕ)
  pub faults : ℕ

-- a wire: how many peers it has, what each peer by its number still gives and was sent where that is
-- known, the addresses asked for so far where they are known (the empty text for each peer that was
-- waited for), and the count of faults. A number that no peer has yet stands for the peer that gets it.
pub record WireState : Type 0 where
  pub peers : ℕ
  pub left : ℕ → Option (List ℕ)
  pub sent : ℕ → Option (List ℕ)
  pub asked : Option (List (List ℕ))
  pub faults : ℕ

-- the count of faults rose, or is 2^64 - 1, its greatest value
abbrev pub Rose : ℕ → ℕ → Type 0
Rose before now = min (before + 1) (2 ^ 64 - 1) ≤ now

-- a list that may be unknown, with more at its end
abbrev pub grown : {A : Type 0} → Option (List A) → List A → Option (List A)
grown known more = option_map (λ xs. xs ++ more) known

-- a list that may be unknown, with more at its front
abbrev pub preceded : {A : Type 0} → List A → Option (List A) → Option (List A)
preceded more known = option_map (λ xs. more ++ xs) known

-- a list that is empty where it is known
abbrev pub IsEmptyIfKnown : {A : Type 0} → Option (List A) → Type 0
IsEmptyIfKnown known = IfSome known (λ xs. xs ≡ [])

-- the second list begins with the first
abbrev pub IsFront : {A : Type 0} → List A → List A → Type 0
IsFront {A} front whole = (rest : List A) × (whole ≡ front ++ rest)

-- bytes that were read agree with what the shelf reports: they are those of the file, where it
-- reports them
abbrev pub Tells : Holding → List ℕ → Type 0
Tells untold bytes = Unit {0}
Tells absent bytes = ⊥
Tells (held h) bytes = bytes ≡ h
