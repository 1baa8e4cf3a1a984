-- What a call of a shelf does to its state, by its answer.
use Rattle.std.specs.Prelude.{ℕ, ◌≤◌, ◌<◌, ◌≡◌, ◌≢◌, ◌⊎◌, List, [], ◌∷◌, length, Option, Result, Ok, Err}
use Rattle.dc_spec.specs.Outside.{Holding, untold, absent, held, ShelfState, Rose, Tells, grown}
use Rattle.dc_edge.specs.declared.fault.ShelfFault.{ShelfFault}
use Rattle.dc_edge.specs.declared.fault.ShelfFault.TheVariants.{Missing, TooLong, Failed, NoMemory}
use Rattle.dc_edge.specs.declared.fault.WriteFault.{WriteFault}
use Rattle.dc_edge.specs.declared.fault.WriteFault.TheVariants as writes

-- the bytes under a name are known, and longer than the limit
abbrev pub IsHeldAbove : Holding → ℕ → Type 0
IsHeldAbove told limit = (bytes : List ℕ) × (told ≡ held bytes) × (limit < length bytes)

-- the name is put at the end of the names asked for, unless memory ran out
abbrev pub asked_after : {A : Type 0} → Result A ShelfFault → List ℕ → Option (List (List ℕ)) → Option (List (List ℕ))
asked_after (Ok _) name told = grown told (name ∷ [])
asked_after (Err Missing) name told = grown told (name ∷ [])
asked_after (Err TooLong) name told = grown told (name ∷ [])
asked_after (Err Failed) name told = grown told (name ∷ [])
asked_after (Err NoMemory) name told = told

-- the bytes under a name are unknown, and the count of faults rose
abbrev pub FailsUntold : Holding → ℕ → ℕ → Type 0
FailsUntold told before now = (told ≡ untold) × Rose before now

-- when each answer comes
abbrev pub ReadAnswer : List ℕ → ℕ → ShelfState → ShelfState → Result (List ℕ) ShelfFault → Type 0
ReadAnswer name limit before after (Ok bytes) = (length bytes ≤ limit) × Tells (before.holds name) bytes
ReadAnswer name limit before after (Err Missing) = (before.holds name ≡ absent) ⊎ FailsUntold (before.holds name) before.faults after.faults
ReadAnswer name limit before after (Err TooLong) = IsHeldAbove (before.holds name) limit ⊎ FailsUntold (before.holds name) before.faults after.faults
ReadAnswer name limit before after (Err Failed) = Rose before.faults after.faults
ReadAnswer name limit before after (Err NoMemory) = after.faults ≡ before.faults

-- a read of a name: all files stay, the name was asked for, the count never falls
pub record Reads (name : List ℕ) (limit : ℕ) (before after : ShelfState) (result : Result (List ℕ) ShelfFault) : Type 0 where
  pub kept : after.holds ≡ before.holds
  pub asked : after.asked ≡ asked_after result name before.asked
  pub counted : before.faults ≤ after.faults
  pub answer : ReadAnswer name limit before after result

-- what is known of a name that holds other bytes from now on: these, unless nothing was known
abbrev pub rewritten : Holding → List ℕ → Holding
rewritten untold bytes = untold
rewritten absent bytes = held bytes
rewritten (held former) bytes = held bytes

-- each other name stays as it was
abbrev pub OthersStay : List ℕ → ShelfState → ShelfState → Type 0
OthersStay name before after = (other : List ℕ) → other ≢ name → after.holds other ≡ before.holds other

-- the name is put at the end of the names asked for, unless memory ran out
abbrev pub asked_to_write : Result Unit WriteFault → List ℕ → Option (List (List ℕ)) → Option (List (List ℕ))
asked_to_write (Ok _) name told = grown told (name ∷ [])
asked_to_write (Err writes.Failed) name told = grown told (name ∷ [])
asked_to_write (Err writes.NoMemory) name told = told

-- when each answer comes: the name holds the bytes, or the count rose, or nothing changed
abbrev pub WriteAnswer : List ℕ → List ℕ → ShelfState → ShelfState → Result Unit WriteFault → Type 0
WriteAnswer name bytes before after (Ok _) = after.holds name ≡ rewritten (before.holds name) bytes
WriteAnswer name bytes before after (Err writes.Failed) = Rose before.faults after.faults
WriteAnswer name bytes before after (Err writes.NoMemory) = after ≡ before

-- a write of a name: all other files stay, the name was asked for, the count never falls
pub record Writes (name bytes : List ℕ) (before after : ShelfState) (result : Result Unit WriteFault) : Type 0 where
  pub others : OthersStay name before after
  pub asked : after.asked ≡ asked_to_write result name before.asked
  pub counted : before.faults ≤ after.faults
  pub answer : WriteAnswer name bytes before after result
