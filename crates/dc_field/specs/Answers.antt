-- The answer of a call that takes memory, beside the answer that is due.
use Rattle.std.specs.Prelude.{◌≡◌, Result, Ok, Err}
use Rattle.dc_field.specs.declared.refusal.Refusal.{Refusal}
use Rattle.dc_field.specs.declared.refusal.Refusal.TheVariants.{NoMemory, Bad}

-- the answer is the one that is due, or memory ran out
abbrev pub Answers : {X F : Type 0} → Result X (Refusal F) → Result X F → Type 0
Answers (Ok x) due = due ≡ Ok x
Answers (Err NoMemory) due = Unit {0}
Answers (Err (Bad fault)) due = due ≡ Err fault
