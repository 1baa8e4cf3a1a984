-- The twin of a net as it is handed over: the shifts of the edges of its forest, and its keys.
use Rattle.std.specs.Prelude.{ℕ, ◌≡◌, List, Some, None, Result, Ok, Err}
use Rattle.dc_spec.specs.Net.{Net}
use Rattle.dc_field.specs.declared.refusal.Refusal.{Refusal}
use Rattle.dc_field.specs.declared.refusal.Refusal.TheVariants.{NoMemory, Bad}
use Rattle.dc_twin_rules.specs.Twins.{shifts, twin}
use Rattle.dc_twin.specs.declared.fault.TwinFault.{TwinFault}
use Rattle.dc_twin.specs.Faults.{twin_fault}
use Rattle.dc_twin.specs.TwinnedKeys.{TwinnedKeys}

-- what is handed over of the twin of a net by a permutation
abbrev pub twinned : Net → List ℕ → TwinnedKeys
twinned net p = record { shifts = shifts net p; keys = (twin net p).keys }

-- the twin where there is no fault, and else the first fault; or memory ran out
abbrev pub TwinAnswer : Net → List ℕ → Result TwinnedKeys (Refusal TwinFault) → Type 0
TwinAnswer net p (Ok t) = (twin_fault net p ≡ None) × (t ≡ twinned net p)
TwinAnswer net p (Err NoMemory) = Unit {0}
TwinAnswer net p (Err (Bad fault)) = twin_fault net p ≡ Some fault
