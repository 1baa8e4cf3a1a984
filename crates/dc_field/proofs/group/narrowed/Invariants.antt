use Rattle.std.proofs.Common.{◌≡◌, ℕ, ◌<◌, length, get_or}
use Rattle.dc_field.proofs.group.narrowed.Given as goal

-- the limbs so far
abbrev pub invariant-loop-i : goal.invariant-loop-i
invariant-loop-i l = (length l.narrow ≡ 15) × ((k : ℕ) → k < l.i → get_or l.narrow k 0 ≡ get_or l.limbs k 0)
