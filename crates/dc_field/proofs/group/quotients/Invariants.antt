use Rattle.std.proofs.Common.{◌≡◌, ℕ, ◌/◌, ◌<◌, length, get_or}
use Rattle.dc_field.proofs.group.quotients.Given as goal

-- the quotients so far
abbrev pub invariant-loop-i : goal.invariant-loop-i
invariant-loop-i l =
    (length l.bytes ≡ 15) × ((k : ℕ) → k < l.i → get_or l.bytes k 0 ≡ get_or l.limbs k 0 / l.count)
