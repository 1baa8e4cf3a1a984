use Rattle.std.proofs.Common.{◌≡◌, ℕ, ◌-◌, ◌<◌, length, get_or}
use Rattle.dc_field.proofs.group.differences.Given as goal

-- the differences so far
abbrev pub invariant-loop-i : goal.invariant-loop-i
invariant-loop-i l =
    (length l.rest ≡ 15) × ((k : ℕ) → k < l.i → get_or l.rest k 0 ≡ get_or l.whole k 0 - get_or l.part k 0)
