use Rattle.std.proofs.Common.{◌≡◌, ℕ, ◌-◌, ◌/◌, ◌%◌, ◌^◌, ◌<◌, length, get_or}
use Rattle.dc_field.proofs.value.digits.Given as goal

-- the bytes so far are the digits
abbrev pub invariant-loop-i : goal.invariant-loop-i
invariant-loop-i l =
    (length l.bytes ≡ 15) × ((k : ℕ) → k < l.i → get_or l.bytes k 0 ≡ l.x / 256 ^ (14 - k) % 256)
