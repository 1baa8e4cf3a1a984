use Rattle.std.proofs.Common.{◌≡◌, ◌==◌, ◌<◌, ℕ, length, get_or}
use Rattle.dc_reserve.specs.Fields.{has_field}
use Rattle.dc_reserve.proofs.fields.granted.Given as goal

-- the flags so far are set where the symbol is 1
abbrev pub invariant-loop-field : goal.invariant-loop-field
invariant-loop-field l = (length l.flags ≡ 16) × ((k : ℕ) → k < l.field → has_field l.flags k ≡ (get_or l.numbers k 0 == 1))
