use Rattle.std.proofs.Common.{ℕ, ◌<◌, ◌≤◌, ◌-◌, ◌≢◌, length, get_or}
use Rattle.dc_live.proofs.seats.place_of.Given as goal

-- no place so far has the number
abbrev pub invariant-loop-place : goal.invariant-loop-place
invariant-loop-place l = record { within : l.place ≤ length l.told; none : (k : ℕ) → k < l.place → get_or l.told k 0 ≢ l.station }

abbrev pub decreases-loop-place : goal.decreases-loop-place
decreases-loop-place l = length l.told - l.place
