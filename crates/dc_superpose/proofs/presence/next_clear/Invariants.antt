use Rattle.std.proofs.Common.{◌≡◌, ◌<◌, ℕ, true, false, get_or}
use Rattle.dc_superpose.proofs.presence.next_clear.Given as goal

-- the flags so far are set
abbrev pub invariant-loop-station : goal.invariant-loop-station
invariant-loop-station l = (k : ℕ) → k < l.station → get_or l.flags k false ≡ true
