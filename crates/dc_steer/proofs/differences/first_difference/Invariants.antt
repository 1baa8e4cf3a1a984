use Rattle.std.proofs.Common.{◌≡◌, ℕ, ◌<◌, get_or}
use Rattle.dc_steer.proofs.differences.first_difference.Given as goal

-- the symbols so far are the same
abbrev pub invariant-loop-k : goal.invariant-loop-k
invariant-loop-k l = (i : ℕ) → i < l.k → get_or l.cu i 0 ≡ get_or l.cv i 0
