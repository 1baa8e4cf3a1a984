use Rattle.std.proofs.Common.{◌≡◌, ℕ, ◌<◌, ◌≤◌, length, get_or}
use Rattle.dc_conv.proofs.adding.widened.Given as goal

-- the pads so far, and zeros
abbrev pub invariant-loop-k : goal.invariant-loop-k
invariant-loop-k l = record {
  room : length l.wide ≡ 1032;
  so_far : (k : ℕ) → k < l.k → get_or l.wide k 0 ≡ get_or l.pads k 0;
  small : (k : ℕ) → get_or l.wide k 0 ≤ 65536;
}
