use Rattle.std.proofs.Common.{◌≡◌, ℕ, ◌+◌, ◌<◌, ◌≤◌, get_or}
use Rattle.dc_conv.proofs.adding.add_tile.Given as goal

-- the sums below the place have their products, the others are as they were
abbrev pub invariant-loop-i : goal.invariant-loop-i
invariant-loop-i l = record {
  so_far : (k : ℕ) → k < l.i → get_or l.sums k 0 ≡ get_or l.initial.sums k 0 + get_or l.more k 0;
  rest : (k : ℕ) → l.i ≤ k → get_or l.sums k 0 ≡ get_or l.initial.sums k 0;
}
