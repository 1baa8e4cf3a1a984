use Rattle.std.proofs.Common.{◌≡◌, ℕ, ◌+◌, ◌%◌, ◌<◌, ◌≤◌, get_or}
use Rattle.dc_keys.proofs.adding.add_pads.Given as goal

-- the sums below the place have their pads, the others are as they were
abbrev pub invariant-loop-n : goal.invariant-loop-n
invariant-loop-n l = record {
  so_far : (k : ℕ) → k < l.n → get_or l.sums k 0 ≡ (get_or l.initial.sums k 0 + get_or l.pads k 0) % 65537;
  rest : (k : ℕ) → l.n ≤ k → get_or l.sums k 0 ≡ get_or l.initial.sums k 0;
}
