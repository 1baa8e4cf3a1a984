use Rattle.std.proofs.Common.{◌≡◌, ℕ, ◌+◌, ◌*◌, ◌<◌, ◌≤◌, get_or}
use Rattle.dc_steer.proofs.adding.add_scaled.Given as goal

-- the sums below the place have their product, the others are as they were
abbrev pub invariant-loop-n : goal.invariant-loop-n
invariant-loop-n l = record {
  so_far : (k : ℕ) → k < l.n → get_or l.sums k 0 ≡ get_or l.initial.sums k 0 + get_or l.symbols k 0 * l.factor;
  rest : (k : ℕ) → l.n ≤ k → get_or l.sums k 0 ≡ get_or l.initial.sums k 0;
  grown : (k : ℕ) → get_or l.sums k 0 ≤ get_or l.initial.sums k 0 + 4294967296;
}
