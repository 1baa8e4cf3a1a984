use Rattle.std.proofs.Common.{◌≡◌, ℕ, ◌+◌, ◌-◌, ◌*◌, ◌%◌, ◌<◌, ◌≤◌, get_or}
use Rattle.dc_steer.proofs.second_pads.add_early.Given as goal

-- the sums below the place have their products, the others are as they were
abbrev pub invariant-loop-n : goal.invariant-loop-n
invariant-loop-n l = record {
  before : (k : ℕ) → k < l.j → get_or l.sums k 0 ≡ get_or l.initial.sums k 0;
  same_round : (k : ℕ) → l.j ≤ k % 16 → get_or l.sums k 0 ≡ get_or l.initial.sums k 0;
  so_far : (k : ℕ) → k % 16 < l.j → l.j ≤ k → k < l.n → get_or l.sums k 0 ≡ get_or l.initial.sums k 0 + get_or l.differences (k - l.j) 0 * l.change;
  rest : (k : ℕ) → l.n ≤ k → get_or l.sums k 0 ≡ get_or l.initial.sums k 0;
  grown : (k : ℕ) → get_or l.sums k 0 ≤ get_or l.initial.sums k 0 + 4294967296;
}
