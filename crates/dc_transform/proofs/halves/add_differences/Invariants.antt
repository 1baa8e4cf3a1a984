use Rattle.std.proofs.Common.{◌≡◌, ℕ, ◌<◌, ◌≤◌, length, get_or, take}
use Rattle.dc_transform_rules.specs.Polynomials.{sums, scaled}
use Rattle.dc_transform.proofs.halves.add_differences.Given as goal

-- the places so far are sums, the others are as they were
abbrev pub invariant-loop-i : goal.invariant-loop-i
invariant-loop-i l = record {
  so_far : (k : ℕ) → k < l.i → get_or l.totals k 0 ≡ get_or (sums l.initial.totals (take (length l.initial.totals) (sums l.left (scaled 65536 l.right)))) k 0;
  rest : (k : ℕ) → l.i ≤ k → get_or l.totals k 0 ≡ get_or l.initial.totals k 0;
}
