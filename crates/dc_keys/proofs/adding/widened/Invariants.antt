use Rattle.std.proofs.Common.{◌≡◌, ℕ, ◌<◌, ◌≤◌, length, get_or}
use Rattle.dc_keys.proofs.adding.widened.Given as goal

-- the totals so far are the symbols, and the others are 0
abbrev pub invariant-loop-l : goal.invariant-loop-l
invariant-loop-l l = record {
  sixteen : length l.totals ≡ 16;
  so_far : (k : ℕ) → k < l.l → get_or l.totals k 0 ≡ get_or l.first k 0;
  rest : (k : ℕ) → l.l ≤ k → get_or l.totals k 0 ≡ 0;
}
