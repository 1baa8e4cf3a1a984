use Rattle.std.proofs.Common.{◌≡◌, ℕ, ◌+◌, ◌-◌, ◌*◌, ◌<◌, ◌≤◌, get_or, sum_by}
use Rattle.std.specs.List.{range_with_len}
use Rattle.dc_keys.proofs.adding.add_products.Given as goal

-- each total has grown by the products with the symbols so far
abbrev pub invariant-loop-j : goal.invariant-loop-j
invariant-loop-j l = record {
  added : (k : ℕ) → k < 16 → get_or l.totals k 0 ≡ get_or l.initial.totals k 0 + sum_by (λ j. get_or l.second (l.ahead + k - j) 0 * get_or l.w j 0) (range_with_len 0 l.j);
  grown : (k : ℕ) → get_or l.totals k 0 ≤ get_or l.initial.totals k 0 + 4294967296 * l.j;
}
