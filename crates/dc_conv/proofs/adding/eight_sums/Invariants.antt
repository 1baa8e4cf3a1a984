use Rattle.std.proofs.Common.{◌≡◌, ℕ, ◌+◌, ◌*◌, ◌<◌, ◌≤◌, get_or, sum_by}
use Rattle.std.specs.List.{range_with_len}
use Rattle.dc_conv.proofs.adding.eight_sums.Given as goal

-- the products with the factors so far
abbrev pub invariant-loop-k : goal.invariant-loop-k
invariant-loop-k l = record {
  value : (i : ℕ) → i < 8 → get_or l.totals i 0 ≡ sum_by (λ k. get_or l.pads (i + k) 0 * get_or l.factors k 0) (range_with_len 0 l.k);
  small : (i : ℕ) → get_or l.totals i 0 ≤ 4294967296 * l.k;
}
