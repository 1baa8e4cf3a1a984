use Rattle.std.proofs.Common.{◌≡◌, ℕ, ◌-◌, ◌*◌, ◌/◌, ◌<◌, ◌≤◌, min, length, get_or, sum_by}
use Rattle.std.specs.List.{range_with_len}
use Rattle.dc_steer.proofs.first_pads.add_history.Given as goal

-- each sum has the products with the received symbols so far that are of earlier rounds
abbrev pub invariant-loop-k : goal.invariant-loop-k
invariant-loop-k l = record {
  value : (n : ℕ) → n < length l.cu → get_or l.sums n 0
      ≡ sum_by (λ i. get_or l.second (n - i) 0 * get_or l.cu i 0) (range_with_len 0 (min l.k (16 * (n / 16))));
  small : (n : ℕ) → get_or l.sums n 0 ≤ 4294967296 * l.k;
}
