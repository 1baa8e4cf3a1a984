use Rattle.std.proofs.Common.{◌≡◌, ℕ, ◌-◌, ◌*◌, ◌/◌, ◌<◌, ◌≤◌, ◌++◌, length, get_or, replicate, sum_by, vec_capacity}
use Rattle.std.specs.List.{All, range_with_len}
use Rattle.dc_spec.specs.Words.{IsSymbol}
use Rattle.dc_steering_rules.specs.Steerings.{difference_at, changes_up_to, steered_from}
use Rattle.dc_steer.proofs.second_pads.changes_by.Given as goal

-- the changes so far, in room for all; each sum has their products with the differences of earlier rounds
abbrev pub invariant-loop-j : goal.invariant-loop-j
invariant-loop-j l = record {
  known : l.changes.items ≡ changes_up_to l.cu l.cv (replicate (steered_from l.p) 0 ++ l.wanted) (length l.cu) l.j;
  count : length l.changes.items ≡ l.j;
  are_symbols : All IsSymbol l.changes.items;
  room : vec_capacity l.changes ≡ length l.cu;
  value : (n : ℕ) → n < length l.cu → get_or l.sums n 0
      ≡ sum_by (λ k. get_or l.changes.items (n - k) 0 * difference_at l.cu l.cv k) (range_with_len 0 (16 * (n / 16)));
  small : (n : ℕ) → get_or l.sums n 0 ≤ 4294967296 * l.j;
}
