use Rattle.std.proofs.Common.{◌≡◌, ℕ, ◌<◌, length, get_or, vec_capacity}
use Rattle.std.specs.List.{All}
use Rattle.dc_spec.specs.Words.{IsSymbol}
use Rattle.dc_steering_rules.specs.Steerings.{difference_at}
use Rattle.dc_steer.proofs.differences.differences.Given as goal

-- the differences so far, in room for all
abbrev pub invariant-loop-k : goal.invariant-loop-k
invariant-loop-k l = record {
  as_many : length l.differences.items ≡ l.k;
  are_symbols : All IsSymbol l.differences.items;
  value : (i : ℕ) → i < l.k → get_or l.differences.items i 0 ≡ difference_at l.cu l.cv i;
  room : vec_capacity l.differences ≡ length l.cu;
}
