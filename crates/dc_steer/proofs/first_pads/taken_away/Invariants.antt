use Rattle.std.proofs.Common.{◌≡◌, ℕ, ◌<◌, ◌%◌, length, get_or, vec_capacity}
use Rattle.std.specs.List.{All}
use Rattle.dc_spec.specs.Words.{IsSymbol}
use Rattle.dc_spec.specs.Symbols.{symbol_sub}
use Rattle.dc_steer.proofs.first_pads.taken_away.Given as goal

-- the changes so far, in room for all
abbrev pub invariant-loop-sum : goal.invariant-loop-sum
invariant-loop-sum l = record {
  as_many : length l.changes.items ≡ l.sum-index;
  value : (n : ℕ) → n < l.sum-index → get_or l.changes.items n 0 ≡ symbol_sub 0 (get_or l.sums n 0 % 65537);
  are_symbols : All IsSymbol l.changes.items;
  room : vec_capacity l.changes ≡ length l.sums;
}
