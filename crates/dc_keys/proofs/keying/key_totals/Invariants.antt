use Rattle.std.proofs.Common.{◌≡◌, ℕ, ◌+◌, ◌-◌, ◌*◌, ◌<◌, ◌≤◌, length, take, get_or, sum_by}
use Rattle.std.specs.List.{range_with_len}
use Rattle.dc_key_rules.specs.PairKeys.{symbols}
use Rattle.dc_keys.proofs.keying.key_totals.Given as goal

-- each total is the first pad and the products with the symbols of the words so far, which are sixteen each
abbrev pub invariant-loop-t : goal.invariant-loop-t
invariant-loop-t l = record {
  sums : (k : ℕ) → k < 16 → get_or l.totals k 0 ≡ get_or l.first k 0 + sum_by (λ i. get_or l.second (16 * length l.received + k - i) 0 * get_or (symbols l.received) i 0) (range_with_len 0 (16 * l.t));
  bound : (k : ℕ) → get_or l.totals k 0 ≤ 65536 + 68719476736 * l.t;
  sixteen : length (symbols (take l.t l.received)) ≡ 16 * l.t;
}
