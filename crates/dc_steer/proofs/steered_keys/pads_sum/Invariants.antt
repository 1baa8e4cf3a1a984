use Rattle.std.proofs.Common.{◌≡◌, length, take, vec_capacity}
use Rattle.dc_key_rules.specs.PairKeys.{pads_add}
use Rattle.dc_steer.proofs.steered_keys.pads_sum.Given as goal

-- the sums so far, in room for all
abbrev pub invariant-loop-n : goal.invariant-loop-n
invariant-loop-n l = record {
  as_many : length l.sums.items ≡ l.n;
  value : l.sums.items ≡ take l.n (pads_add l.pads l.changes);
  room : vec_capacity l.sums ≡ length l.pads;
}
