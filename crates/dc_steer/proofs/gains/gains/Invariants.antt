use Rattle.std.proofs.Common.{◌≡◌, length, drop, take, vec_capacity}
use Rattle.std.specs.List.{All}
use Rattle.dc_spec.specs.Words.{IsWord}
use Rattle.dc_steer.specs.Gains.{gains as gains_of}
use Rattle.dc_steer.proofs.gains.gains.Given as goal

-- what the sums of the rounds so far gain, in room for all
abbrev pub invariant-loop-k : goal.invariant-loop-k
invariant-loop-k l = record {
  as_many : length l.gains.items ≡ l.k;
  value : l.gains.items ≡ take l.k (gains_of (drop l.from l.sums) l.wanted);
  words : All IsWord (take l.k l.wanted);
  room : vec_capacity l.gains ≡ length l.wanted;
}
