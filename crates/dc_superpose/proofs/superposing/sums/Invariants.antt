use Rattle.std.proofs.Common.{◌≡◌, ◌*◌, take, drop, map}
use Rattle.std.specs.Prelude.{vec_len, vec_capacity}
use Rattle.std.specs.List.{range_with_len}
use Rattle.dc_spec.specs.Words.{word_sum}
use Rattle.dc_superpose.proofs.superposing.sums.Given as goal

-- the sums so far are those of the rounds so far
abbrev pub invariant-loop-r : goal.invariant-loop-r
invariant-loop-r l = record {
  sums : l.sums.items ≡ map (λ r. word_sum (take l.stations (drop (r * l.stations) l.words))) (range_with_len 0 l.r);
  len : vec_len l.sums ≡ l.r;
  room : vec_capacity l.sums ≡ l.t.rounds;
}
