use Rattle.std.proofs.Common.{◌≡◌, ◌*◌, map}
use Rattle.std.specs.Prelude.{vec_len, vec_capacity}
use Rattle.std.specs.List.{range_with_len}
use Rattle.dc_spec.specs.Words.{word_sum}
use Rattle.dc_superpose.specs.Pieces.{FirstAreSymbols, words_from}
use Rattle.dc_superpose.proofs.summing.sum_rounds.Given as goal

-- the sums so far are those of the rounds so far, whose numbers are symbols
abbrev pub invariant-loop-r : goal.invariant-loop-r
invariant-loop-r l = record {
  sums : l.sums.items ≡ map (λ r. word_sum (words_from l.b (r * l.stations) l.stations)) (range_with_len 0 l.r);
  len : vec_len l.sums ≡ l.r;
  room : vec_capacity l.sums ≡ l.fn.sizes.rounds;
  width : vec_capacity l.round ≡ l.stations;
  good : FirstAreSymbols l.b (16 * (l.r * l.stations));
}
