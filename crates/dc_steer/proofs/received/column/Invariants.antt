use Rattle.std.proofs.Common.{◌≡◌, ◌+◌, ◌*◌, length, map, slice_index_or, vec_capacity}
use Rattle.std.specs.List.{range_with_len}
use Rattle.dc_spec.specs.Words.{zero_word}
use Rattle.dc_steer.proofs.received.column.Given as goal

-- the words of the rows so far, in room for all
abbrev pub invariant-loop-k : goal.invariant-loop-k
invariant-loop-k l = record {
  as_many : length l.column.items ≡ l.k;
  value : l.column.items ≡ map (λ k. slice_index_or l.words (k * l.count + l.place) zero_word) (range_with_len 0 l.k);
  room : vec_capacity l.column ≡ l.rows;
}
