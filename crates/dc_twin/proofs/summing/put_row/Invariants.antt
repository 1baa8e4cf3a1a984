use Rattle.std.proofs.Common.{◌≡◌, ℕ, ◌<◌, [], length, slice_index_or}
use Rattle.dc_twin.proofs.summing.put_row.Given as goal

-- the words so far are there
abbrev pub invariant-loop-k : goal.invariant-loop-k
invariant-loop-k l = record {
  count : length l.row ≡ length l.words;
  each : (j : ℕ) → j < l.k → slice_index_or l.row j [] ≡ slice_index_or l.words j [];
}
