use Rattle.std.proofs.Common.{◌≡◌, ℕ, ◌/◌, ◌<◌, [], length, map, slice_index_or}
use Rattle.std.specs.List.{range_with_len}
use Rattle.dc_twin.proofs.ShiftedPads.{pad_sum}
use Rattle.dc_twin.proofs.shifting.shifted_pads.Given as goal

-- the sums so far are there, and the words so far have sixteen numbers
abbrev pub invariant-loop-n : goal.invariant-loop-n
invariant-loop-n l = record {
  sums : l.shifted.items ≡ map (pad_sum l.pads l.words) (range_with_len 0 l.n);
  sixteen : (k : ℕ) → k < l.n → length (slice_index_or l.words (k / 16) []) ≡ 16;
}
