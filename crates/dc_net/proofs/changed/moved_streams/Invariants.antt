use Rattle.std.proofs.Common.{◌≡◌, ℕ, ◌<◌, length, get_or, slice_index, None}
use Rattle.dc_net.proofs.changed.moved_streams.Given as goal

-- the streams of the stations so far are at their places
abbrev pub invariant-loop-i : goal.invariant-loop-i
invariant-loop-i l = record {
  count : length l.moved.items ≡ length l.streams;
  each : (k : ℕ) → k < l.i → get_or l.moved.items (slice_index l.perm k) None ≡ get_or l.streams k None;
}
