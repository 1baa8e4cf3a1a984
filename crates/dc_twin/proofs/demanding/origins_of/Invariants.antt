use Rattle.std.proofs.Common.{◌≡◌, ℕ, ◌<◌, length, slice_index}
use Rattle.dc_twin.proofs.demanding.origins_of.Given as goal

-- the origins of the images so far
abbrev pub invariant-loop-k : goal.invariant-loop-k
invariant-loop-k l = record {
  count : length l.origins.items ≡ length l.perm;
  each : (j : ℕ) → j < l.k → slice_index l.origins.items (slice_index l.perm j) ≡ j;
}
