use Rattle.std.proofs.Common.{◌≡◌, ℕ, ◌<◌, length, take, drop, find, false, slice_index_or}
use Rattle.std.specs.List.{range_with_len}
use Rattle.dc_spec.specs.Lists.{is_among}
use Rattle.dc_twin.specs.Faults.{is_bad_place}
use Rattle.dc_twin.proofs.judging.place_fault.Given as goal

-- the flags of the numbers so far are set, and the first bad place is one of those that are left
abbrev pub invariant-loop-k : goal.invariant-loop-k
invariant-loop-k l = record {
  wide : length l.seen.items ≡ l.n;
  flags : (x : ℕ) → x < l.n → slice_index_or l.seen.items x false ≡ is_among (take l.k l.perm) x;
  left : find (is_bad_place l.n l.perm) (range_with_len 0 l.n) ≡ find (is_bad_place l.n l.perm) (drop l.k (range_with_len 0 l.n));
}
