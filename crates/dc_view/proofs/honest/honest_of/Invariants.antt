use Rattle.std.proofs.Common.{◌≡◌, ◌≤◌, not, filter}
use Rattle.std.specs.List.{range_with_len}
use Rattle.arrayvec.specs.ArrayVec.{array_vec_len}
use Rattle.dc_spec.specs.Lists.{is_among}
use Rattle.dc_view.proofs.honest.honest_of.Given as goal

-- the honest stations among those so far
abbrev pub invariant-loop-i : goal.invariant-loop-i
invariant-loop-i l = record {
  room : array_vec_len l.honest ≤ l.i;
  so_far : l.honest.items ≡ filter (λ i. not (is_among l.coalition i)) (range_with_len 0 l.i);
}
