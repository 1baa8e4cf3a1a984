use Rattle.std.proofs.Common.{◌≡◌, not}
use Rattle.std.specs.List.{filter, range_with_len}
use Rattle.dc_spec.specs.Lists.{is_among}
use Rattle.dc_twin.proofs.judging.honest_of.Given as goal

-- the honest stations so far
abbrev pub invariant-loop-i : goal.invariant-loop-i
invariant-loop-i l = l.honest.items ≡ filter (λ k. not (is_among l.coalition k)) (range_with_len 0 l.i)
