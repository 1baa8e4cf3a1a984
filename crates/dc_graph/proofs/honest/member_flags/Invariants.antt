use Rattle.std.proofs.Common.{◌≡◌, map}
use Rattle.std.specs.List.{range_with_len}
use Rattle.dc_spec.specs.Lists.{is_among}
use Rattle.dc_graph.proofs.honest.member_flags.Given as goal

-- the flags of the stations so far
abbrev pub invariant-loop-v : goal.invariant-loop-v
invariant-loop-v l = l.flags.items ≡ map (is_among l.c) (range_with_len 0 l.v)
