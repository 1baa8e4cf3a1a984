use Rattle.std.proofs.Common.{◌≡◌, ltb}
use Rattle.std.specs.List.{filter, flat_map, range_with_len}
use Rattle.dc_net.specs.TrialNets.{edges_of}
use Rattle.dc_net.proofs.trial.trial_edges.Given as goal

-- the edges of the stations so far
abbrev pub invariant-loop-i : goal.invariant-loop-i
invariant-loop-i l = l.edges.items ≡ filter (λ e. ltb e.1 l.n) (flat_map edges_of (range_with_len 0 l.i))
