use Rattle.std.proofs.Common.{◌≡◌, not, drop, find, slice_index}
use Rattle.std.specs.List.{range_with_len}
use Rattle.dc_graph_rules.specs.Graphs.{key_graph, is_joined}
use Rattle.dc_twin.proofs.judging.joined_fault.Given as goal

-- the first station that is not joined with its image is one of those that are left
abbrev pub invariant-loop-i : goal.invariant-loop-i
invariant-loop-i l =
    find (λ i. not (is_joined (key_graph l.net) i (slice_index l.perm i))) (range_with_len 0 l.net.stations)
    ≡ find (λ i. not (is_joined (key_graph l.net) i (slice_index l.perm i))) (drop l.i (range_with_len 0 l.net.stations))
