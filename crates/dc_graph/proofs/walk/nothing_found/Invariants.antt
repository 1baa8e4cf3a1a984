use Rattle.std.proofs.Common.{◌≡◌, replicate, None}
use Rattle.dc_graph.proofs.walk.nothing_found.Given as goal

-- so many times nothing
abbrev pub invariant-loop : goal.invariant-loop
invariant-loop l = l.found.items ≡ replicate l.counter None
