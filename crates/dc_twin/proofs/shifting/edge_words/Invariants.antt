use Rattle.std.proofs.Common.{◌≡◌}
use Rattle.dc_twin.specs.Edges.{edge_words}
use Rattle.dc_twin.proofs.shifting.edge_words.Given as goal

-- the words of the rounds so far
abbrev pub invariant-loop-t : goal.invariant-loop-t
invariant-loop-t l = l.words.items ≡ edge_words l.t l.net.stations l.child l.adds l.sums
