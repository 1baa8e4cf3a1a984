use Rattle.std.proofs.Common.{◌≡◌, map}
use Rattle.std.specs.List.{range_with_len}
use Rattle.dc_graph.specs.Forest.{place_found}
use Rattle.dc_graph.proofs.place.places.Given as goal

-- the places of the stations so far
abbrev pub invariant-loop-v : goal.invariant-loop-v
invariant-loop-v l = l.places.items ≡ map (place_found l.n l.members l.table l.found) (range_with_len 0 l.v)
