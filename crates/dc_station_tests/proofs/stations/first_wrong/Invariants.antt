use Rattle.std.proofs.Common.{◌≡◌, ◌+◌}
use Rattle.dc_station_tests.proofs.stations.first_wrong.Given as goal

-- as many words as were received, and as many as are left, are those of the session
abbrev pub invariant-loop-n : goal.invariant-loop-n
invariant-loop-n l =
    (goal.iterator-loop-n).can_next l.n-iterator × (goal.iterator-loop-n).is_finite l.n-iterator × (l.station.taken + l.left ≡ l.station.total)
