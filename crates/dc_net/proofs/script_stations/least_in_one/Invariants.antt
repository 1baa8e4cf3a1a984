use Rattle.std.proofs.Common.{◌≡◌, ◌≤◌, length, drop}
use Rattle.dc_spec.specs.Scripts.{stations_of}
use Rattle.dc_net.specs.Walks.{first_difference}
use Rattle.dc_net.proofs.script_stations.least_in_one.Given as goal

-- what is left to find is what was to be found
abbrev pub invariant-loop-i : goal.invariant-loop-i
invariant-loop-i l = (l.i ≤ length l.stations) × (first_difference (stations_of l.listed) l.stations ≡ first_difference (drop l.i (stations_of l.listed)) (drop l.i l.stations))
