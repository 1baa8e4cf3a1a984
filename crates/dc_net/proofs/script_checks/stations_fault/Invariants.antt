use Rattle.std.proofs.Common.{◌≡◌, drop}
use Rattle.std.specs.List.{enumerate_from}
use Rattle.dc_net_rules.specs.Agreement.{first_by, station_fault}
use Rattle.dc_net.proofs.script_checks.stations_fault.Given as goal

-- what is left to find is what was to be found
abbrev pub invariant-loop-i : goal.invariant-loop-i
invariant-loop-i l =
    first_by (station_fault l.net) (enumerate_from 0 l.rounds) ≡ first_by (station_fault l.net) (enumerate_from l.i (drop l.i l.rounds))
