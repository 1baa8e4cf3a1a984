use Rattle.std.proofs.Common.{◌≡◌, ◌-◌}
use Rattle.std.specs.List.{range_with_len}
use Rattle.dc_net_rules.specs.Agreement.{first_by, stream_fault}
use Rattle.dc_net.proofs.stream_checks.streams_fault.Given as goal

-- what is left to find is what was to be found
abbrev pub invariant-loop-station : goal.invariant-loop-station
invariant-loop-station l =
    first_by (stream_fault l.net) (range_with_len 0 l.net.stations) ≡ first_by (stream_fault l.net) (range_with_len l.station (l.net.stations - l.station))
