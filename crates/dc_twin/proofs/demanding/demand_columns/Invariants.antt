use Rattle.std.proofs.Common.{◌≡◌, ◌-◌, ◌≤◌, not, map, drop}
use Rattle.std.specs.List.{filter, range_with_len}
use Rattle.dc_spec.specs.Lists.{is_among}
use Rattle.dc_net_rules.specs.Runs.{honest_stations}
use Rattle.dc_twin.specs.Demands.{station_demands}
use Rattle.dc_twin.proofs.demanding.demand_columns.Given as goal

-- the honest stations from the place on are those that are left, and the demands of those before are there
abbrev pub invariant-loop-i : goal.invariant-loop-i
invariant-loop-i l = record {
  left : drop l.place (honest_stations l.net) ≡ filter (λ k. not (is_among l.net.coalition k)) (range_with_len l.i (l.net.stations - l.i));
  few : l.place ≤ l.i;
  columns : l.columns.items ≡ map (station_demands l.net l.perm) (range_with_len 0 l.i);
}
