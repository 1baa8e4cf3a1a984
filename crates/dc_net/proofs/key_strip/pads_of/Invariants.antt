use Rattle.std.proofs.Common.{◌≡◌, length, map, take, vec_capacity}
use Rattle.dc_keys.specs.StationPads.{station_pads}
use Rattle.dc_net.proofs.key_strip.pads_of.Given as goal

-- the pads of the stations so far, in room for all
abbrev pub invariant-loop-station : goal.invariant-loop-station
invariant-loop-station l = record {
  pads_are : l.pads.items ≡ map (station_pads l.file) (take l.station-index l.stations);
  room : vec_capacity l.pads ≡ length l.stations;
}
