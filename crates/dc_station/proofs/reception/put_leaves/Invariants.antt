use Rattle.std.proofs.Common.{◌≡◌, ◌++◌, map, take}
use Rattle.dc_station_rules.specs.Stations.{leaf_entry}
use Rattle.dc_station.specs.Logs.{FitsRoom}
use Rattle.dc_station.proofs.reception.put_leaves.Given as goal

-- the entries of the leaves so far
abbrev pub invariant-loop-i : goal.invariant-loop-i
invariant-loop-i l = record {
  room : l.log.room ≡ l.initial.log.room;
  entries : FitsRoom (l.initial.log.entries ++ map leaf_entry l.leaves) l.initial.log.room → l.log.entries ≡ l.initial.log.entries ++ map leaf_entry (take l.i l.leaves);
}
