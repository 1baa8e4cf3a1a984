use Rattle.std.proofs.Common.{◌≡◌, false, take}
use Rattle.std.specs.List.{list_any}
use Rattle.dc_station_rules.specs.Stations.{is_leaf_of}
use Rattle.dc_station.proofs.progress.has_leaf_of.Given as goal

-- none of the leaves so far is one of the value
abbrev pub invariant-loop-i : goal.invariant-loop-i
invariant-loop-i l = list_any (is_leaf_of l.value) (take l.i l.leaves) ≡ false
