use Rattle.std.proofs.Common.{◌≡◌, ◌≤◌, get_or, not, false}
use Rattle.std.specs.List.{range_with_len, filter}
use Rattle.arrayvec.specs.ArrayVec.{array_vec_len}
use Rattle.dc_net.proofs.stations.honest_of.Given as goal

abbrev pub invariant-loop-station : goal.invariant-loop-station
invariant-loop-station l = (array_vec_len l.honest ≤ l.station) × (l.honest.items ≡ filter (λ i. not (get_or l.flags i false)) (range_with_len 0 l.station))
