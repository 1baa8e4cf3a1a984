-- A coalition's part of a net.
use Rattle.std.specs.Prelude.{ℕ, Bool, List, ◌||◌, filter}
use Rattle.std.specs.List.{range_with_len}
use Rattle.dc_spec.specs.Pads.{Pair}
use Rattle.dc_spec.specs.Net.{Net}
use Rattle.dc_spec.specs.Lists.{is_among}

-- the members of the coalition, in rising order
abbrev pub members : Net → List ℕ
members net = filter (is_among net.coalition) (range_with_len 0 net.stations)

-- whether a member knows the pads of a pair: an end of it is in the coalition
abbrev pub is_known : Net → Pair → Bool
is_known net p = is_among net.coalition p.u || is_among net.coalition p.v
