use Rattle.std.proofs.Common.{◌≡◌, ℕ, length, take, get_or, false}
use Rattle.dc_spec.specs.Lists.{is_among}
use Rattle.dc_net.proofs.stations.member_flags.Given as goal

abbrev pub invariant-loop-member : goal.invariant-loop-member
invariant-loop-member l = (length l.flags ≡ 256) × ((i : ℕ) → get_or l.flags i false ≡ is_among (take l.member-index l.members) i)
