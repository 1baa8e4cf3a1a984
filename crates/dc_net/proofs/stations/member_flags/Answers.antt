use Rattle.std.proofs.Common.{refl}
use Rattle.dc_net.proofs.Flags.{no_flag}
use Rattle.dc_net.proofs.stations.member_flags.Goals as goal

pub loop-member-init : goal.loop-member-init
loop-member-init c = (refl, λ i. no_flag 256 i)
