use Rattle.std.proofs.Common.{sym, subst}
use Rattle.std.specs.List.Sorted.{IsStrictlyIncreasing}
use Rattle.dc_net.proofs.Flags.{honest_rise}
use Rattle.dc_net.proofs.script_stations.wrong_station.Goals as goal

pub wrong_dealt-requires-clause-honest : goal.wrong_dealt-requires-clause-honest
wrong_dealt-requires-clause-honest c = subst IsStrictlyIncreasing (sym c.requires.honest) (honest_rise c.args.net.now)
