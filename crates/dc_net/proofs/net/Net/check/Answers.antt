use Rattle.std.proofs.Common.{refl}
use Rattle.dc_net_rules.specs.Agreement.{disagreement}
use Rattle.dc_net.proofs.Refusals.{refuses}
use Rattle.dc_net.proofs.net.Net.check.Goals as goal

pub returns-in-Some : goal.returns-in-Some
returns-in-Some c = refuses c.args.self (disagreement c.args.self) c.in-Some.fault refl c.in-Some.ensures
