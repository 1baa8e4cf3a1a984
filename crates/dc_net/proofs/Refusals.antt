-- The answer of the check.
use Rattle.std.proofs.Common.{◌≡◌, Option, Some, None}
use Rattle.dc_spec.specs.Net.{Net}
use Rattle.dc_spec.proofs.Options.{some-inj}
use Rattle.dc_net_rules.specs.Agreement.{Disagreement, disagreement}
use Rattle.dc_net.specs.declared.fault.NetFault.{NetFault}
use Rattle.dc_net.specs.Checked.{Disagrees}
use Rattle.dc_net.specs.Tests.{as_fault}

pub refuses : (net : Net) (o : Option Disagreement) (fault : NetFault) → disagreement net ≡ o → Some fault ≡ as_fault o → Disagrees net fault
refuses net None fault is e = absurd (cc)
refuses net (Some found) fault is e = record { found = found; is_first = is; stands = some-inj e }
