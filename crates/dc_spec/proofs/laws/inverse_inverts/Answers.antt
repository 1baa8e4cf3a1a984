-- Small symbols by computation, larger ones by smaller ones.
use Rattle.dc_spec.proofs.InverseLemmas.{inverse-inverts}
use Rattle.dc_spec.proofs.laws.inverse_inverts.Goals as goal

pub returns : goal.returns
returns c = inverse-inverts
