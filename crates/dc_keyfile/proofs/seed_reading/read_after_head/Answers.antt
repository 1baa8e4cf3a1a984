use Rattle.std.proofs.Common.{arith}
use Rattle.dc_keyfile.proofs.SeedSpelling.{IsSeeds-from_body}
use Rattle.dc_keyfile.proofs.seed_reading.read_after_head.Goals as goal

pub invariant_of-result : goal.invariant_of-result
invariant_of-result c = IsSeeds-from_body c.args.b.now c.args.head c.in_ok-pairs.pairs (λ i. omega (arith, c.type_inv.b i)) c.requires c.in_ok-pairs.ensures
