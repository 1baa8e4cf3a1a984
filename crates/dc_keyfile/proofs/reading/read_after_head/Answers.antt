use Rattle.dc_keyfile.proofs.PairsRead.{IsKeys-from_body}
use Rattle.dc_keyfile.proofs.reading.read_after_head.Goals as goal

pub invariant_of-result : goal.invariant_of-result
invariant_of-result c = IsKeys-from_body c.args.b.now c.args.head c.in_ok-pairs.pairs c.requires c.in_ok-pairs.ensures
