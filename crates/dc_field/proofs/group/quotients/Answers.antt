use Rattle.std.proofs.Common.{◌/◌, get_or, rules}
use Rattle.std.proofs.lemmas.List.FromFn.{fill_by_all}
use Rattle.dc_field.proofs.group.quotients.Goals as goal

pub returns : goal.returns
returns c = fill_by_all (λ k. get_or c.args.limbs.now k 0 / c.args.count) c.loop-i.bytes 15 0 c.loop-i.invariant.0 (search rules)
