use Rattle.std.proofs.Common.{◌-◌, get_or, rules}
use Rattle.std.proofs.lemmas.List.FromFn.{fill_by_all}
use Rattle.dc_field.proofs.group.differences.Goals as goal

pub returns : goal.returns
returns c = fill_by_all (λ k. get_or c.args.whole.now k 0 - get_or c.args.part.now k 0) c.loop-i.rest 15 0 c.loop-i.invariant.0 (search rules)
