use Rattle.std.proofs.Common.{◌+◌, ◌%◌, length, rules}
use Rattle.std.proofs.lemmas.List.FromFn.{fill_by_all}
use Rattle.dc_net.specs.TrialNets.{own_element}
use Rattle.dc_net.proofs.trial.put_elements.Goals as goal

pub returns : goal.returns
returns c =
    fill_by_all (λ k. own_element c.args.base.now c.args.i (c.args.from + k) % c.args.modulus) c.loop-k.bytes (length c.args.bytes.now) 0
    c.loop-k.invariant.long (search rules)
