use Rattle.std.proofs.Common.{◌∙◌}
use Rattle.dc_average.proofs.StackLemmas.{popped}
use Rattle.dc_average.proofs.stack.Stack.pop.Goals as goal

pub invariant_of-self : goal.invariant_of-self
invariant_of-self c =
    (c.pop.ensures.capacity ∙ c.self.invariant.0, popped c.pop.new.self.items c.self.inside.items.items c.pop.result c.pop.ensures.items c.self.invariant.1)
