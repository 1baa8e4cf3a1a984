use Rattle.std.proofs.Common.{◌∙◌, ap}
use Rattle.dc_average.specs.Stacks.{stations_of}
use Rattle.dc_average.proofs.StackLemmas.{from_open-waits, leaves_in-waits, no_top, other_top}
use Rattle.dc_average.proofs.epoch.single_on.Goals as goal

pub returns-else-count-eq1-clause-none : goal.returns-else-count-eq1-clause-none
returns-else-count-eq1-clause-none c =
    from_open-waits c.args.stack.now c.top.ensures.stack.some (other_top c.args.stack.now c.in-Some.top c.in-Some.ensures.top (λ one. c.if-count-eq1.false (c.count.ensures.value ∙ (ap stations_of c.top-in-Some.view_is ∙ one))))

pub returns-else-count-eq1-clause-leaves : goal.returns-else-count-eq1-clause-leaves
returns-else-count-eq1-clause-leaves c =
    leaves_in-waits c.args.stack.now c.top.ensures.stack.some (other_top c.args.stack.now c.in-Some.top c.in-Some.ensures.top (λ one. c.if-count-eq1.false (c.count.ensures.value ∙ (ap stations_of c.top-in-Some.view_is ∙ one))))

pub returns-in-None-clause-none : goal.returns-in-None-clause-none
returns-in-None-clause-none c = from_open-waits c.args.stack.now c.top.ensures.stack.some (no_top c.args.stack.now c.in-None.ensures.top)

pub returns-in-None-clause-leaves : goal.returns-in-None-clause-leaves
returns-in-None-clause-leaves c = leaves_in-waits c.args.stack.now c.top.ensures.stack.some (no_top c.args.stack.now c.in-None.ensures.top)
