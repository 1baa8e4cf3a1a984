use Rattle.std.proofs.Common.{sym, ap, ◌∙◌}
use Rattle.dc_spec.specs.Net.{Net}
use Rattle.dc_steer.specs.Tests.{ends_fault}
use Rattle.dc_steer.proofs.FaultChain.{ends_faulty}
use Rattle.dc_steer.proofs.steered.steer.Goals as goal

pub returns-in-Some-clause-exact : goal.returns-in-Some-clause-exact
returns-in-Some-clause-exact c =
    ends_faulty c.args.net.now c.args.u c.args.v c.args.wanted.now c.in-Some.fault
    (sym (c.ends_fault.ensures ∙ ap (λ (n : Net). ends_fault n c.args.u c.args.v) c.net-parts.ensures.value) ∙ c.in-Some.is)
