use Rattle.std.proofs.Common.{ap, ◌∙◌, arith}
use Rattle.dc_spec.specs.Scripts.{Script}
use Rattle.dc_spec.specs.Net.{Net}
use Rattle.dc_net_rules.specs.Agreement.{delivery_fault}
use Rattle.dc_net.specs.Faults.{fault_of}
use Rattle.dc_net.proofs.FirstBy.{item_found, item_passed}
use Rattle.dc_net.proofs.script_checks.deliveries_fault.Goals as goal

pub returns-in-Some : goal.returns-in-Some
returns-in-Some c =
    item_found fault_of (delivery_fault c.args.net.now) c.as_slice-rounds.result.now c.args.net.now.script.rounds
    c.loop-i.i c.index-rounds-i.result c.in-Some.fault (omega arith) c.index-rounds-i.is
    (c.as_slice-rounds.ensures ∙ ap (λ (s : Script). s.rounds) c.script.view_is ∙ ap (λ (n : Net). n.script.rounds) c.net.view_is)
    c.loop-i.invariant c.in-Some.ensures

pub loop-i-preserved : goal.loop-i-preserved
loop-i-preserved c =
    item_passed fault_of (delivery_fault c.args.net.now) c.as_slice-rounds.result.now c.loop-i.i c.index-rounds-i.result
    (omega arith) c.index-rounds-i.is c.loop-i.invariant c.in-None.ensures
