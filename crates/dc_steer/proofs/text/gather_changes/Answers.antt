use Rattle.std.proofs.Common.{Ok, rules, arith}
use Rattle.std.specs.List.{enumerate_from}
use Rattle.std.proofs.lemmas.List.{take_all}
use Rattle.std.proofs.lemmas.List.FromFn.{length-enumerate_from}
use Rattle.dc_steering_rules.specs.SteeringText.{change_line}
use Rattle.dc_print.proofs.GatherLemmas.{Gathers-more, Gathers-more-stops}
use Rattle.dc_steer.proofs.SteeringLines.{numbered}
use Rattle.dc_steer.proofs.text.gather_changes.Goals as goal

pub returns-in_err-end : goal.returns-in_err-end
returns-in_err-end g c = Gathers-more-stops (λ h. change_line c.args.beginning.now h.0 h.1) (enumerate_from 0 c.args.changes.now) c.loop-n.n (0, 0) _ _ _ _ _ _ _ _ _
    (omega (arith, length-enumerate_from 0 c.args.changes.now)) c.loop-n.invariant
    (rw (numbered c.args.changes.now c.loop-n.n c.loop-n-test.true) c.in_err-end.ensures) (search rules)

pub loop-n-preserved : goal.loop-n-preserved
loop-n-preserved g c = Gathers-more (λ h. change_line c.args.beginning.now h.0 h.1) (enumerate_from 0 c.args.changes.now) c.loop-n.n (0, 0) _ _ _ _ _ _ _ (Ok c.in_ok-end.end)
    (omega (arith, length-enumerate_from 0 c.args.changes.now)) c.loop-n.invariant
    (rw (numbered c.args.changes.now c.loop-n.n c.loop-n-test.true) c.in_ok-end.ensures)

pub returns : goal.returns
returns g c = rw (take_all c.loop-n.n (enumerate_from 0 c.args.changes.now) (omega (arith, length-enumerate_from 0 c.args.changes.now))) at c.loop-n.invariant
