use Rattle.std.proofs.Common.{Ok, rules, arith}
use Rattle.std.specs.List.{enumerate_from}
use Rattle.std.proofs.lemmas.List.{take_all}
use Rattle.std.proofs.lemmas.List.FromFn.{length-enumerate_from}
use Rattle.dc_run_texts.specs.Logs.{honest_text}
use Rattle.dc_print.proofs.GatherLemmas.{Gathers-more, Gathers-more-stops}
use Rattle.dc_view.proofs.ListSteps.{get_or-enumerate}
use Rattle.dc_view.proofs.logs.gather_honest.Goals as goal

pub returns-in_err-end : goal.returns-in_err-end
returns-in_err-end g c = Gathers-more-stops (λ h. honest_text c.args.run.now h.0 h.1) (enumerate_from 0 c.args.honest.now) c.loop-j.j (0, 0) _ _ _ _ _ _ _ _ _
    (omega (arith, length-enumerate_from 0 c.args.honest.now)) c.loop-j.invariant
    (rw (get_or-enumerate c.args.honest.now c.loop-j.j 0 c.loop-j-test.true) c.in_err-end.ensures) (search rules)

pub loop-j-preserved : goal.loop-j-preserved
loop-j-preserved g c = Gathers-more (λ h. honest_text c.args.run.now h.0 h.1) (enumerate_from 0 c.args.honest.now) c.loop-j.j (0, 0) _ _ _ _ _ _ _ (Ok c.in_ok-end.end)
    (omega (arith, length-enumerate_from 0 c.args.honest.now)) c.loop-j.invariant
    (rw (get_or-enumerate c.args.honest.now c.loop-j.j 0 c.loop-j-test.true) c.in_ok-end.ensures)

pub returns : goal.returns
returns g c = rw (take_all c.loop-j.j (enumerate_from 0 c.args.honest.now) (omega (arith, length-enumerate_from 0 c.args.honest.now))) at c.loop-j.invariant
