use Rattle.std.proofs.Common.{◌<◌, ap, sym, ◌∙◌, arith}
use Rattle.dc_spec.specs.Net.{Net}
use Rattle.dc_net_rules.specs.Runs.{script_turn}
use Rattle.dc_net_rules.specs.Agreement.{is_sum}
use Rattle.dc_steer.specs.Faults.{later_rounds}
use Rattle.dc_steer.specs.declared.fault.SteerFault.TheVariants.{SumDelivery}
use Rattle.dc_steer.proofs.LaterWalk.{found_here, found_later}
use Rattle.dc_steer.proofs.round_checks.sum_fault.Goals as goal

pub returns-then-delivers_sum : goal.returns-then-delivers_sum
returns-then-delivers_sum c =
    let words = ap (λ (n : Net). n.words) c.net.view_is in
    let low : c.loop-t.t < c.args.net.now.words = omega (arith, words, c.loop-t-test.true) in
    found_here SumDelivery (λ t. is_sum (script_turn c.args.net.now t).delivery) (later_rounds c.args.net.now c.args.s) c.loop-t.t c.args.net.now.words low
    (sym c.delivers_sum.ensures ∙ c.if-delivers_sum.true) c.loop-t.invariant

pub loop-t-preserved : goal.loop-t-preserved
loop-t-preserved c =
    let words = ap (λ (n : Net). n.words) c.net.view_is in
    let low : c.loop-t.t < c.args.net.now.words = omega (arith, words, c.loop-t-test.true) in
    found_later (λ t. is_sum (script_turn c.args.net.now t).delivery) (later_rounds c.args.net.now c.args.s) c.loop-t.t c.args.net.now.words low
    (sym c.delivers_sum.ensures ∙ c.if-delivers_sum.false) c.loop-t.invariant
