use Rattle.std.proofs.Common.{◌<◌, ap, sym, ◌∙◌, arith}
use Rattle.dc_spec.specs.Net.{Net}
use Rattle.dc_net_rules.specs.Runs.{script_turn}
use Rattle.dc_steer.specs.Faults.{has_terms}
use Rattle.dc_steer.specs.Faults.{later_rounds}
use Rattle.dc_steer.specs.declared.fault.SteerFault.TheVariants.{RuledRound}
use Rattle.dc_steer.proofs.LaterWalk.{found_here, found_later}
use Rattle.dc_steer.proofs.round_checks.term_fault.Goals as goal

pub returns-then-has_terms : goal.returns-then-has_terms
returns-then-has_terms c =
    let words = ap (λ (n : Net). n.words) c.net.view_is in
    let low : c.loop-t.t < c.args.net.now.words = omega (arith, words, c.loop-t-test.true) in
    found_here RuledRound (λ t. has_terms (script_turn c.args.net.now t)) (later_rounds c.args.net.now c.args.s) c.loop-t.t c.args.net.now.words low
    (sym (c.has_terms.ensures ∙ ap has_terms c.turn_of.ensures) ∙ c.if-has_terms.true) c.loop-t.invariant

pub loop-t-preserved : goal.loop-t-preserved
loop-t-preserved c =
    let words = ap (λ (n : Net). n.words) c.net.view_is in
    let low : c.loop-t.t < c.args.net.now.words = omega (arith, words, c.loop-t-test.true) in
    found_later (λ t. has_terms (script_turn c.args.net.now t)) (later_rounds c.args.net.now c.args.s) c.loop-t.t c.args.net.now.words low
    (sym (c.has_terms.ensures ∙ ap has_terms c.turn_of.ensures) ∙ c.if-has_terms.false) c.loop-t.invariant
