use Rattle.std.proofs.Common.{Some, sym, ap, ◌∙◌, option_map}
use Rattle.dc_spec.specs.Scripts.{Said}
use Rattle.dc_net.specs.Tests.{is_dealt_by_faulty_rule}
use Rattle.dc_net.proofs.FirstBy.{find_here, find_past}
use Rattle.dc_net.proofs.script_rules.faulty_among.Goals as goal

pub returns-then-is_faulty_dealt : goal.returns-then-is_faulty_dealt
returns-then-is_faulty_dealt c =
    ap (λ (said : Said). Some said.station) c.said.view_is
    ∙ sym (ap (option_map (λ (said : Said). said.station))
    (find_here (is_dealt_by_faulty_rule c.args.net.now) c.args.dealt.now c.loop-said.said-index c.said-item.result
    c.loop-said-test.true c.said-item.is (sym c.if-is_faulty_dealt.ensures) c.loop-said.invariant))

pub loop-said-preserved : goal.loop-said-preserved
loop-said-preserved c =
    find_past (is_dealt_by_faulty_rule c.args.net.now) c.args.dealt.now c.loop-said.said-index c.said-item.result
    c.loop-said-test.true c.said-item.is (sym c.if-is_faulty_dealt.ensures) c.loop-said.invariant
