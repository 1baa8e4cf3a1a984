use Rattle.std.proofs.Common.{ap, ◌∙◌}
use Rattle.dc_spec.specs.Pads.{Keys}
use Rattle.dc_net.proofs.KeyStrips.{AreRoundKeys-new, KeysAt-new}
use Rattle.dc_net.proofs.round_keys.RoundKeys.start.Goals as goal

pub invariant_of-result : goal.invariant_of-result
invariant_of-result c = AreRoundKeys-new c.in_ok-strips.strips.items c.args.file.now c.args.stations.now c.width_for-width.result c.from.result c.width_for-width.ensures.some
    (c.from.ensures ∙ ap (λ (k : Keys). k.words) c.file.view_is) c.in_ok-strips.ensures

pub returns-clause-keyed : goal.returns-clause-keyed
returns-clause-keyed c = λ j lt. KeysAt-new c.in_ok-strips.strips.items c.args.file.now c.args.stations.now c.width_for-width.result c.from.result j c.width_for-width.ensures.some
    (c.from.ensures ∙ ap (λ (k : Keys). k.words) c.file.view_is) c.in_ok-strips.ensures lt
