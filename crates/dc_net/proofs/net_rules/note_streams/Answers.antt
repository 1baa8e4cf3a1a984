use Rattle.std.proofs.Common.{arith, subst}
use Rattle.std.specs.List.{All}
use Rattle.std.proofs.lemmas.List.{take_all}
use Rattle.std.proofs.lemmas.List.Elements.{All-more}
use Rattle.dc_net.specs.Checked.{KeepsStream}
use Rattle.dc_net.proofs.net_rules.note_streams.Goals as goal

pub loop-place-preserved : goal.loop-place-preserved
loop-place-preserved c =
    All-more KeepsStream c.args.streams.now c.loop-place.place-index c.place-item.result c.loop-place-test.true c.loop-place.invariant
    (subst KeepsStream c.place-item.is c.note_place.ensures)

pub returns : goal.returns
returns c = subst (All KeepsStream) (take_all c.loop-place.place-index c.args.streams.now (omega (arith, c.loop-place-test.false))) c.loop-place.invariant
