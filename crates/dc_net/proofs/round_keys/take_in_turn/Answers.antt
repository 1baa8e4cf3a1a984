use Rattle.std.proofs.Common.{subst, sym, arith}
use Rattle.dc_net.specs.KeyStrip.{TakesRow, TookRow}
use Rattle.dc_net.specs.declared.key_strip.KeyStrip.{KeyStrip}
use Rattle.dc_net.proofs.KeyStrips.{TookSoFar-more, TookSoFar-all, next_takes}
use Rattle.dc_net.proofs.round_keys.take_in_turn.Goals as goal

pub take-requires : goal.take-requires
take-requires c = subst (TakesRow c.args.row.now) c.strip-item.is (next_takes c.args.row.now c.args.strips.now c.loop-strip.strip-items c.loop-strip.strip-index c.strip-item.result c.loop-strip.invariant
    (omega (arith, c.loop-strip-test.true, c.loop-strip.invariant.as_many)) c.strip-item.is c.requires)

pub loop-strip-preserved : goal.loop-strip-preserved
loop-strip-preserved c = TookSoFar-more c.args.row.now c.args.strips.now c.loop-strip.strip-items c.loop-strip.strip-index c.strip-item.result c.take.new.self c.loop-strip.invariant
    (omega (arith, c.loop-strip-test.true, c.loop-strip.invariant.as_many)) c.strip-item.is
    (subst (λ (strip : KeyStrip). TookRow c.args.row.now strip c.take.new.self) (sym c.strip-item.is) c.take.ensures)

pub returns : goal.returns
returns c = TookSoFar-all c.args.row.now c.args.strips.now c.loop-strip.strip-items c.loop-strip.strip-index c.loop-strip.invariant (omega (arith, c.loop-strip-test.false, c.loop-strip.invariant.as_many))
