use Rattle.std.proofs.Common.{Ok, rules}
use Rattle.dc_formats.specs.TextFile.{byte_text}
use Rattle.dc_print.proofs.GatherLemmas.{Gathers-more, Gathers-more-stops}
use Rattle.dc_print.proofs.gathering.gather_hex.Goals as goal

pub returns-in_err-end : goal.returns-in_err-end
returns-in_err-end g c = Gathers-more-stops byte_text c.args.bytes.now c.loop-byte.byte-index 0 _ _ _ _ _ _ _ _ _ c.loop-byte-test.true c.loop-byte.invariant
    (rw (← c.digits_of.ensures) c.in_err-end.ensures) (search rules)

pub loop-byte-preserved : goal.loop-byte-preserved
loop-byte-preserved g c = Gathers-more byte_text c.args.bytes.now c.loop-byte.byte-index 0 _ _ _ _ _ _ _ (Ok c.in_ok-end.end) c.loop-byte-test.true c.loop-byte.invariant
    (rw (← c.digits_of.ensures) c.in_ok-end.ensures)
