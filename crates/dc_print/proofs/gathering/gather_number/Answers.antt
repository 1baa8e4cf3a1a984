use Rattle.std.proofs.Common.{take, rules}
use Rattle.std.specs.Prelude.{decimal}
use Rattle.dc_print.proofs.GatherLemmas.{Gathers-then, Gathers-stops}
use Rattle.dc_print.proofs.gathering.gather_number.Goals as goal

pub returns-in_err-end : goal.returns-in_err-end
returns-in_err-end g c = Gathers-stops c.args.text.now (decimal c.args.n) (take c.args.end c.args.buffer.now) c.gather_bytes.new.buffer _ _ _ _ _ c.in_err-end.ensures (search rules)

pub returns : goal.returns
returns g c = rw (← c.format.ensures.text, ← c.as_bytes.ensures.value) (Gathers-then _ _ _ _ _ _ _ _ _ _ c.in_ok-end.ensures c.gather_bytes-2.ensures)
