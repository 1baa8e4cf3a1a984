use Rattle.std.proofs.Common.{◌++◌, take, rules}
use Rattle.std.specs.Prelude.{codes, decimal}
use Rattle.dc_spec.specs.Text.{line}
use Rattle.dc_print.proofs.GatherLemmas.{Gathers-then, Gathers-stops}
use Rattle.dc_view.proofs.EntryLines.{pending_line-parts}
use Rattle.dc_view.proofs.logs.gather_pending.Goals as goal

pub returns-in_err-end : goal.returns-in_err-end
returns-in_err-end g c = rw (pending_line-parts c.args.pending.shorts c.args.pending.longs)
    (Gathers-stops (codes "pending " ++ decimal c.args.pending.shorts) (line (codes " " ++ decimal c.args.pending.longs)) (take c.args.end c.args.buffer.now) c.gather_number.new.buffer _ _ _ _ _
    c.in_err-end.ensures (search rules))

pub returns : goal.returns
returns g c = rw (pending_line-parts c.args.pending.shorts c.args.pending.longs)
    (Gathers-then (codes "pending " ++ decimal c.args.pending.shorts) (line (codes " " ++ decimal c.args.pending.longs)) (take c.args.end c.args.buffer.now) c.gather_number.new.buffer _ _ _ _ _ _
    c.in_ok-end.ensures c.gather_number_line.ensures)
