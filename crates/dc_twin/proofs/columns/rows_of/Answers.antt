use Rattle.dc_twin.specs.Demands.{row_of}
use Rattle.dc_twin.proofs.Rows.{pieces_more}
use Rattle.dc_twin.proofs.columns.rows_of.Goals as goal

pub loop-t-preserved : goal.loop-t-preserved
loop-t-preserved c = pieces_more (row_of c.args.columns.now) c.loop-t.t _ _ c.loop-t.invariant c.in_ok-push_row.ensures
