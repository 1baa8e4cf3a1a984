use Rattle.std.proofs.Common.{rules}
use Rattle.dc_run_texts.specs.View.{edge_line}
use Rattle.dc_print.proofs.PutSoFar.{ItemsPut-then, ItemsPut-stops}
use Rattle.dc_view.proofs.net_text.put_edges.Goals as goal

pub returns-in_err-put_some_edges : goal.returns-in_err-put_some_edges
returns-in_err-put_some_edges g c = ItemsPut-stops (λ e. edge_line e.0 e.1) c.min.result c.loop-rest.rest.now _ _ _ _ _ _ c.loop-rest.invariant
    (rw (← c.split_at.ensures.front) c.in_err-put_some_edges.ensures) (search rules)

pub loop-rest-preserved : goal.loop-rest-preserved
loop-rest-preserved g c = rw c.split_at.ensures.back
    (ItemsPut-then (λ e. edge_line e.0 e.1) c.min.result c.loop-rest.rest.now _ _ _ _ _ c.loop-rest.invariant
    (rw (← c.split_at.ensures.front) c.in_ok-put_some_edges.ensures))
