use Rattle.std.proofs.Common.{◌≡◌, ◌∙◌, length, drop, sym}
use Rattle.std.proofs.Math.Seq.{take-append_seam}
use Rattle.dc_graph.proofs.ForestProofs.{table_is}
use Rattle.dc_graph.proofs.honest.honest_edges.Goals as goal

pub returns : goal.returns
returns c = λ cs flags.
    let long : c.in_ok-table.table.len ≡ length c.mark_edges.new.table = c.in_ok-table.ensures.len ∙ (rw (c.from.ensures, c.from-2.ensures) (sym c.mark_edges.ensures.wide)) in
    rw long (rw (take-append_seam c.mark_edges.new.table (drop (length c.mark_edges.new.table) c.in_ok-table.table.items))
    (table_is c.args.g.now cs c.stations-n.result c.edges.result.now c.args.members.now c.mark_edges.new.table c.stations-n.ensures.value c.edges.ensures.value flags c.mark_edges.ensures.wide c.mark_edges.ensures.flags))
