use Rattle.std.proofs.Common.{◌∙◌, sym, arith}
use Rattle.std.proofs.lemmas.List.FromFn.{map-range_with_len_more}
use Rattle.dc_graph.specs.Forest.{place_found}
use Rattle.dc_graph.proofs.place.places.Goals as goal

pub loop-v-preserved : goal.loop-v-preserved
loop-v-preserved c =
    let more = map-range_with_len_more (place_found c.args.n c.args.members.now c.args.table.now c.args.found.now) 0 c.loop-v.v c.loop-v.v (omega arith) in
    c.in_ok-push.ensures.items ∙ (rw (c.root.ensures, c.parent.ensures, c.from-in-loop-v.ensures, c.loop-v.invariant) (sym more))
