use Rattle.std.proofs.Common.{◌∙◌, ◌+◌, ◌-◌, ◌<◌, None, slice_index, slice_index_or, length, arith, refl, ap, sym, subst}
use Rattle.dc_graph_rules.specs.Forests.{parents}
use Rattle.dc_graph_rules.proofs.UpwardLemmas.{ArePartial}
use Rattle.dc_graph.specs.Forest.{parents_in}
use Rattle.dc_graph.proofs.ForestProofs.{upwards_begin, upwards_goes_on, upwards_end, length_with_parent}
use Rattle.dc_graph.proofs.upwards.add_upwards.Goals as goal

pub loop-k-init : goal.loop-k-init
loop-k-init c = record { count = c.requires.count; partial = λ g is. upwards_begin g c.args.places.now is c.args.order.now c.args.sums.now c.requires.count c.requires.words }

pub loop-k-preserved : goal.loop-k-preserved
loop-k-preserved c =
    let v = slice_index c.args.order.now (length c.args.order.now - 1 - c.loop-k.k) in
    let low : c.loop-k.k < length c.args.order.now = c.loop-k-test.true in
    record {
      count = ap length c.add_to_parent.ensures ∙ length_with_parent (slice_index_or (parents_in c.args.places.now) v None) v c.loop-k.sums ∙ c.loop-k.invariant.count;
      partial = λ g is. subst (λ s. ArePartial (parents g) c.args.sums.now c.args.order.now (length c.args.order.now - (c.loop-k.k + 1)) s) (sym c.add_to_parent.ensures)
          (upwards_goes_on g c.args.places.now is c.args.order.now c.requires.order c.args.sums.now c.loop-k.k v c.loop-k.sums low refl
          (c.requires.order.are_stations (length c.args.order.now - 1 - c.loop-k.k) 0 (omega arith)) (c.loop-k.invariant.partial g is));
    }

pub returns-clause-below : goal.returns-clause-below
returns-clause-below c = λ g is v low. upwards_end g c.args.places.now is c.args.order.now c.requires.order c.args.sums.now c.loop-k.k c.loop-k.sums c.loop-k-test.false (c.loop-k.invariant.partial g is) v
    (let count = c.requires.count in omega arith)
