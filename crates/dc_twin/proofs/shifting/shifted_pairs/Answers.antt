use Rattle.std.proofs.Common.{ℕ, ◌*◌, Option, sym, ap, ◌∙◌}
use Rattle.dc_spec.specs.Pads.{Pair, Keys}
use Rattle.dc_spec.specs.Net.{Net}
use Rattle.dc_graph_rules.specs.Graphs.{key_graph}
use Rattle.dc_twin_rules.specs.Twins.{Shift}
use Rattle.dc_twin.specs.Edges.{edge_shift, with_shift}
use Rattle.dc_twin.proofs.Rows.{chosen-more, mapped-more}
use Rattle.dc_twin.proofs.EdgeShifts.{shift-length, pads-size}
use Rattle.dc_twin.proofs.shifting.shifted_pairs.Goals as goal

pub shifted_pair-requires : goal.shifted_pair-requires
shifted_pair-requires c = λ s is.
    let net = c.args.net.now in
    let same = c.as_slice-pairs.ensures ∙ ap (λ (k : Keys). k.pairs) c.keys.view_is ∙ ap (λ (n : Net). n.keys.pairs) c.net.view_is in
    pads-size net c.requires.net c.as_slice-pairs.result.now c.loop-pair.pair-index c.pair-item.result same c.loop-pair-test.true c.pair-item.is
    ∙ ap (λ (n : ℕ). 16 * n) (sym (shift-length (key_graph net) net.words c.args.sums.now c.pair-item.result s (sym c.in_ok-shift.ensures ∙ is)))

pub loop-pair-preserved : goal.loop-pair-preserved
loop-pair-preserved c =
    let net = c.args.net.now in
    let f : Pair → Option Shift = edge_shift (key_graph c.args.net.now) c.args.net.now.words c.args.sums.now in
    record {
      shifts = chosen-more f c.as_slice-pairs.result.now c.loop-pair.pair-index c.pair-item.result c.in_ok-shift.shift c.loop-pair.shifts.items c.push_shift.new.shifts.items c.loop-pair-test.true c.pair-item.is
          c.loop-pair.invariant.shifts c.in_ok-shift.ensures c.in_ok-push_shift.ensures;
      pairs = mapped-more (λ pair. with_shift (f pair) pair) c.as_slice-pairs.result.now c.loop-pair.pair-index c.pair-item.result c.in_ok-shifted_pair.field-0 c.loop-pair.shifted.items c.push.new.self.items
          c.loop-pair-test.true c.pair-item.is c.loop-pair.invariant.pairs (c.in_ok-shifted_pair.ensures ∙ ap (λ (o : Option Shift). with_shift o c.pair-item.result) c.in_ok-shift.ensures) c.in_ok-push.ensures.items;
    }
