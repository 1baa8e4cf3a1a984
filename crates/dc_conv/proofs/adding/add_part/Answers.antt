use Rattle.std.proofs.Common.{◌+◌, arith}
use Rattle.dc_conv.specs.Mask.{products_from}
use Rattle.dc_conv.proofs.Loops.{wide_products}
use Rattle.dc_conv.proofs.Pieces.{pieces_more, pieces_rest, pieces_grown}
use Rattle.dc_conv.proofs.adding.add_part.Goals as goal

pub loop-done-preserved : goal.loop-done-preserved
loop-done-preserved c =
    let all = c.loop-done.invariant in
    let pads = c.args.pads.now in
    let factors = c.args.factors.now in
    record {
      so_far = pieces_more c.loop-done.sums c.add_tile.new.sums c.loop-done.done _ c.min-end.result (omega arith) (omega arith) (omega arith) c.args.sums.now all.rest
          (λ i. products_from pads factors (i + 1)) _ all.so_far (λ j lt. c.add_tile.ensures.added j (omega arith))
          (λ j lt. wide_products pads c.widened-wide.result factors c.loop-done.done j _ _ _ c.widened-wide.ensures.value (omega arith) (omega arith) (omega arith) (omega arith));
      rest = pieces_rest c.loop-done.sums c.add_tile.new.sums c.loop-done.done _ c.min-end.result (omega arith) (omega arith) (omega arith) c.args.sums.now all.rest;
      grown = pieces_grown c.loop-done.sums c.add_tile.new.sums c.loop-done.done _ c.min-end.result (omega arith) (omega arith) (omega arith) c.args.sums.now all.rest _ all.grown
          c.add_tile.ensures.grown;
    }
