use Rattle.std.proofs.Common.{◌∙◌, arith}
use Rattle.dc_keys.proofs.PadSums.{station_pads-written}
use Rattle.dc_keys.proofs.summed_pads.SummedPads.of.Goals as goal

pub invariant_of-result : goal.invariant_of-result
invariant_of-result c = (station_pads-written (record { stations = c.file.inside.stations; words = c.file.inside.words; pairs = c.file.inside.pairs }) c.args.me _ _ _ _ _ _ _ _ _ c.from_vec.ensures c.from_vec-2.ensures
    (c.sum_pairs.auto.first ∙ c.deref_mut.ensures.len) (c.sum_pairs.auto.second ∙ c.deref_mut-2.ensures.len) (c.in_ok-first.ensures.len ∙ omega arith) (c.in_ok-second.ensures.len ∙ omega arith) c.as_slice.ensures
    (λ n lt. c.sum_pairs.ensures.first n (omega arith)) (λ n lt. c.sum_pairs.ensures.second n (omega arith)) c.file.invariant).0

pub returns : goal.returns
returns c = rw (← c.file.view_is) (station_pads-written (record { stations = c.file.inside.stations; words = c.file.inside.words; pairs = c.file.inside.pairs }) c.args.me _ _ _ _ _ _ _ _ _ c.from_vec.ensures c.from_vec-2.ensures
    (c.sum_pairs.auto.first ∙ c.deref_mut.ensures.len) (c.sum_pairs.auto.second ∙ c.deref_mut-2.ensures.len) (c.in_ok-first.ensures.len ∙ omega arith) (c.in_ok-second.ensures.len ∙ omega arith) c.as_slice.ensures
    (λ n lt. c.sum_pairs.ensures.first n (omega arith)) (λ n lt. c.sum_pairs.ensures.second n (omega arith)) c.file.invariant).1
