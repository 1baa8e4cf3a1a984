use Rattle.std.proofs.Common.{◌≡◌, ◌<◌, [], length, get_or, arith, ◌∙◌}
use Rattle.std.proofs.lemmas.List.Sums.{sum_by_more}
use Rattle.dc_spec.specs.Entries.{long}
use Rattle.dc_run_texts.specs.Trial.{shorts_in}
use Rattle.dc_view.proofs.trial.shorts_of.Goals as goal

pub loop-k-preserved : goal.loop-k-preserved
loop-k-preserved c =
    let entries = c.args.log.now.entries in
    let within : c.loop-k.k < length c.args.log.now.entries = omega arith in
    let here : c.from-total.result ≡ shorts_in (get_or c.args.log.now.entries c.loop-k.k (long [])) = c.from-total.ensures ∙ c.shorts_at.ensures (long []) in
    record {
      counted = omega (arith, c.loop-k.invariant.counted, here, sum_by_more shorts_in entries c.loop-k.k (long []) within);
      most = omega arith;
    }
