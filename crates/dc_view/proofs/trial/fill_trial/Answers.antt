use Rattle.std.proofs.Common.{map, ap, ◌∙◌}
use Rattle.dc_spec.specs.Net.{Run}
use Rattle.dc_spec.specs.Words.{word_sum}
use Rattle.dc_print.proofs.FillLemmas.{Fills-then}
use Rattle.dc_view.proofs.TrialText.{both, trial_text-lines}
use Rattle.dc_view.proofs.trial.fill_trial.Goals as goal

pub returns : goal.returns
returns c =
    let run = c.args.run.now in
    rw (trial_text-lines c.args.seed c.args.stations c.args.words run c.logged_shorts.result c.logged_longs.result c.as_slice.result.now c.words_sum.result
    c.logged_shorts.ensures c.logged_longs.ensures (ap (map both) c.as_slice.ensures ∙ ap (λ (r : Run). r.pending) c.run.view_is)
    (c.words_sum.ensures ∙ ap word_sum (c.as_slice-2.ensures ∙ ap (λ (r : Run). r.sums) c.run.view_is)))
    (Fills-then _ _ _ _ _ _ _ _ (Fills-then _ _ _ _ _ _ _ _ (Fills-then _ _ _ _ _ _ _ _ (Fills-then _ _ _ _ _ _ _ _ c.fill_numbers-end.ensures.text
    c.fill_count_line-end.ensures.text) c.fill_count_line-end-2.ensures.text) c.fill_pending-end.ensures.text) c.fill_sum.ensures)
