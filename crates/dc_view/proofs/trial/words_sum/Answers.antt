use Rattle.std.proofs.Common.{List, ℕ, take, ap, ◌∙◌}
use Rattle.dc_spec.specs.Words.{word_add, word_sum}
use Rattle.dc_view.proofs.TrialText.{sum_more}
use Rattle.dc_view.proofs.trial.words_sum.Goals as goal

pub loop-w-preserved : goal.loop-w-preserved
loop-w-preserved c =
    c.add-total.ensures ∙ ap (λ (total : List ℕ). word_add total c.w-item.result) c.loop-w.invariant
    ∙ ap (word_add (word_sum (take c.loop-w.w-index c.args.words.now))) c.w-item.is ∙ sum_more c.args.words.now c.loop-w.w-index c.w-item.result c.loop-w-test.true
