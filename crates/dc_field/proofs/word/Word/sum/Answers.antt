use Rattle.std.proofs.Common.{ℕ, List, ◌%◌, ap, ◌∙◌, sum_by, get_or, arith}
use Rattle.std.proofs.lemmas.List.{take_all}
use Rattle.dc_spec.proofs.WordLemmas.{word_of-same}
use Rattle.dc_field.proofs.word.Word.sum.Goals as goal

pub returns : goal.returns
returns c =
    c.reduced.ensures ∙ word_of-same _ _ (λ k lt. ap (λ (n : ℕ). n % 65537) (c.loop-w.invariant.0 k lt ∙ ap (λ (ws : List (List ℕ)). sum_by (λ w. get_or w k 0) ws) (take_all c.loop-w.w-index c.args.words.now (omega arith))))
