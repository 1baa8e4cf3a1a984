use Rattle.std.proofs.Common.{ℕ, ◌%◌, ap, ◌∙◌}
use Rattle.dc_spec.proofs.WordLemmas.{word_of-same}
use Rattle.dc_field.proofs.word.Word.add.Goals as goal

pub returns : goal.returns
returns c = rw (← c.self.view_is) (c.reduced.ensures ∙ word_of-same _ _ (λ k lt. ap (λ (n : ℕ). n % 65537) (c.add_to.ensures.added k lt)))
