use Rattle.std.proofs.Common.{subst, All, ◌≤◌}
use Rattle.dc_field.proofs.WordText.{none_there}
use Rattle.dc_field.proofs.word_from_text.first_no_digit.Goals as goal

pub returns-then-greatest-lt16 : goal.returns-then-greatest-lt16
returns-then-greatest-lt16 c =
    none_there c.args.b.now c.greatest.result (subst (All (λ d. d ≤ c.greatest.result)) c.requires c.greatest.ensures) c.if-greatest-lt16.true
