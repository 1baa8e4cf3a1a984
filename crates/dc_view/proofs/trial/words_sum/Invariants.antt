use Rattle.std.proofs.Common.{◌≡◌, take}
use Rattle.dc_spec.specs.Words.{word_sum}
use Rattle.dc_view.proofs.trial.words_sum.Given as goal

-- the words so far are added
abbrev pub invariant-loop-w : goal.invariant-loop-w
invariant-loop-w l = l.total ≡ word_sum (take l.w-index l.words)
