use Rattle.std.proofs.Common.{◌≡◌, take}
use Rattle.dc_script.specs.Rules.{with_terms}
use Rattle.dc_script.proofs.rule.with_terms.Given as goal

-- the terms so far are added
abbrev pub invariant-loop-term : goal.invariant-loop-term
invariant-loop-term l = l.word ≡ with_terms l.fn.constant (take l.term-index l.terms) l.words l.n
