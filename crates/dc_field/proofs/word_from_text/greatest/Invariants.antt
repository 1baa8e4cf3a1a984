use Rattle.std.proofs.Common.{ℕ, ◌<◌, ◌≤◌, get_or}
use Rattle.dc_field.proofs.word_from_text.greatest.Given as goal

-- none of the counts so far is greater
abbrev pub invariant-loop-d : goal.invariant-loop-d
invariant-loop-d l = (k : ℕ) → k < l.d-index → get_or l.digits k 0 ≤ l.most
