use Rattle.std.proofs.Common.{◌≡◌}
use Rattle.dc_twin.specs.Demands.{words_at}
use Rattle.dc_twin.proofs.columns.words_at.Given as goal

-- the words of the rows so far
abbrev pub invariant-loop-t : goal.invariant-loop-t
invariant-loop-t l = l.column.items ≡ words_at l.t l.count l.place l.words
