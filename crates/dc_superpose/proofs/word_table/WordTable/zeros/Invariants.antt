use Rattle.std.proofs.Common.{◌≡◌, replicate, vec_capacity}
use Rattle.dc_spec.specs.Words.{zero_word}
use Rattle.dc_superpose.proofs.word_table.WordTable.zeros.Given as goal

-- so many zero words, in the room that was taken
abbrev pub invariant-loop : goal.invariant-loop
invariant-loop l = (l.items.items ≡ replicate l.counter zero_word) × (vec_capacity l.items ≡ l.count)
