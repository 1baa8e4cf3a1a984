use Rattle.std.proofs.Common.{◌≡◌, ◌+◌, ◌*◌}
use Rattle.std.specs.Prelude.{vec_len, vec_capacity}
use Rattle.dc_superpose.specs.Pieces.{FirstAreSymbols, words_from}
use Rattle.dc_superpose.proofs.reading.fill_words.Given as goal

-- the words so far are those that stand there, and all numbers so far are symbols
abbrev pub invariant-loop-j : goal.invariant-loop-j
invariant-loop-j l = record {
  read : l.words.items ≡ words_from l.b l.first l.j;
  len : vec_len l.words ≡ l.j;
  room : vec_capacity l.words ≡ vec_capacity l.fn.words;
  good : FirstAreSymbols l.b (16 * (l.first + l.j));
}
