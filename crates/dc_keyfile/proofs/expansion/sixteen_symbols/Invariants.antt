use Rattle.std.proofs.Common.{◌≡◌, ℕ, ◌+◌, ◌*◌, ◌<◌, length, get_or}
use Rattle.dc_keyfile.specs.Generator.{generated_symbol}
use Rattle.dc_keyfile.proofs.expansion.sixteen_symbols.Given as goal

-- so many symbols are put, two words each
abbrev pub invariant-loop-n : goal.invariant-loop-n
invariant-loop-n l = record {
  stands : l.stream ≡ record l.initial.stream { word_pos = l.initial.stream.word_pos + 2 * l.n };
  long : length l.symbols ≡ 16;
  items : (k : ℕ) → k < l.n → get_or l.symbols k 0 ≡ generated_symbol l.initial.stream.key (l.initial.stream.word_pos + 2 * k);
}
