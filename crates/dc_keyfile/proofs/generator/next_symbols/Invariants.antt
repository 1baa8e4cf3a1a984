use Rattle.std.proofs.Common.{◌≡◌, ◌+◌, ◌*◌, map, All}
use Rattle.std.specs.List.{range_with_len}
use Rattle.dc_spec.specs.Words.{IsSymbol}
use Rattle.dc_keyfile.specs.Generator.{generated_symbol}
use Rattle.dc_keyfile.proofs.generator.next_symbols.Given as goal

-- so many symbols are taken, two words each
abbrev pub invariant-loop : goal.invariant-loop
invariant-loop l = record {
  stands : l.stream ≡ record l.initial.stream { word_pos = l.initial.stream.word_pos + 2 * l.counter };
  items : l.symbols.items ≡ map (λ n. generated_symbol l.initial.stream.key (l.initial.stream.word_pos + 2 * n)) (range_with_len 0 l.counter);
  symbols : All IsSymbol l.symbols.items;
}
