use Rattle.std.proofs.Common.{◌≡◌, ◌+◌, ◌*◌, ◌++◌, map}
use Rattle.std.specs.List.{range_with_len, flat_map}
use Rattle.dc_spec.specs.Bytes.{symbol_bytes}
use Rattle.dc_keyfile.specs.Generator.{generated_symbol}
use Rattle.dc_keyfile.proofs.direct_writing.put_symbols.Given as goal

-- so many symbols are put, two words each
abbrev pub invariant-loop : goal.invariant-loop
invariant-loop l = record {
  stands : l.stream ≡ record l.initial.stream { word_pos = l.initial.stream.word_pos + 2 * l.counter };
  put : l.bytes.items ≡ l.initial.bytes.items ++ flat_map symbol_bytes (map (λ n. generated_symbol l.initial.stream.key (l.initial.stream.word_pos + 2 * n)) (range_with_len 0 l.counter));
}
