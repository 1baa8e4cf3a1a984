use Rattle.std.proofs.Common.{◌≡◌, ◌*◌, length, take}
use Rattle.std.specs.List.{All}
use Rattle.dc_spec.specs.Words.{IsWord, IsSymbol}
use Rattle.dc_key_rules.specs.PairKeys.{symbols}
use Rattle.dc_steer.proofs.flattening.symbols_of.Given as goal

-- the symbols of the words so far, which are sixteen each
abbrev pub invariant-loop-w : goal.invariant-loop-w
invariant-loop-w l = record {
  value : l.symbols.items ≡ symbols (take l.w-index l.words);
  sixteen_each : length l.symbols.items ≡ 16 * l.w-index;
  are_symbols : All IsSymbol l.symbols.items;
  are_words : All IsWord (take l.w-index l.words);
}
