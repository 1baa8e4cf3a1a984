use Rattle.std.proofs.Common.{◌+◌, ◌*◌, arith}
use Rattle.std.proofs.lemmas.List.FromFn.{fill_by_all}
use Rattle.dc_keyfile.specs.Generator.{generated_symbol}
use Rattle.dc_keyfile.proofs.expansion.sixteen_symbols.Goals as goal

pub returns : goal.returns
returns c =
    fill_by_all (λ n. generated_symbol c.args.stream.now.key (c.args.stream.now.word_pos + 2 * n)) c.loop-n.symbols 16 0 c.loop-n.invariant.long (λ k lt. c.loop-n.invariant.items k (omega arith))
