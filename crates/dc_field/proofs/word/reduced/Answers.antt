use Rattle.std.proofs.Common.{◌%◌, get_or, arith, rules}
use Rattle.dc_spec.proofs.WordLemmas.{word_from_symbols, IsWord-word_of}
use Rattle.dc_field.proofs.word.reduced.Goals as goal

pub invariant_of-result : goal.invariant_of-result
invariant_of-result c =
    let is = word_from_symbols (λ l. get_or c.args.totals.now l 0 % 65537) c.loop-l.symbols c.loop-l.invariant.0 (search rules) in
    rw is (IsWord-word_of (λ l. get_or c.args.totals.now l 0 % 65537) (λ k lt. omega arith))

pub returns : goal.returns
returns c = word_from_symbols _ c.loop-l.symbols c.loop-l.invariant.0 (search rules)
