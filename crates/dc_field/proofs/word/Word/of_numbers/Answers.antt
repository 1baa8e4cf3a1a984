use Rattle.std.proofs.Common.{rules}
use Rattle.dc_field.proofs.FirstAbove.{IsWord-from_position}
use Rattle.dc_field.proofs.word.Word.of_numbers.Goals as goal

pub invariant_of-result : goal.invariant_of-result
invariant_of-result c = IsWord-from_position c.args.symbols (search rules) c.in-None.ensures
