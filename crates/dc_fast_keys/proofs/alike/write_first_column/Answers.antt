use Rattle.std.proofs.Common.{◌+◌, ◌*◌, length, get_or, arith}
use Rattle.std.proofs.lemmas.List.FromFn.{fill_by_all}
use Rattle.dc_fast_keys.proofs.alike.write_first_column.Goals as goal

pub returns-clause-value : goal.returns-clause-value
returns-clause-value c = fill_by_all (λ k. get_or c.args.block.now (c.args.width * k + 0) 0) c.loop-row.front (length c.args.front.now) 0 c.loop-row.invariant.long
    (λ k lt. c.loop-row.invariant.so_far k (omega arith))
