use Rattle.std.proofs.Common.{◌≡◌}
use Rattle.std.specs.List.{flat_map, range_with_len}
use Rattle.dc_twin.specs.Demands.{row_of}
use Rattle.dc_twin.proofs.columns.rows_of.Given as goal

-- the rows so far
abbrev pub invariant-loop-t : goal.invariant-loop-t
invariant-loop-t l = l.words.items ≡ flat_map (row_of l.columns) (range_with_len 0 l.t)
