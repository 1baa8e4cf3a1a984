use Rattle.std.proofs.Common.{◌≡◌, ◌++◌, take}
use Rattle.dc_twin.specs.Demands.{row_of}
use Rattle.dc_twin.proofs.columns.push_row.Given as goal

-- the words of the columns so far are behind those that were there
abbrev pub invariant-loop-column : goal.invariant-loop-column
invariant-loop-column l = l.words.items ≡ l.initial.words.items ++ row_of (take l.column-index l.columns) l.t
