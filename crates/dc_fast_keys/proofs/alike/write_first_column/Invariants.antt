use Rattle.std.proofs.Common.{◌≡◌, ℕ, ◌+◌, ◌*◌, ◌<◌, length, get_or}
use Rattle.dc_fast_keys.proofs.alike.write_first_column.Given as goal

-- the rows so far
abbrev pub invariant-loop-row : goal.invariant-loop-row
invariant-loop-row l = record {
  long : length l.front ≡ length l.fn.front;
  so_far : (k : ℕ) → k < l.row → get_or l.front k 0 ≡ get_or l.block (l.width * k + 0) 0;
}
