use Rattle.std.proofs.Common.{◌≡◌, ℕ, ◌+◌, ◌*◌, ◌<◌, length, get_or}
use Rattle.dc_fast_keys.proofs.rows.read_word.Given as goal

-- the numbers so far
abbrev pub invariant-loop-l : goal.invariant-loop-l
invariant-loop-l l = record {
  long : length l.totals ≡ 16;
  so_far : (k : ℕ) → k < l.l → get_or l.totals k 0 ≡ get_or l.rows (l.width * k + l.column) 0;
}
