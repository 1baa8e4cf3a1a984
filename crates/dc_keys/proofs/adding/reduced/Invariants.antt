use Rattle.std.proofs.Common.{◌≡◌, ℕ, ◌%◌, ◌<◌, length, get_or}
use Rattle.dc_keys.proofs.adding.reduced.Given as goal

-- the symbols so far are the totals modulo 65537
abbrev pub invariant-loop-l : goal.invariant-loop-l
invariant-loop-l l =
    (length l.word ≡ 16) × ((k : ℕ) → k < l.l → get_or l.word k 0 ≡ get_or l.totals k 0 % 65537)
