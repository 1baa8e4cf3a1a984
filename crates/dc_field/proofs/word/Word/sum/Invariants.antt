use Rattle.std.proofs.Common.{◌≡◌, ℕ, ◌*◌, ◌<◌, ◌≤◌, take, get_or, sum_by}
use Rattle.dc_field.proofs.word.Word.sum.Given as goal

-- each total is the sum over the words so far, and at most 65536 for each of them
abbrev pub invariant-loop-w : goal.invariant-loop-w
invariant-loop-w l =
    ((k : ℕ) → k < 16 → get_or l.totals k 0 ≡ sum_by (λ w. get_or w k 0) (take l.w-index l.words))
    × ((k : ℕ) → get_or l.totals k 0 ≤ 65536 * l.w-index)
