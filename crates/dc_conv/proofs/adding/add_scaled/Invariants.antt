use Rattle.std.proofs.Common.{◌≡◌, ℕ, ◌+◌, ◌*◌, ◌<◌, ◌≤◌, get_or}
use Rattle.dc_conv.proofs.adding.add_scaled.Given as goal

-- the totals below the place have their product, the others are as they were
abbrev pub invariant-loop-l : goal.invariant-loop-l
invariant-loop-l l = record {
  so_far : (k : ℕ) → k < l.l → get_or l.totals k 0 ≡ get_or l.initial.totals k 0 + get_or l.pads k 0 * l.factor;
  rest : (k : ℕ) → l.l ≤ k → get_or l.totals k 0 ≡ get_or l.initial.totals k 0;
  grown : (k : ℕ) → get_or l.totals k 0 ≤ get_or l.initial.totals k 0 + 4294967296;
}
