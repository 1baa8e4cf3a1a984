use Rattle.std.proofs.Common.{◌≡◌, ℕ, ◌-◌, ◌<◌, get_or}
use Rattle.dc_conv.proofs.adding.turn.Given as goal

-- the places so far have the symbols in the other order
abbrev pub invariant-loop-l : goal.invariant-loop-l
invariant-loop-l l = record {
  so_far : (k : ℕ) → k < l.l → get_or l.places k 0 ≡ get_or l.numbers (15 - k) 0;
}
