use Rattle.std.proofs.Common.{◌≡◌, ℕ, ◌<◌, ◌≤◌, get_or}
use Rattle.dc_transform_rules.specs.Residues.{times}
use Rattle.dc_transform.proofs.places.negate.Given as goal

-- the places so far are multiplied, the others are as they were
abbrev pub invariant-loop-i : goal.invariant-loop-i
invariant-loop-i l = record {
  so_far : (k : ℕ) → k < l.i → get_or l.numbers k 0 ≡ times 65536 (get_or l.initial.numbers k 0);
  rest : (k : ℕ) → l.i ≤ k → get_or l.numbers k 0 ≡ get_or l.initial.numbers k 0;
}
