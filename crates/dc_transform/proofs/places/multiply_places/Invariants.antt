use Rattle.std.proofs.Common.{◌≡◌, ℕ, ◌<◌, ◌≤◌, get_or}
use Rattle.dc_transform_rules.specs.Residues.{times}
use Rattle.dc_transform.proofs.places.multiply_places.Given as goal

-- the places so far are products, the others are as they were
abbrev pub invariant-loop-i : goal.invariant-loop-i
invariant-loop-i l = record {
  so_far : (k : ℕ) → k < l.i → get_or l.a k 0 ≡ times (get_or l.initial.a k 0) (get_or l.b k 0);
  rest : (k : ℕ) → l.i ≤ k → get_or l.a k 0 ≡ get_or l.initial.a k 0;
}
