use Rattle.std.proofs.Common.{◌≡◌, ℕ, ◌<◌, ◌≤◌, get_or}
use Rattle.dc_transform_rules.specs.Residues.{plus, times}
use Rattle.dc_transform.proofs.halves.fold.Given as goal

-- the places so far are folded, the others are as they were
abbrev pub invariant-loop-i : goal.invariant-loop-i
invariant-loop-i l = record {
  first : (k : ℕ) → k < l.i → get_or l.left k 0 ≡ plus (get_or l.initial.left k 0) (times l.c (get_or l.initial.right k 0));
  second : (k : ℕ) → k < l.i → get_or l.right k 0 ≡ plus (get_or l.initial.left k 0) (times 65536 (times l.c (get_or l.initial.right k 0)));
  rest_left : (k : ℕ) → l.i ≤ k → get_or l.left k 0 ≡ get_or l.initial.left k 0;
  rest_right : (k : ℕ) → l.i ≤ k → get_or l.right k 0 ≡ get_or l.initial.right k 0;
}
