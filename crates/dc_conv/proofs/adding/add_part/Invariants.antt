use Rattle.std.proofs.Common.{◌≡◌, ℕ, ◌+◌, ◌-◌, ◌*◌, ◌<◌, ◌≤◌, length, get_or}
use Rattle.dc_conv.specs.Mask.{products_from}
use Rattle.dc_conv.proofs.adding.add_part.Given as goal

-- the sums so far have their products, the others are as they were
abbrev pub invariant-loop-done : goal.invariant-loop-done
invariant-loop-done l = record {
  so_far : (i : ℕ) → i < l.done → get_or l.sums i 0 ≡ get_or l.initial.sums i 0 + products_from l.pads l.factors (i + 1);
  rest : (i : ℕ) → l.done ≤ i → get_or l.sums i 0 ≡ get_or l.initial.sums i 0;
  grown : (i : ℕ) → get_or l.sums i 0 ≤ get_or l.initial.sums i 0 + 4294967296 * length l.factors;
}

abbrev pub decreases-loop-done : goal.decreases-loop-done
decreases-loop-done l = length l.initial.sums - l.done
