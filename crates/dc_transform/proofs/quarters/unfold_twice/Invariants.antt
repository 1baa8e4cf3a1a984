use Rattle.std.proofs.Common.{◌≡◌, ℕ, ◌<◌, ◌≤◌, get_or}
use Rattle.dc_transform_rules.specs.Polynomials.{sums}
use Rattle.dc_transform.specs.Halves.{difference_half}
use Rattle.dc_transform.proofs.quarters.unfold_twice.Given as goal

-- the places so far are unfolded twice, the others are as they were
abbrev pub invariant-loop-i : goal.invariant-loop-i
invariant-loop-i l =
    let v = l.initial in
    record {
      first : (k : ℕ) → k < l.i → get_or l.first k 0 ≡ get_or (sums (sums v.first v.second) (sums v.third v.fourth)) k 0;
      second : (k : ℕ) → k < l.i → get_or l.second k 0 ≡ get_or (sums (difference_half l.d v.first v.second) (difference_half l.e v.third v.fourth)) k 0;
      third : (k : ℕ) → k < l.i → get_or l.third k 0 ≡ get_or (difference_half l.c (sums v.first v.second) (sums v.third v.fourth)) k 0;
      fourth : (k : ℕ) → k < l.i → get_or l.fourth k 0 ≡ get_or (difference_half l.c (difference_half l.d v.first v.second) (difference_half l.e v.third v.fourth)) k 0;
      rest_first : (k : ℕ) → l.i ≤ k → get_or l.first k 0 ≡ get_or v.first k 0;
      rest_second : (k : ℕ) → l.i ≤ k → get_or l.second k 0 ≡ get_or v.second k 0;
      rest_third : (k : ℕ) → l.i ≤ k → get_or l.third k 0 ≡ get_or v.third k 0;
      rest_fourth : (k : ℕ) → l.i ≤ k → get_or l.fourth k 0 ≡ get_or v.fourth k 0;
    }
