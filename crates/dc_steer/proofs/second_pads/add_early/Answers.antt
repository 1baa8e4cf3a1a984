use Rattle.std.proofs.Common.{◌≡◌, ◌≢◌, ℕ, ◌%◌, ◌<◌, length, get_or-set_other, get_or-set_same, ap, inl, inr, arith}
use Rattle.std.proofs.lemmas.Bool.{cases_lt}
use Rattle.dc_steer.proofs.second_pads.add_early.Goals as goal
use Rattle.dc_steer.proofs.second_pads.add_early.Goals.{then-n-j, else-n-j}

pub loop-n-preserved : goal.loop-n-preserved
loop-n-preserved c =
    let all = c.loop-n.invariant in
    let n = c.loop-n.n in
    let lt : n < length c.loop-n.sums = omega arith in
    elim c.if-n-j.branch [
      | then-n-j w ↦ rw w.sums-is (record {
        before = λ k less. let ne : k ≢ n = omega arith in rw get_or-set_other (all.before k less);
        same_round = λ k off. let ne : k ≢ n = (λ e. let at : k % 16 ≡ n % 16 = ap (λ (i : ℕ). i % 16) e in omega (arith, at, w.if-n-j.true)) in rw get_or-set_other (all.same_round k off);
        so_far = λ k acts le within. elim (cases_lt k n) [
          | inl less ↦ let ne : k ≢ n = omega arith in rw get_or-set_other (all.so_far k acts le less)
          | inr past ↦ let at : k ≡ n = omega arith in rw (at, get_or-set_same) (omega (arith, all.rest n (omega arith), w.product.ensures.value))
        ];
        rest = λ k le. let ne : k ≢ n = omega arith in rw get_or-set_other (all.rest k (omega arith));
        grown = λ k. elim (cases_lt k n) [
          | inl less ↦ let ne : k ≢ n = omega arith in rw get_or-set_other (all.grown k)
          | inr past ↦ elim (cases_lt n k) [
            | inl more ↦ let ne : k ≢ n = omega arith in rw get_or-set_other (all.grown k)
            | inr here ↦ let at : k ≡ n = omega arith in rw (at, get_or-set_same) (omega (arith, all.rest n (omega arith), w.product.ensures.small))
          ]
        ];
      })
      | else-n-j w ↦ rw w.sums-is (record {
        before = all.before;
        same_round = all.same_round;
        so_far = λ k acts le within. elim (cases_lt k n) [
          | inl less ↦ all.so_far k acts le less
          | inr past ↦ absurd (let at : k ≡ n = omega arith in let same : k % 16 ≡ n % 16 = ap (λ (i : ℕ). i % 16) at in omega (arith, same, w.if-n-j.false, acts))
        ];
        rest = λ k le. all.rest k (omega arith);
        grown = all.grown;
      })
    ]
