-- Sums of products that grow by one received symbol, or by one change.
use Rattle.std.proofs.Common.{◌≡◌, ◌≢◌, ℕ, ◌+◌, ◌-◌, ◌*◌, ◌/◌, ◌%◌, ◌<◌, ◌≤◌, min, cond, List, [], ◌∷◌, ◌++◌, length, get_or, sum_by, nat_eq, replicate, refl, sym, ap, ◌∙◌, arith, inl, inr, zero-le, eqb-true}
use Rattle.std.specs.List.{range_with_len}
use Rattle.std.proofs.Math.ListN.{get_or-eq_default}
use Rattle.std.proofs.Math.Seq.{get_or-append_seam, get_or-append_right}
use Rattle.std.proofs.lemmas.Bool.{cases_lt, cases_Bool, eqb-false}
use Rattle.std.proofs.lemmas.List.{get_or_append_left, length-append, length-replicate}
use Rattle.dc_spec.proofs.SumLemmas.{sum_by-plus, sum_by-single, sum_by-zero}
use Rattle.dc_steer.proofs.RangeSums.{sum_to-more, sum_to-same}

-- with one received symbol more
pub received_more : (y cu : List ℕ) (n k was now : ℕ) → (16 * (k / 16 + 1) ≤ n → now ≡ was + get_or y (n - k) 0 * get_or cu k 0)
    → (n < 16 * (k / 16 + 1) → now ≡ was) → was ≡ sum_by (λ i. get_or y (n - i) 0 * get_or cu i 0) (range_with_len 0 (min k (16 * (n / 16))))
    → now ≡ sum_by (λ i. get_or y (n - i) 0 * get_or cu i 0) (range_with_len 0 (min (k + 1) (16 * (n / 16))))
received_more y cu n k was now later before is =
    let f : ℕ → ℕ = λ i. get_or y (n - i) 0 * get_or cu i 0 in
    elim (cases_lt k (16 * (n / 16))) [
      | inl lt ↦
          let here : min k (16 * (n / 16)) ≡ k = omega arith in
          let next : min (k + 1) (16 * (n / 16)) ≡ k + 1 = omega arith in
          let so_far : was ≡ sum_by f (range_with_len 0 k) = is ∙ ap (λ (m : ℕ). sum_by f (range_with_len 0 m)) here in
          let due : now ≡ sum_by f (range_with_len 0 (k + 1)) = omega (arith, later (omega arith), so_far, sum_to-more f k) in
          due ∙ ap (λ (m : ℕ). sum_by f (range_with_len 0 m)) (sym next)
      | inr le ↦
          let same : min k (16 * (n / 16)) ≡ min (k + 1) (16 * (n / 16)) = omega arith in
          before (omega arith) ∙ is ∙ ap (λ (m : ℕ). sum_by f (range_with_len 0 m)) same
    ]

-- with all of them, each symbol has those of the rounds before its own
pub received_all : (y cu : List ℕ) (n k was : ℕ) → n < k → was ≡ sum_by (λ i. get_or y (n - i) 0 * get_or cu i 0) (range_with_len 0 (min k (16 * (n / 16))))
    → was % 65537 ≡ sum_by (λ i. get_or y (n - i) 0 * get_or cu i 0) (range_with_len 0 (16 * (n / 16))) % 65537
received_all y cu n k was lt is =
    let all : min k (16 * (n / 16)) ≡ 16 * (n / 16) = omega arith in
    ap (λ (s : ℕ). s % 65537) (is ∙ ap (λ (m : ℕ). sum_by (λ i. get_or y (n - i) 0 * get_or cu i 0) (range_with_len 0 m)) all)

-- with one change more, where it does not act
pub change_none : (known : List ℕ) (d : ℕ → ℕ) (c n j : ℕ) → length known ≡ j → (j ≤ n → j ≤ n % 16)
    → sum_by (λ k. get_or (known ++ c ∷ []) (n - k) 0 * d k) (range_with_len 0 (16 * (n / 16))) ≡ sum_by (λ k. get_or known (n - k) 0 * d k) (range_with_len 0 (16 * (n / 16)))
change_none known d c n j long off =
    sum_to-same (λ k. get_or (known ++ c ∷ []) (n - k) 0 * d k) (λ k. get_or known (n - k) 0 * d k) (16 * (n / 16)) (λ k lt.
    ap (λ (x : ℕ). x * d k) (elim (cases_lt (n - k) j) [
      | inl less ↦ get_or_append_left known (c ∷ []) 0 (n - k) (omega arith)
      | inr le ↦ get_or-eq_default (known ++ c ∷ []) 0 (omega (arith, length-append known (c ∷ []))) ∙ sym (get_or-eq_default known 0 (omega arith))
    ]))

-- at one place the new change counts, at every other the known ones
at_place : (known : List ℕ) (d : ℕ → ℕ) (c n j k : ℕ) → length known ≡ j → j ≤ n → k ≤ n
    → get_or (known ++ c ∷ []) (n - k) 0 * d k ≡ get_or known (n - k) 0 * d k + cond (nat_eq k (n - j)) (c * d (n - j)) 0
at_place known d c n j k long le within = elim (cases_Bool (nat_eq k (n - j))) [
  | inl equal ↦ (let is : k ≡ n - j = eqb-true k (n - j) equal in
      let at : n - k ≡ length known = omega arith in
      let new : get_or (known ++ c ∷ []) (n - k) 0 ≡ c = ap (λ (i : ℕ). get_or (known ++ c ∷ []) i 0) at ∙ get_or-append_seam known c [] 0 in
      let old : get_or known (n - k) 0 ≡ 0 = get_or-eq_default known 0 (omega arith) in
      let left : get_or (known ++ c ∷ []) (n - k) 0 * d k ≡ c * d (n - j) = rw (new, is) refl in
      let right : get_or known (n - k) 0 * d k ≡ 0 = rw old (omega arith) in
      rw equal (omega (arith, left, right)))
  | inr other ↦ (let ne : k ≢ n - j = eqb-false k (n - j) other in
      let same : get_or (known ++ c ∷ []) (n - k) 0 ≡ get_or known (n - k) 0 = elim (cases_lt (n - k) j) [
        | inl less ↦ get_or_append_left known (c ∷ []) 0 (n - k) (omega arith)
        | inr past ↦ get_or-eq_default (known ++ c ∷ []) 0 (omega (arith, length-append known (c ∷ []))) ∙ sym (get_or-eq_default known 0 (omega arith))
      ] in
      let both : get_or (known ++ c ∷ []) (n - k) 0 * d k ≡ get_or known (n - k) 0 * d k = ap (λ (x : ℕ). x * d k) same in
      rw other (omega (arith, both)))
]

-- with one change more, where it acts
pub change_more : (known : List ℕ) (d : ℕ → ℕ) (c n j : ℕ) → length known ≡ j → j ≤ n → n % 16 < j
    → sum_by (λ k. get_or (known ++ c ∷ []) (n - k) 0 * d k) (range_with_len 0 (16 * (n / 16))) ≡ sum_by (λ k. get_or known (n - k) 0 * d k) (range_with_len 0 (16 * (n / 16))) + c * d (n - j)
change_more known d c n j long le acts =
    let numbers = range_with_len 0 (16 * (n / 16)) in
    sum_to-same (λ k. get_or (known ++ c ∷ []) (n - k) 0 * d k) (λ k. get_or known (n - k) 0 * d k + cond (nat_eq k (n - j)) (c * d (n - j)) 0) (16 * (n / 16))
    (λ k lt. at_place known d c n j k long le (omega arith))
    ∙ sum_by-plus (λ k. get_or known (n - k) 0 * d k) (λ k. cond (nat_eq k (n - j)) (c * d (n - j)) 0) numbers
    ∙ ap (λ (s : ℕ). sum_by (λ k. get_or known (n - k) 0 * d k) numbers + s) (sum_by-single (λ k. c * d (n - j)) 0 (16 * (n / 16)) (n - j) zero-le (omega arith))

-- a sum after one change more, in all cases
pub sum_after : (known : List ℕ) (d : ℕ → ℕ) (c n j was now : ℕ) → length known ≡ j → (n % 16 < j → n < j → now ≡ was) → (j ≤ n % 16 → now ≡ was)
    → (n % 16 < j → j ≤ n → now ≡ was + d (n - j) * c) → was ≡ sum_by (λ k. get_or known (n - k) 0 * d k) (range_with_len 0 (16 * (n / 16)))
    → now ≡ sum_by (λ k. get_or (known ++ c ∷ []) (n - k) 0 * d k) (range_with_len 0 (16 * (n / 16)))
sum_after known d c n j was now long past off on is = elim (cases_lt (n % 16) j) [
  | inr le ↦ off le ∙ is ∙ sym (change_none known d c n j long (λ h. le))
  | inl acts ↦ elim (cases_lt n j) [
    | inl less ↦ past acts less ∙ is ∙ sym (change_none known d c n j long (λ h. absurd (omega arith)))
    | inr le ↦ (let turned : d (n - j) * c ≡ c * d (n - j) = omega arith in
        let more = change_more known d c n j long le acts in
        omega (arith, on acts le, is, turned, more))
  ]
]

-- the sum of no changes
pub no_changes : (d : ℕ → ℕ) (n m : ℕ) → 0 ≡ sum_by (λ k. get_or [] (n - k) 0 * d k) (range_with_len 0 m)
no_changes d n m = sym (sum_to-same (λ k. get_or [] (n - k) 0 * d k) (λ k. 0) m (λ k lt. nothing (get_or [] (n - k) 0) (d k) (get_or-eq_default [] 0 {n = n - k} zero-le)) ∙ sum_by-zero (range_with_len 0 m))
  where
    nothing : (x y : ℕ) → x ≡ 0 → x * y ≡ 0
    nothing x y none = rw none (omega arith)

-- what is wanted after the round of the first difference
pub wanted_later : (wanted : List ℕ) (from n : ℕ) → from ≤ n → get_or (replicate from 0 ++ wanted) n 0 ≡ get_or wanted (n - from) 0
wanted_later wanted from n le =
    let long : length (replicate from 0) ≡ from = length-replicate from 0 in
    get_or-append_right (replicate from 0) wanted n 0 (rw long le) ∙ ap (λ (i : ℕ). get_or wanted (n - i) 0) long
