-- There is just one steering: what is asked of it fixes each change.
use Rattle.std.proofs.Common.{◌≡◌, ℕ, zero, suc, ◌+◌, ◌-◌, ◌*◌, ◌/◌, ◌%◌, ◌<◌, ◌≤◌, ◌≢◌, cond, nat_eq, List, length, take, slice_index, sum_by, refl, sym, ◌∙◌, ap, inl, inr, arith, eq-or-lt_of_le, le_of_suc-le-suc, zero-le}
use Rattle.std.proofs.lemmas.List.{ext_get_or, get_or-take, length-take}
use Rattle.std.proofs.lemmas.List.FromFn.{fill_by_all}
use Rattle.std.proofs.lemmas.Nat.{mul-mod_first, mul-mod_second}
use Rattle.std.specs.List.{range_with_len}
use Rattle.dc_spec.specs.Symbols.{AreSymbols, symbol_sub, symbol_inverse}
use Rattle.dc_steering_rules.specs.Steerings.{first_difference, steered_from, difference_at, steered_symbol, IsSteering, gained_symbol, second_changes, first_change, first_changes}
use Rattle.dc_spec.proofs.ListLemmas.{below_range}
use Rattle.dc_spec.proofs.SumLemmas.{sum_by-same, sum_by-plus, sum_by-single}
use Rattle.dc_spec.proofs.InverseLemmas.{inverse-inverts}
use Rattle.dc_steering_rules.proofs.SteeringLemmas.{below_or_past, some_difference, symbol-below, split_at, in_reach, before_round, computed-steers}

-- a product divided by one factor is the other
quotient : (s d : ℕ) → s < 65537 → 0 < d → d < 65537 → (s * d % 65537 * symbol_inverse d) % 65537 ≡ s
quotient s d low some high =
    let turned : s * d * symbol_inverse d ≡ s * (d * symbol_inverse d) = omega arith in
    let unit = inverse-inverts d some high in
    mul-mod_first (s * d) (symbol_inverse d) 65537 ∙ ap (λ z. z % 65537) turned ∙ sym (mul-mod_second s (d * symbol_inverse d) 65537) ∙ ap (λ u. (s * u) % 65537) unit ∙ unchanged s low
  where
    unchanged : (s : ℕ) → s < 65537 → s * 1 % 65537 ≡ s
    unchanged s low = omega arith

-- two changes that complete the same sum are the same
same_factor : (a b d : ℕ) → a < 65537 → b < 65537 → 0 < d → d < 65537 → a * d % 65537 ≡ b * d % 65537 → a ≡ b
same_factor a b d low_a low_b some high same = sym (quotient a d low_a some high) ∙ ap (λ z. (z * symbol_inverse d) % 65537) same ∙ quotient b d low_b some high

same_rest : (k x y : ℕ) → (k + x) % 65537 ≡ (k + y) % 65537 → x % 65537 ≡ y % 65537
same_rest k x y same = omega arith

-- what the changes add at a symbol, of which those before one place are known
added : (cu cv y known : List ℕ) (n j : ℕ) → AreSymbols cu → j + first_difference cu cv ≡ n → steered_from (first_difference cu cv) ≤ n → length known ≡ j
    → ((i : ℕ) → i < j → slice_index y i ≡ slice_index known i) →
    steered_symbol cu cv y n ≡ (sum_by (λ k. slice_index known (n - k) * difference_at cu cv k) (range_with_len 0 (16 * (n / 16))) + slice_index y j * difference_at cu cv
    (first_difference cu cv)) % 65537
added cu cv y known n j good is from count same =
    let p = first_difference cu cv in
    let reach = in_reach p n from in
    let numbers = range_with_len 0 (16 * (n / 16)) in
    let change = slice_index y j * difference_at cu cv p in
    ap (λ s. s % 65537) (sum_by-same (λ k. slice_index y (n - k) * difference_at cu cv k) (λ k. slice_index known (n - k) * difference_at cu cv k + cond (nat_eq k p) change 0) numbers
    (λ k there. split_at cu cv y known n j k good is (before_round n k (below_range 0 (16 * (n / 16)) k there)) count same)
    ∙ sum_by-plus (λ k. slice_index known (n - k) * difference_at cu cv k) (λ k. cond (nat_eq k p) change 0) numbers
    ∙ ap (λ s. sum_by (λ k. slice_index known (n - k) * difference_at cu cv k) numbers + s) (sum_by-single (λ k. change) 0 (16 * (n / 16)) p zero-le (omega arith)))

-- two steerings have the same change of second pads at a place, where they have the same at each place before it
same_at : (cu cv e x y x' y' : List ℕ) (count m : ℕ) → AreSymbols cu → AreSymbols cv → slice_index cu (first_difference cu cv) ≢ slice_index cv (first_difference cu cv) →
    IsSteering cu cv e count x y → IsSteering cu cv e count x' y' → m < count → ((i : ℕ) → i < m → slice_index y i ≡ slice_index y' i) → slice_index y m ≡ slice_index y' m
same_at cu cv e x y x' y' count m good_u good_v differ s s' within before =
    let p = first_difference cu cv in
    elim (below_or_past (m + p) (steered_from p)) [
      | inl early ↦ s.early m early ∙ sym (s'.early m early)
      | inr from ↦ elim (below_or_past (m + p) count) [
        | inr late ↦ s.late m late ∙ sym (s'.late m late)
        | inl reached ↦ (let known = take m y in
            let places : length known ≡ m = omega (arith, length-take m y, s.second.many) in
            let first = added cu cv y known (m + p) m good_u refl from places (λ k lt. sym (get_or-take m y k 0 lt)) in
            let second = added cu cv y' known (m + p) m good_u refl from places (λ k lt. sym (before k lt) ∙ sym (get_or-take m y k 0 lt)) in
            same_factor (slice_index y m) (slice_index y' m) (difference_at cu cv p) (s.second.are_symbols m) (s'.second.are_symbols m)
            (some_difference (slice_index cu p) (slice_index cv p) (good_u p) (good_v p) differ) (symbol-below (slice_index cu p) (slice_index cv p))
            (same_rest (sum_by (λ k. slice_index known (m + p - k) * difference_at cu cv k) (range_with_len 0 (16 * ((m + p) / 16)))) (slice_index y m * difference_at cu cv p)
            (slice_index y' m * difference_at cu cv p)
            (sym first ∙ s.wanted (m + p) from reached ∙ sym (s'.wanted (m + p) from reached) ∙ second)))
      ]
    ]

-- and so at all places
same_below : (cu cv e x y x' y' : List ℕ) (count : ℕ) → AreSymbols cu → AreSymbols cv → slice_index cu (first_difference cu cv) ≢ slice_index cv (first_difference cu cv) →
    IsSteering cu cv e count x y → IsSteering cu cv e count x' y' → (m i : ℕ) → i < m → m ≤ count → slice_index y i ≡ slice_index y' i
same_below cu cv e x y x' y' count good_u good_v differ s s' zero i low within = absurd (omega arith)
same_below cu cv e x y x' y' count good_u good_v differ s s' (suc m) i low within =
    let before : (k : ℕ) → k < m → slice_index y k ≡ slice_index y' k = λ k lt. same_below cu cv e x y x' y' count good_u good_v differ s s' m k lt (omega arith) in
    elim (eq-or-lt_of_le low) [
      | inl last ↦ (let is : i ≡ m = omega arith in ap (λ z. slice_index y z) is ∙ same_at cu cv e x y x' y' count m good_u good_v differ s s' (omega arith) before
          ∙ ap (λ z. slice_index y' z) (sym is))
      | inr less ↦ before i (le_of_suc-le-suc less)
    ]

-- the change of a first pad is what the second pads leave
left_over : (x g : ℕ) → x < 65537 → g < 65537 → (x + g) % 65537 ≡ 0 → x ≡ symbol_sub 0 g
left_over x g low_x low_g none = omega arith

-- a steering is the computed changes
pub steering_is_computed : (cu cv e : List ℕ) (count : ℕ) → AreSymbols cu → AreSymbols cv → AreSymbols e → slice_index cu (first_difference cu cv) ≢ slice_index cv (first_difference cu cv)
    → (x y : List ℕ) → IsSteering cu cv e count x y →
    (y ≡ second_changes cu cv e count) × (x ≡ first_changes cu (second_changes cu cv e count) count)
steering_is_computed cu cv e count good_u good_v good_e differ x y s =
    let z = second_changes cu cv e count in
    let s' = computed-steers cu cv e count good_u good_v good_e differ in
    let same : y ≡ z = ext_get_or 0 y z (s.second.many ∙ sym s'.second.many) (λ i lt. same_below cu cv e x y (first_changes cu z count) z count good_u good_v differ s s' count i
    (omega (arith, s.second.many)) (omega arith)) in (
      same,
      fill_by_all (first_change cu z) x count 0 s.first.many (λ k lt. left_over (slice_index x k) (gained_symbol cu y k) (s.first.are_symbols k)
          (below (sum_by (λ i. slice_index y (k - i) * slice_index cu i) (range_with_len 0 (16 * (k / 16))))) (s.kept k lt) ∙ ap (λ w. first_change cu w k) same),
    )
  where
    below : (t : ℕ) → t % 65537 < 65537
    below t = omega arith
