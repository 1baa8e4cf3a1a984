-- The computed changes of pads are a steering.
use Rattle.std.proofs.Common.{◌≡◌, ℕ, Bool, zero, suc, ◌+◌, ◌-◌, ◌*◌, ◌/◌, ◌%◌, ◌<◌, ◌≤◌, ◌≢◌, true, false, cond, ◌||◌, ◌⊎◌, if◌then◌else◌, List, [], ◌∷◌, ◌++◌, length, slice_index, sum_by, nat_eq, nat_lt, nat_le, refl, sym, ◌∙◌, ap, ap₂, mul-zero, zero-mul, inl, inr, arith, ltb-true, ltb-false, lt-ltb, le-ltb, le-leb, eqb-true, length-append, eq-or-lt_of_le, le_of_suc-le-suc, zero-le}
use Rattle.std.proofs.Math.ListN.{get_or-eq_default}
use Rattle.std.proofs.lemmas.List.{get_or_append_left}
use Rattle.std.proofs.lemmas.List.FromFn.{get_or-map-range_with_len, length-map-range_with_len}
use Rattle.std.proofs.Math.Seq.{get_or-append_seam}
use Rattle.std.proofs.lemmas.Bool.{eqb-false, lt-leb, cases_Bool}
use Rattle.std.proofs.lemmas.Nat.{mul-mod_first, mul-mod_second}
use Rattle.std.specs.List.{range_with_len}
use Rattle.dc_spec.specs.Symbols.{AreSymbols, symbol_sub, symbol_inverse}
use Rattle.dc_steering_rules.specs.Steerings.{first_difference, steered_from, difference_at, steered_symbol, IsSteering, gained_symbol, next_change, changes_up_to, second_changes, first_change, first_changes}
use Rattle.dc_spec.proofs.Booleans.{or_first, or_second}
use Rattle.dc_spec.proofs.ListLemmas.{below_range}
use Rattle.dc_spec.proofs.SumLemmas.{sum_by-same, sum_by-plus, sum_by-single}
use Rattle.dc_spec.proofs.InverseLemmas.{inverse-inverts}

-- before the first difference both lists agree
pub agree_before : (xs ys : List ℕ) (k : ℕ) → k < first_difference xs ys → slice_index xs k ≡ slice_index ys k
agree_before [] ys k low = absurd (omega arith)
agree_before (x ∷ xs) [] k low = absurd (omega arith)
agree_before (x ∷ xs) (y ∷ ys) k low = (elim (nat_eq x y) as (λ b. nat_eq x y ≡ b → k < cond b (1 + first_difference xs ys) 0 → slice_index (x ∷ xs) k ≡ slice_index (y ∷ ys) k) [
  | true ↦ λ e less. agree_on x y xs ys k (eqb-true x y e) (λ i j. agree_before xs ys i (omega arith)) less
  | false ↦ λ e less. absurd (omega arith)
]) refl low
  where
    agree_on : (x y : ℕ) (xs ys : List ℕ) (k : ℕ) → x ≡ y → ((i : ℕ) → suc i ≡ k → slice_index xs i ≡ slice_index ys i) → k < 1 + first_difference xs ys → slice_index (x ∷ xs) k
        ≡ slice_index (y ∷ ys) k
    agree_on x y xs ys zero e rest less = e
    agree_on x y xs ys (suc i) e rest less = rest i refl

-- the change at a place, from those before it
abbrev change_at : List ℕ → List ℕ → List ℕ → ℕ → ℕ → ℕ
change_at cu cv e count j = if nat_lt (j + first_difference cu cv) (steered_from (first_difference cu cv)) || nat_le count (j + first_difference cu cv) then 0 else next_change cu cv e
    (changes_up_to cu cv e count j)

-- so many changes are known after so many places
length-changes : (cu cv e : List ℕ) (count j : ℕ) → length (changes_up_to cu cv e count j) ≡ j
unfolding changes_up_to
length-changes cu cv e count zero = refl
length-changes cu cv e count (suc j) =
    let ih = length-changes cu cv e count j in
    let more = length-append (changes_up_to cu cv e count j) (change_at cu cv e count j ∷ []) in
    omega arith

-- later places leave the earlier changes as they are
changes_kept : (cu cv e : List ℕ) (count m j i : ℕ) → i < j → j ≤ m → slice_index (changes_up_to cu cv e count m) i ≡ slice_index (changes_up_to cu cv e count j) i
unfolding changes_up_to
changes_kept cu cv e count zero j i low within = absurd (omega arith)
changes_kept cu cv e count (suc m) j i low within = elim (eq-or-lt_of_le within) [
  | inl last ↦ ap (λ z. slice_index (changes_up_to cu cv e count z) i) (sym last)
  | inr less ↦ (let known = length-changes cu cv e count m in
      get_or_append_left (changes_up_to cu cv e count m) (change_at cu cv e count m ∷ []) 0 i (omega arith) ∙ changes_kept cu cv e count m j i low (le_of_suc-le-suc less))
]

-- the change that was put last
last_change : (cu cv e : List ℕ) (count j : ℕ) → slice_index (changes_up_to cu cv e count (suc j)) j ≡ change_at cu cv e count j
unfolding changes_up_to
last_change cu cv e count j =
    ap (λ z. slice_index (changes_up_to cu cv e count j ++ change_at cu cv e count j ∷ []) z) (sym (length-changes cu cv e count j))
    ∙ get_or-append_seam (changes_up_to cu cv e count j) (change_at cu cv e count j) [] 0

-- the change at a place is the one computed there
change_is : (cu cv e : List ℕ) (count j : ℕ) → j < count → slice_index (second_changes cu cv e count) j ≡ change_at cu cv e count j
change_is cu cv e count j low = changes_kept cu cv e count count (suc j) j (omega arith) (omega arith) ∙ last_change cu cv e count j

-- past the session's end there is no change
no_change_past : (cu cv e : List ℕ) (count j : ℕ) → count ≤ j → slice_index (second_changes cu cv e count) j ≡ 0
no_change_past cu cv e count j high = let known = length-changes cu cv e count count in get_or-eq_default (second_changes cu cv e count) 0 (omega arith)

-- a number is below the count or not
pub below_or_past : (j count : ℕ) → (j < count) ⊎ (count ≤ j)
below_or_past j count = elim (cases_Bool (nat_lt j count)) [ inl low ↦ inl (ltb-true j count low) | inr high ↦ inr (ltb-false j count high) ]

-- the changes are 0 where they reach no symbol after the first difference's round
early_zero : (cu cv e : List ℕ) (count j : ℕ) → j + first_difference cu cv < steered_from (first_difference cu cv) → slice_index (second_changes cu cv e count) j ≡ 0
early_zero cu cv e count j low = elim (below_or_past j count) [
  | inl within ↦ change_is cu cv e count j within ∙ ap (λ b. if b then 0 else next_change cu cv e (changes_up_to cu cv e count j)) (or_first _ (nat_le count (j + first_difference cu cv))
      (lt-ltb (j + first_difference cu cv) (steered_from (first_difference cu cv)) low))
  | inr past ↦ no_change_past cu cv e count j past
]

-- and where they reach past the session
late_zero : (cu cv e : List ℕ) (count j : ℕ) → count ≤ j + first_difference cu cv → slice_index (second_changes cu cv e count) j ≡ 0
late_zero cu cv e count j high = elim (below_or_past j count) [
  | inl within ↦ change_is cu cv e count j within ∙ ap (λ b. if b then 0 else next_change cu cv e (changes_up_to cu cv e count j))
      (or_second (nat_lt (j + first_difference cu cv) (steered_from (first_difference cu cv))) _ (le-leb count (j + first_difference cu cv) high))
  | inr past ↦ no_change_past cu cv e count j past
]

-- where they reach a symbol to be steered, they are the quotient
steered_change : (cu cv e : List ℕ) (count n j : ℕ) → j + first_difference cu cv ≡ n → steered_from (first_difference cu cv) ≤ n → n < count → slice_index (second_changes cu cv e count) j
    ≡ next_change cu cv e (changes_up_to cu cv e count j)
steered_change cu cv e count n j is from within =
    let p = first_difference cu cv in
    change_is cu cv e count j (omega arith)
    ∙ ap (λ b. if b || nat_le count (j + p) then 0 else next_change cu cv e (changes_up_to cu cv e count j)) (le-ltb (j + p) (steered_from p) (omega arith))
    ∙ ap (λ b. if b then 0 else next_change cu cv e (changes_up_to cu cv e count j)) (lt-leb count (j + p) (omega arith))

-- what was received alike has no difference
pub no_difference : (cu cv : List ℕ) (k : ℕ) → AreSymbols cu → k < first_difference cu cv → difference_at cu cv k ≡ 0
no_difference cu cv k good low =
    let same = agree_before cu cv k low in
    let symbol : slice_index cu k < 65537 = good k in
    ap (λ y. symbol_sub (slice_index cu k) y) (sym same) ∙ self_sub (slice_index cu k) symbol
  where
    self_sub : (x : ℕ) → x < 65537 → symbol_sub x x ≡ 0
    self_sub x low = omega arith

-- other symbols have a difference that is not 0
pub some_difference : (x y : ℕ) → x < 65537 → y < 65537 → x ≢ y → 0 < symbol_sub x y
some_difference x y low_x low_y other = omega arith

-- a difference is a symbol
pub symbol-below : (x y : ℕ) → symbol_sub x y < 65537
symbol-below x y = omega arith

-- a quotient times its divisor is what was divided
divided : (s d : ℕ) → s < 65537 → 0 < d → d < 65537 → (s * symbol_inverse d % 65537 * d) % 65537 ≡ s
divided s d low some high =
    let turned : s * symbol_inverse d * d ≡ s * (d * symbol_inverse d) = omega arith in
    let unit = inverse-inverts d some high in
    mul-mod_first (s * symbol_inverse d) d 65537 ∙ ap (λ z. z % 65537) turned ∙ sym (mul-mod_second s (d * symbol_inverse d) 65537) ∙ ap (λ u. (s * u) % 65537) unit ∙ unchanged s low
  where
    unchanged : (s : ℕ) → s < 65537 → s * 1 % 65537 ≡ s
    unchanged s low = omega arith

-- adding what is missing gives what is wanted
made_up : (a x e : ℕ) → e < 65537 → x % 65537 ≡ symbol_sub e (a % 65537) → (a + x) % 65537 ≡ e
made_up a x e low is = omega arith

-- at one difference the change of a place counts in full, at every other as the known changes say
pub split_at : (cu cv y known : List ℕ) (n j k : ℕ) → AreSymbols cu → j + first_difference cu cv ≡ n → k ≤ n → length known ≡ j → ((i : ℕ) → i < j → slice_index y i ≡ slice_index known i) →
    slice_index y (n - k) * difference_at cu cv k ≡ slice_index known (n - k) * difference_at cu cv k + cond (nat_eq k (first_difference cu cv)) (slice_index y j * difference_at cu cv
    (first_difference cu cv)) 0
split_at cu cv y known n j k good is within count same =
    let p = first_difference cu cv in
    elim (cases_Bool (nat_eq k p)) [
      | inl equal ↦ (let e : k ≡ p = eqb-true k p equal in
          let at : n - k ≡ j = omega arith in
          let left : slice_index y (n - k) * difference_at cu cv k ≡ slice_index y j * difference_at cu cv p = ap₂ (λ i q. slice_index y i * difference_at cu cv q) at e in
          let none : slice_index known (n - k) ≡ 0 = get_or-eq_default known 0 (omega arith) in
          let nothing : slice_index known (n - k) * difference_at cu cv k ≡ 0 = ap (λ z. z * difference_at cu cv k) none ∙ zero-mul (difference_at cu cv k) in
          let counted : cond (nat_eq k p) (slice_index y j * difference_at cu cv p) 0 ≡ slice_index y j * difference_at cu cv p = ap (λ b. cond b (slice_index y j * difference_at cu cv p) 0) equal in
          omega arith)
      | inr unequal ↦ (let passed : cond (nat_eq k p) (slice_index y j * difference_at cu cv p) 0 ≡ 0 = ap (λ b. cond b (slice_index y j * difference_at cu cv p) 0) unequal in
          let other : k ≢ p = eqb-false k p unequal in
          elim (below_or_past k p) [
            | inl before ↦ (let none : difference_at cu cv k ≡ 0 = no_difference cu cv k good before in
                let left : slice_index y (n - k) * difference_at cu cv k ≡ 0 = ap (λ d. slice_index y (n - k) * d) none ∙ mul-zero (slice_index y (n - k)) in
                let right : slice_index known (n - k) * difference_at cu cv k ≡ 0 = ap (λ d. slice_index known (n - k) * d) none ∙ mul-zero (slice_index known (n - k)) in
                omega arith)
            | inr after ↦ (let kept : slice_index y (n - k) * difference_at cu cv k ≡ slice_index known (n - k) * difference_at cu cv k = ap (λ z. z * difference_at cu cv k)
                (same (n - k) (omega arith)) in
                omega arith)
          ])
    ]

-- the numbers of symbols before the round of a steered symbol include that of the first difference
pub in_reach : (p n : ℕ) → steered_from p ≤ n → p < 16 * (n / 16)
in_reach p n from = omega arith

-- and they are all below that of the symbol
pub before_round : (n k : ℕ) → k < 0 + 16 * (n / 16) → k ≤ n
before_round n k low = omega arith

-- the computed changes give each steered symbol its wanted change
wanted_met : (cu cv e : List ℕ) (count n : ℕ) → AreSymbols cu → AreSymbols cv → AreSymbols e → slice_index cu (first_difference cu cv) ≢ slice_index cv (first_difference cu cv) →
    steered_from (first_difference cu cv) ≤ n → n < count → steered_symbol cu cv (second_changes cu cv e count) n ≡ slice_index e n
wanted_met cu cv e count n good_u good_v good_e differ from within =
    let p = first_difference cu cv in
    let y = second_changes cu cv e count in
    let j = n - p in
    let reach = in_reach p n from in
    let low_p = before_round n p (omega arith) in
    let is : j + p ≡ n = omega arith in
    let known = changes_up_to cu cv e count j in
    let places = length-changes cu cv e count j in
    let stations = range_with_len 0 (16 * (n / 16)) in
    let known_sum = sum_by (λ k. slice_index known (n - k) * difference_at cu cv k) stations in
    let change = slice_index y j * difference_at cu cv p in
    let sums : sum_by (λ k. slice_index y (n - k) * difference_at cu cv k) stations ≡ known_sum + change =
    sum_by-same (λ k. slice_index y (n - k) * difference_at cu cv k) (λ k. slice_index known (n - k) * difference_at cu cv k + cond (nat_eq k p) change 0) stations
    (λ k there. split_at cu cv y known n j k good_u is (before_round n k (below_range 0 (16 * (n / 16)) k there)) places (λ i low. changes_kept cu cv e count count j i low (omega arith)))
    ∙ sum_by-plus (λ k. slice_index known (n - k) * difference_at cu cv k) (λ k. cond (nat_eq k p) change 0) stations
    ∙ ap (λ s. known_sum + s) (sum_by-single (λ k. change) 0 (16 * (n / 16)) p zero-le (omega arith)) in
    let missing = symbol_sub (slice_index e n) (known_sum % 65537) in
    let quotient : slice_index y j ≡ missing * symbol_inverse (difference_at cu cv p) % 65537 =
    steered_change cu cv e count n j is from within
    ∙ ap (λ m. symbol_sub (slice_index e m) (steered_symbol cu cv known m) * symbol_inverse (difference_at cu cv p) % 65537) (ap (λ z. z + p) places ∙ is) in
    let some = some_difference (slice_index cu p) (slice_index cv p) (good_u p) (good_v p) differ in
    let given : change % 65537 ≡ missing = ap (λ z. z * difference_at cu cv p % 65537) quotient ∙ divided missing (difference_at cu cv p) (symbol-below (slice_index e n) (known_sum % 65537)) some
    (symbol-below (slice_index cu p) (slice_index cv p)) in
    ap (λ s. s % 65537) sums ∙ made_up known_sum change (slice_index e n) (good_e n) given

-- every change of second pads is a symbol
second-below : (cu cv e : List ℕ) (count j : ℕ) → slice_index (second_changes cu cv e count) j < 65537
second-below cu cv e count j = elim (below_or_past j count) [
  | inl within ↦ rw (change_is cu cv e count j within) (either_below (nat_lt (j + first_difference cu cv) (steered_from (first_difference cu cv)) || nat_le count (j + first_difference cu cv)))
  | inr past ↦ rw (no_change_past cu cv e count j past) (omega arith)
]
  where
    either_below : (b : Bool) → (if b then 0 else next_change cu cv e (changes_up_to cu cv e count j)) < 65537
    either_below true = omega arith
    either_below false = omega arith

-- a change of first pads is the one computed there
first_change_is : (cu y : List ℕ) (count n : ℕ) → n < count → slice_index (first_changes cu y count) n ≡ first_change cu y n
first_change_is cu y count n low = get_or-map-range_with_len (first_change cu y) 0 count n n 0 low (omega arith)

-- every change of first pads is a symbol
first-below : (cu y : List ℕ) (count n : ℕ) → slice_index (first_changes cu y count) n < 65537
first-below cu y count n = elim (below_or_past n count) [
  | inl within ↦ rw (first_change_is cu y count n within) (symbol-below 0 (gained_symbol cu y n))
  | inr past ↦ (let many = length-map-range_with_len (first_change cu y) 0 count in let none : slice_index (first_changes cu y count) n ≡ 0 = get_or-eq_default (first_changes cu y count) 0
      (omega arith) in rw none (omega arith))
]

-- it takes what the changes of second pads add
taken : (cu y : List ℕ) (count n : ℕ) → n < count → (slice_index (first_changes cu y count) n + gained_symbol cu y n) % 65537 ≡ 0
taken cu y count n low = rw (first_change_is cu y count n low) (cancels (gained_symbol cu y n) (below (sum_by (λ k. slice_index y (n - k) * slice_index cu k) (range_with_len 0 (16 * (n / 16))))))
  where
    below : (s : ℕ) → s % 65537 < 65537
    below s = omega arith

    cancels : (s : ℕ) → s < 65537 → (symbol_sub 0 s + s) % 65537 ≡ 0
    cancels s low = omega arith

-- the computed changes of pads are a steering
pub computed-steers : (cu cv e : List ℕ) (count : ℕ) → AreSymbols cu → AreSymbols cv → AreSymbols e → slice_index cu (first_difference cu cv) ≢ slice_index cv (first_difference cu cv)
    → (let y = second_changes cu cv e count in IsSteering cu cv e count (first_changes cu y count) y)
computed-steers cu cv e count good_u good_v good_e differ = record {
  first = record { many = length-map-range_with_len (first_change cu (second_changes cu cv e count)) 0 count; are_symbols = first-below cu (second_changes cu cv e count) count };
  second = record { many = length-changes cu cv e count count; are_symbols = second-below cu cv e count };
  kept = taken cu (second_changes cu cv e count) count;
  early = early_zero cu cv e count;
  late = late_zero cu cv e count;
  wanted = λ n. wanted_met cu cv e count n good_u good_v good_e differ;
}
