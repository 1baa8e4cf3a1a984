-- A symbol other than 0 times its inverse is 1.
use Rattle.std.proofs.Common.{◌≡◌, ℕ, zero, suc, ◌+◌, ◌-◌, ◌*◌, ◌/◌, ◌%◌, ◌<◌, ◌≤◌, ◌≢◌, ◌==◌, not, true, get_or, refl, sym, ◌∙◌, ap, subst, inl, inr, arith, nat_le, eqb-true, leb-true, leb-false, mod-lt, div-add-mod', mul-le-mul_left, zero-mul, one-mul}
use Rattle.std.proofs.lemmas.Nat.{mul-mod, mul-mod_first}
use Rattle.std.proofs.Math.Nat.{mul-mod_right}
use Rattle.std.proofs.lemmas.Bool.{not-true, eqb-false, cases_Bool}
use Rattle.std.proofs.lemmas.List.Sums.{AllPass-from_list_all}
use Rattle.std.proofs.lemmas.List.FromFn.{get_or-range_with_len, length-range_with_len}
use Rattle.std.specs.List.{range_with_len, list_all}
use Rattle.dc_spec.specs.Symbols.{power_below, symbol_inverse}

-- a product may be taken modulo 65537 before it is squared
square-mod : (x : ℕ) → (x % 65537 * (x % 65537)) % 65537 ≡ (x * x) % 65537
square-mod x = sym (mul-mod x x 65537)

-- the power of a product is the product of the powers
power-mul : (a b n : ℕ) → power_below (a * b % 65537) n ≡ (power_below a n * power_below b n) % 65537
unfolding power_below
power-mul a b zero = refl
power-mul a b (suc n) =
    let pa = power_below a n in
    let pb = power_below b n in
    let ih = power-mul a b n in
    let squares : (power_below (a * b % 65537) n * power_below (a * b % 65537) n) % 65537 ≡ (pa * pb * (pa * pb)) % 65537 = ap (λ x. x * x % 65537) ih ∙ square-mod (pa * pb) in
    let left : (power_below (a * b % 65537) n * power_below (a * b % 65537) n % 65537 * (a * b % 65537)) % 65537 ≡ (pa * pb * (pa * pb) * (a * b)) % 65537 =
    ap (λ x. (x * (a * b % 65537)) % 65537) squares ∙ sym (mul-mod (pa * pb * (pa * pb)) (a * b) 65537) in
    let right_a : (pa * pa % 65537 * a) % 65537 ≡ (pa * pa * a) % 65537 = mul-mod_first (pa * pa) a 65537 in
    let right_b : (pb * pb % 65537 * b) % 65537 ≡ (pb * pb * b) % 65537 = mul-mod_first (pb * pb) b 65537 in
    let right : (pa * pa % 65537 * a % 65537 * (pb * pb % 65537 * b % 65537)) % 65537 ≡ (pa * pa * a * (pb * pb * b)) % 65537 =
    ap (λ x. (x * (pb * pb % 65537 * b % 65537)) % 65537) right_a ∙ ap (λ x. (pa * pa * a % 65537 * x) % 65537) right_b ∙ sym (mul-mod (pa * pa * a) (pb * pb * b) 65537) in
    let same : pa * pb * (pa * pb) * (a * b) ≡ pa * pa * a * (pb * pb * b) = omega arith in
    left ∙ ap (λ x. x % 65537) same ∙ sym right

-- a symbol times its inverse
pub unit : ℕ → ℕ
unit x = x * symbol_inverse x % 65537

-- for a product it is the product
unit-mul : (a b : ℕ) → unit (a * b % 65537) ≡ (unit a * unit b) % 65537
unfolding unit
unit-mul a b =
    let pa = symbol_inverse a in
    let pb = symbol_inverse b in
    let same : a * b * (pa * pb) ≡ a * pa * (b * pb) = omega arith in
    ap (λ x. (a * b % 65537 * x) % 65537) (power-mul a b 16) ∙ sym (mul-mod (a * b) (pa * pb) 65537) ∙ ap (λ x. x % 65537) same ∙ mul-mod (a * pa) (b * pb) 65537

-- it is a symbol
unit-below : (x : ℕ) → unit x < 65537
unfolding unit
unit-below x = omega arith

-- small symbols, and minus one, by computation
small_units : list_all (λ x. unit x == 1) (range_with_len 1 256) ≡ true
unfolding power_below unit
small_units = refl

minus_one : unit 65536 ≡ 1
unfolding power_below unit
minus_one = refl

-- no number from 2 to 255 divides 65537
no_divisors : list_all (λ q. not (65537 % q == 0)) (range_with_len 2 254) ≡ true
no_divisors = refl

-- a small symbol
small_unit : (x : ℕ) → 0 < x → x ≤ 256 → unit x ≡ 1
small_unit x some low =
    let at : get_or (range_with_len 1 256) (x - 1) 0 ≡ 1 + (x - 1) = get_or-range_with_len 1 256 (x - 1) 0 (omega arith) in
    let same : get_or (range_with_len 1 256) (x - 1) 0 ≡ x = omega arith in
    let count = length-range_with_len 1 256 in
    eqb-true (unit x) 1 (subst (λ (z : ℕ). unit z == 1 ≡ true) same (AllPass-from_list_all (λ z. unit z == 1) (range_with_len 1 256) small_units (x - 1) 0 (omega arith)))

-- a number from 2 to 255 leaves a rest
no_divisor : (q : ℕ) → 2 ≤ q → q ≤ 255 → 65537 % q ≢ 0
no_divisor q some low =
    let at : get_or (range_with_len 2 254) (q - 2) 0 ≡ 2 + (q - 2) = get_or-range_with_len 2 254 (q - 2) 0 (omega arith) in
    let same : get_or (range_with_len 2 254) (q - 2) 0 ≡ q = omega arith in
    let count = length-range_with_len 2 254 in
    eqb-false (65537 % q) 0 (not-true (65537 % q == 0) (subst (λ (z : ℕ). not (65537 % z == 0) ≡ true) same (AllPass-from_list_all (λ z. not (65537 % z == 0)) (range_with_len 2 254) no_divisors
    (q - 2) 0 (omega arith))))

-- a larger symbol x: with 65537 = q * x + r both q and r are smaller, and x * q is minus r
larger_unit : (x q r : ℕ) → x < 65537 → q * x + r ≡ 65537 → r < x → 0 < r → unit q ≡ 1 → unit r ≡ 1 → unit x ≡ 1
larger_unit x q r high split rest some unit_q unit_r =
    let below : unit x < 65537 = unit-below x in
    let product : x * q % 65537 ≡ 65537 - r = omega arith in
    let minus : 65536 * r % 65537 ≡ 65537 - r = omega arith in
    let whole : unit x ≡ (unit x * 1) % 65537 = omega arith in
    whole ∙ ap (λ u. (unit x * u) % 65537) (sym unit_q) ∙ sym (unit-mul x q) ∙ ap unit (product ∙ sym minus) ∙ unit-mul 65536 r
    ∙ ap (λ u. (u * unit r) % 65537) minus_one ∙ ap (λ u. (1 * u) % 65537) unit_r

-- a number that is not 0
nonzero : (n : ℕ) → n ≢ 0 → 0 < n
nonzero n some = omega arith

-- and not 1 either
above_one : (n : ℕ) → 0 < n → n ≢ 1 → 2 ≤ n
above_one n some other = omega arith

-- all symbols but 0, from the smaller ones on
unit_below : (n x : ℕ) → x < n → 0 < x → x < 65537 → unit x ≡ 1
unit_below zero x low some high = absurd (omega arith)
unit_below (suc n) x low some high = elim (cases_Bool (nat_le x 256)) [
  | inl small ↦ small_unit x some (leb-true x 256 small)
  | inr large ↦ (let above : 256 < x = leb-false x 256 large in
      let q = 65537 / x in
      let r = 65537 % x in
      let split : q * x + r ≡ 65537 = div-add-mod' 65537 x in
      let rest : r < x = mod-lt 65537 some in
      let large_q : q * 257 ≤ q * x = mul-le-mul_left q (omega arith) in
      let some_q : 0 < q = nonzero q (λ none. (let e : q * x ≡ 0 = ap (λ z. z * x) none ∙ zero-mul x in omega arith)) in
      let some_r : 0 < r = nonzero r (λ none. no_divisor q
      (above_one q some_q (λ one. (let e : q * x ≡ x = ap (λ z. z * x) one ∙ one-mul x in omega arith)))
      (omega arith)
      (ap (λ z. z % q) (sym (let e : q * x ≡ 65537 = omega arith in e)) ∙ mul-mod_right q x)) in
      larger_unit x q r high split rest some_r (small_unit q some_q (omega arith)) (unit_below n r (omega arith) some_r (omega arith)))
]

-- a symbol other than 0 times its inverse is 1
pub inverse-inverts : (x : ℕ) → 0 < x → x < 65537 → x * symbol_inverse x % 65537 ≡ 1
unfolding unit
inverse-inverts x some high = unit_below 65537 x high some high
