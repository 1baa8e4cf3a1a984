-- Laws of the powers of 3 modulo 65537.
use Rattle.std.proofs.Common.{◌≡◌, ◌≢◌, ℕ, zero, suc, ◌+◌, ◌-◌, ◌*◌, ◌/◌, ◌%◌, ◌^◌, ◌<◌, ◌≤◌, refl, sym, ap, ◌∙◌, arith, inl, inr}
use Rattle.std.proofs.Math.Nat.{pow-suc}
use Rattle.std.proofs.lemmas.Bool.{cases_lt, cases_eq}
use Rattle.std.proofs.lemmas.Nat.{mul-mod, pow-add}
use Rattle.dc_transform_rules.specs.Residues.{plus, times, root}
use Rattle.dc_transform_rules.proofs.ResidueLemmas.{times-zero, times-comm, times-assoc, plus-minus}

pub root-add : (x y : ℕ) → times (root x) (root y) ≡ root (x + y)
unfolding times root
root-add x y = sym (mul-mod (3 ^ x) (3 ^ y) 65537) ∙ ap (λ n. n % 65537) (sym (pow-add 3 x y))

pub root-below : (x : ℕ) → root x < 65537
unfolding root
root-below x = omega arith

pub times_one-root : (x : ℕ) → times 1 (root x) ≡ root x
unfolding times root
times_one-root x = omega arith

-- minus one, and the whole turn
pub half_turn : root 32768 ≡ 65536
unfolding root
half_turn = refl

pub whole_turn : root 65536 ≡ 1
unfolding root
whole_turn = refl

-- the square of the constant of a node
pub root-half : (y : ℕ) → y / 2 + y / 2 ≡ y → times (root (y / 2)) (root (y / 2)) ≡ root y
root-half y even = root-add (y / 2) (y / 2) ∙ ap root even

-- the constant of the other half, and its square
pub root-opposite : (z : ℕ) → root (z + 32768) ≡ times 65536 (root z)
root-opposite z = sym (root-add z 32768) ∙ ap (times (root z)) half_turn ∙ times-comm (root z) 65536

pub root-turn : (x : ℕ) → root (x + 65536) ≡ root x
root-turn x = sym (root-add x 65536) ∙ ap (times (root x)) whole_turn ∙ times-comm (root x) 1 ∙ times_one-root x

pub root-other_half : (y : ℕ) → y / 2 + y / 2 ≡ y → times (root (y / 2 + 32768)) (root (y / 2 + 32768)) ≡ root y
root-other_half y even =
    let twice : y / 2 + 32768 + (y / 2 + 32768) ≡ y + 65536 = omega arith in
    root-add (y / 2 + 32768) (y / 2 + 32768) ∙ ap root twice ∙ root-turn y

-- both constants of a node cancel
pub roots-cancel : (z : ℕ) → plus (root z) (root (z + 32768)) ≡ 0
roots-cancel z = ap (plus (root z)) (root-opposite z) ∙ plus-minus (root z)

square_of_minus : times 65536 65536 ≡ 1
unfolding times
square_of_minus = refl

pub root-opposite_back : (z : ℕ) → times 65536 (root (z + 32768)) ≡ root z
root-opposite_back z =
    ap (times 65536) (root-opposite z) ∙ sym (times-assoc 65536 65536 (root z)) ∙ ap (λ n. times n (root z)) square_of_minus ∙ times_one-root z

-- the inverse of a power
pub root-inverse : (z : ℕ) → z ≤ 65536 → times (root (65536 - z)) (root z) ≡ 1
root-inverse z within =
    let whole : 65536 - z + z ≡ 65536 = omega arith in
    root-add (65536 - z) z ∙ ap root whole ∙ whole_turn

-- whole turns change nothing
root-turns : (x q : ℕ) → root (x + 65536 * q) ≡ root x
root-turns x zero = (let e : x + 65536 * 0 ≡ x = omega arith in ap root e)
root-turns x (suc q) =
    let e : x + 65536 * suc q ≡ x + 65536 * q + 65536 = omega arith in
    ap root e ∙ root-turn (x + 65536 * q) ∙ root-turns x q

-- a power whose exponent leaves a half turn is minus one
root-half_turn : (k : ℕ) → k % 65536 ≡ 32768 → root k ≡ 65536
root-half_turn k half =
    let e : 32768 + 65536 * (k / 65536) ≡ k = omega arith in
    sym (ap root e) ∙ root-turns 32768 (k / 65536) ∙ half_turn

times_one-one : times 1 1 ≡ 1
unfolding times
times_one-one = refl

-- only whole turns give one: doubling such an exponent would come to a half turn first
not_one : (j k m : ℕ) → k * 2 ^ j ≡ 65536 * m → k % 65536 ≢ 0 → root k ≢ 1
not_one zero k m whole part one = part (let e : k * 1 ≡ 65536 * m = whole in omega arith)
not_one (suc j) k m whole part one =
    let p : 2 ^ suc j ≡ 2 ^ j * 2 = pow-suc 2 j in
    let double : (k + k) * 2 ^ j ≡ 65536 * m = (let e : k * (2 ^ j * 2) ≡ (k + k) * 2 ^ j = omega arith in sym e ∙ ap (λ n. k * n) (sym p) ∙ whole) in
    let square : root (k + k) ≡ 1 = sym (root-add k k) ∙ ap (λ n. times n n) one ∙ times_one-one in
    elim (cases_eq ((k + k) % 65536) 0) [
      | inl round ↦ (let half : k % 65536 ≡ 32768 = omega arith in let minus = root-half_turn k half in omega arith)
      | inr other ↦ not_one j (k + k) m double other square
    ]

pub root-not_one : (k : ℕ) → k % 65536 ≢ 0 → root k ≢ 1
root-not_one k part = not_one 16 k k (omega arith) part

-- and only half a turn gives minus one
root-not_minus_one : (x : ℕ) → (x + 32768) % 65536 ≢ 0 → root x < 65536
root-not_minus_one x part = elim (cases_lt (root x) 65536) [
  | inl lt ↦ lt
  | inr le ↦
      let below = root-below x in
      let minus : root x ≡ 65536 = omega arith in
      absurd (root-not_one (x + 32768) part (root-opposite x ∙ ap (times 65536) minus ∙ square_of_minus))
]

-- so the powers of the table fit 16 bits
pub root-fits : (x : ℕ) → x < 32768 → root x < 65536
root-fits x low = root-not_minus_one x (λ none. omega arith)

-- the inverse of the constant of a node is a power of the table, taken negative
pub negative_of : (r s : ℕ) → s ≡ times 65536 r → 0 < r → r < 65537 → s + r ≡ 65537
unfolding times
negative_of r s is some below = omega arith

root-some : (x : ℕ) → x ≤ 65536 → 0 < root x
root-some x within = elim (cases_lt 0 (root x)) [
  | inl some ↦ some
  | inr none ↦
      let zero_root : root x ≡ 0 = omega arith in
      let whole = root-inverse x within in
      let nothing : times (root (65536 - x)) (root x) ≡ 0 = ap (times (root (65536 - x))) zero_root ∙ times-zero (root (65536 - x)) in
      absurd (omega (arith, whole, nothing))
]

pub root-negative : (z : ℕ) → 0 < z → z < 32768 → root (65536 - z) + root (32768 - z) ≡ 65537
root-negative z some low =
    let e : 65536 - z ≡ 32768 - z + 32768 = omega arith in
    negative_of (root (32768 - z)) (root (65536 - z)) (ap root e ∙ root-opposite (32768 - z)) (root-some (32768 - z) (omega arith)) (root-below (32768 - z))

pub root-inverse_fits : (z : ℕ) → z < 32768 → root (65536 - z) < 65536
root-inverse_fits z low = root-not_minus_one (65536 - z) (λ none. omega arith)

three : root 1 ≡ 3
unfolding root
three = refl

-- the next power
pub root-more : (x : ℕ) → times 3 (root x) ≡ root (x + 1)
root-more x = times-comm 3 (root x) ∙ ap (times (root x)) (sym three) ∙ root-add x 1

pub root_zero : root 0 ≡ 1
unfolding root
root_zero = refl
